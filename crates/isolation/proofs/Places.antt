-- The jobs in a dispatcher's places after one is written anew. Assumes nothing.
use mathlib.Core.Path.{◌≡◌, refl, ◌∙◌}
use mathlib.Core.Bool.{true, false}
use mathlib.Core.List.{List, [], ◌∷◌}
use Prim.Native.Nat.{ℕ, zero, suc, ◌<◌}
use native.Mathlib.Omega.{arith}
use lib.ListN.{get_or, length, length-set}
use lib.Seq.{get_or-set_same, get_or-set_other}
use Rattle.laws.proofs.Cases.{not_both}
use Rattle.dispatcher_rules.specs.State.{job_at, with_job}
use Rattle.dispatcher_rules.specs.declared.state.Dispatcher.{Dispatcher}
use Rattle.dispatcher_rules.specs.declared.state.Job.{Job}
use Rattle.dispatcher_rules.specs.declared.state.Tag.{Tag}
use Rattle.isolation.specs.Jobs.{BoundTo}

-- a job that is open is in one of the places
within : (l : List Job) (p : ℕ) (past : Job) → past.«open» ≡ false → (get_or l p past).«open» ≡ true → p < length l
within [] p past e o = absurd (not_both past.«open» o e)
within (j ∷ l) zero past e o = omega arith
within (j ∷ l) (suc p) past e o = let h = within l p past e o in omega arith

pub open_inside : (d : Dispatcher) (p : ℕ) → length d.jobs ≡ 16 → (job_at d p).«open» ≡ true → p < 16
open_inside d p full o = let h = within d.jobs p _ refl o in omega (arith, full)

module _ (d : Dispatcher) (p : ℕ) (job : Job) where
  pub other_job : (q : ℕ) → (q ≡ p → ⊥) → job_at (with_job d p job) q ≡ job_at d q
  other_job q n = get_or-set_other d.jobs p q job _ n

  -- tags are bound as they were
  pub bound_still : {tag : Tag} {r : ℕ} → BoundTo d tag r → BoundTo (with_job d p job) tag r
  bound_still b = record { variant = b.variant; among = b.among; tagged = b.tagged; row = b.row }

  module _ (full : length d.jobs ≡ 16) where
    pub new_job : p < 16 → job_at (with_job d p job) p ≡ job
    new_job l = get_or-set_same d.jobs p job _ (omega (arith, full))

    pub places_kept : length (with_job d p job).jobs ≡ 16
    places_kept = length-set d.jobs p job ∙ full
