-- How many slots of a list hold a mailbox's send end, by what each slot opens; and a count raised that often. Assumes nothing.
use mathlib.Core.Path.{◌≡◌, refl, sym, ◌∙◌}
use mathlib.Core.List.{List, [], ◌∷◌}
use Prim.Native.Nat.{ℕ, zero, suc, ◌+◌, ◌≤◌}
use native.Mathlib.Omega.{arith}
use borrow.Author.Tests.{eq-eqb, ne_eqb, lt-ltb}
use Rattle.laws.specs.Pick.{pick}
use Rattle.cap.specs.declared.slot.Slot.{Slot}
use Rattle.ipc_rules.specs.Counts.{raised}
use Rattle.ipc_rules.specs.Opening.{hold_of, opened}
use Rattle.ipc_rules.specs.Views.{held_by, held_in, raised_by, Steady}
use Rattle.ipc_rules.specs.declared.state.Table.{Table}
use Rattle.ipc_rules.specs.declared.opening.Opening.TheVariants.{Opens, Shut}
use Rattle.ipc_rules.proofs.OtherOpenings.{hold_steady}

module _ (t : Table) (k : ℕ) (x : Slot) where
  pub held_none : hold_of t x ≡ Shut → held_by t k x ≡ 0
  unfolding held_by opened
  held_none o = rw o

  pub held_one : hold_of t x ≡ Opens k → held_by t k x ≡ 1
  unfolding held_by opened pick
  held_one o = rw (o, eq-eqb k k refl)

  pub held_other : (j : ℕ) → hold_of t x ≡ Opens j → (k ≡ j → ⊥) → held_by t k x ≡ 0
  unfolding held_by opened pick
  held_other j o ne = rw (o, ne_eqb j k (λ e. ne (sym e)))

-- where ids open what they opened, slots hold what they held
pub held_steady : (t u : Table) (k : ℕ) (xs : List Slot) → Steady t u → held_in u k xs ≡ held_in t k xs
unfolding held_in held_by
held_steady t u k [] a = refl
held_steady t u k (x ∷ xs) a = rw (hold_steady t u a x, held_steady t u k xs a)

-- raised a times, then b times
pub raised_then : (a b count : ℕ) → raised_by b (raised_by a count) ≡ raised_by (a + b) count
unfolding raised_by
raised_then zero b count = let e : 0 + b ≡ b = omega arith in rw e
raised_then (suc a) b count = let e : suc a + b ≡ suc (a + b) = omega arith in rw e (raised_then a b (raised count))

-- below the stop it is an addition
pub raised_few : (n count : ℕ) → count + n ≤ 4294967295 → raised_by n count ≡ count + n
unfolding raised_by raised pick
raised_few zero count h = let e : count ≡ count + 0 = omega arith in e
raised_few (suc n) count h =
    let l = lt-ltb count 4294967295 (omega arith) in
    let e : count + 1 + n ≡ count + suc n = omega arith in
    rw l (raised_few n (count + 1) (omega arith) ∙ e)
