-- The answering of a script into buffers of 315 bytes or more comes to its end: each part that ends for want of room has gone forward. Assumes
-- nothing.
use mathlib.Core.Path.{subst}
use mathlib.Core.List.{List}
use mathlib.Core.Logic.{⊎_elim}
use Prim.Native.Nat.{ℕ, zero, suc, ◌-◌, ◌<◌}
use native.Mathlib.Omega.{arith}
use lib.ListN.{length}
use Rattle.jobtext.specs.Text.{text_at, start_place}
use Rattle.jobtext.specs.Answer.{answer_of}
use Rattle.jobtext.specs.Ends.{PrintsInto, last, next, Roomy, AnswersEnd}
use Rattle.jobtext.specs.declared.Place.{Place}
use Rattle.jobtext.proofs.Printed.{answer_says}
use Rattle.jobtext.proofs.Progress.{Placed, start_placed, answer_leaves}

module _ (script : List ℕ) (supply : ℕ → ℕ) (roomy : Roomy supply) where
  -- k bounds what is left of the script
  ends : (k i : ℕ) (p : Place) → Placed script p → length script - p.offset < k → PrintsInto script supply i p (text_at script p)
  ends zero i p h few = absurd (omega arith)
  ends (suc k) i p h few =
      let g = answer_leaves script (supply i) p h in
      let c = answer_says script (supply i) p in
      ⊎_elim
      (λ a. subst (λ (text : List ℕ). PrintsInto script supply i p text) (c.whole a) (last a))
      (λ a.
      let onward = g.onward (roomy i) a in
      let inside = g.placed.inside in
      subst (λ (text : List ℕ). PrintsInto script supply i p text) (c.begun a) (next a (ends k (suc i) (answer_of script (supply i) p).place g.placed (omega arith))))
      g.settled

pub answers_end : AnswersEnd
answers_end script supply roomy = ends script supply roomy (suc (length script)) 0 start_place (start_placed script) (omega arith)
