-- What a line shows of an answer of the rows is at most twelve values. Assumes nothing.
use mathlib.Core.Bool.{Bool}
use mathlib.Core.List.{List, [], ◌∷◌}
use Prim.Native.Nat.{◌≤◌}
use native.Mathlib.Omega.{arith}
use lib.Dec.{lit≤}
use lib.ListN.{get_or, length}
use Rattle.laws.proofs.Cases.{all_pick}
use Rattle.shown.proofs.Few.{Few, four_few}
use Rattle.cap.specs.Slot.{vacant_slot}
use Rattle.cap.specs.declared.slot.Slot.{Slot}
use Rattle.capslots.specs.Answers.{held_values, drain_values, holds_values}

held_few : (s : Slot) → length (held_values s) ≤ 3
unfolding held_values
held_few s = all_pick (λ l. length l ≤ 3) s.present (1 ∷ s.id.raw ∷ []) (0 ∷ []) (λ _. omega arith) (λ _. omega arith)

pub drain_few : (ss : List Slot) → Few (drain_values ss)
drain_few ss = four_few held_values held_few (get_or ss 0 vacant_slot) (get_or ss 1 vacant_slot) (get_or ss 2 vacant_slot) (get_or ss 3 vacant_slot)

pub holds_few : (b : Bool) → Few (holds_values b)
unfolding holds_values
holds_few b = all_pick Few b (1 ∷ []) (0 ∷ []) (λ _. lit≤ tt) (λ _. lit≤ tt)
