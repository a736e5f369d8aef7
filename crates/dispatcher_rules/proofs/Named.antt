-- A slot that names an id stands in a row that holds it, and that row is one of the 54. Assumes nothing.
use Rattle.std.specs.Prelude.{Ok, Result}
use mathlib.Core.Path.{◌≡◌, refl, ap}
use mathlib.Core.Bool.{Bool, true, false, ◌||◌}
use mathlib.Core.Logic.{⊎_elim}
use Prim.Native.Nat.{ℕ, zero, suc, ◌<◌}
use native.Mathlib.Nat.{not-suc-le-zero, le_of_suc-le-suc, eq-or-lt_of_le}
use native.Mathlib.Omega.{arith}
use borrow.Author.Tests.{ltb-true, leb-false, eq-eqb}
use lib.Dec.{leb}
use Rattle.laws.specs.Pick.{pick}
use Rattle.laws.specs.Every.{some}
use Rattle.laws.proofs.Cases.{all_pick}
use Rattle.cap.specs.Slot.{from_slot, slot_number}
use Rattle.cap.specs.declared.CapId.{CapId}
use Rattle.capslots.specs.Table.{slot_in}
use Rattle.capslots.specs.Rows.{names_id, get_of, holds_of}
use Rattle.capslots.specs.declared.Table.{Table as Rows}
use Rattle.cap.specs.declared.slot.SlotError.{SlotError}

or_right : (a b : Bool) → b ≡ true → (a || b) ≡ true
or_right true b e = refl
or_right false b e = e

some_at : (f : ℕ → Bool) (n k : ℕ) → k < n → f k ≡ true → some f n ≡ true
unfolding some
some_at f zero k l e = absurd (not-suc-le-zero l)
some_at f (suc n) k l e =
    ⊎_elim (λ q. or_right (some f n) (f n) (rw (← q) e)) (λ p. simp (some_at f n k p e)) (eq-or-lt_of_le (le_of_suc-le-suc l))

module _ (rows : Rows) (r s : ℕ) (c : CapId) where
  slot_names : (slot_in rows r s).present ≡ true → (slot_in rows r s).id ≡ c → names_id c (slot_in rows r s) ≡ true
  unfolding pick
  slot_names p e = rw p (eq-eqb _ _ (ap (λ (i : CapId). i.raw) e))

  held : leb 54 r ≡ false → s < 4 → names_id c (slot_in rows r s) ≡ true → holds_of rows r c ≡ true
  unfolding holds_of pick
  held l b n = rw l (some_at (λ p. names_id c (slot_in rows r p)) 4 s b n)

  Held : Result CapId SlotError → Type 0
  Held o = o ≡ Ok c → holds_of rows r c ≡ true

  pub names_held : get_of rows r s ≡ Ok c → holds_of rows r c ≡ true
  unfolding get_of from_slot Held
  names_held =
      all_pick Held _ _ _ (λ _ e. absurd (omega (arith, ap slot_number e)))
      (λ l. all_pick Held _ _ _
      (λ below. all_pick Held _ _ _ (λ present e. held l (ltb-true s 4 below) (slot_names present (cc))) (λ _ e. absurd (omega (arith, ap slot_number e))))
      (λ _ e. absurd (omega (arith, ap slot_number e))))

  InRows : Result CapId SlotError → Type 0
  InRows o = o ≡ Ok c → r < 54

  pub names_row : get_of rows r s ≡ Ok c → r < 54
  unfolding get_of InRows
  names_row = all_pick InRows _ _ _ (λ _ e. absurd (omega (arith, ap slot_number e))) (λ l _. leb-false 54 r l)
