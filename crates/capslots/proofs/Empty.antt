-- A row's lowest empty slot: what it is, and that an install there succeeds. Assumes nothing.
use Rattle.std.specs.Prelude.{None, Option, Some, Ok}
use mathlib.Core.Path.{◌≡◌}
use mathlib.Core.Bool.{true, false}
use Prim.Native.Nat.{ℕ, ◌<◌}
use native.Mathlib.Omega.{arith}
use borrow.Author.Tests.{leb-false, lt-leb}
use Rattle.laws.specs.Pick.{pick}
use Rattle.laws.proofs.Cases.{all_pick}
use Rattle.laws.proofs.Search.{lowest_at, none_free}
use Rattle.cap.specs.Slot.{holding}
use Rattle.cap.specs.declared.CapId.{CapId}
use Rattle.capslots.specs.Table.{row_at, slot_in, with_slot}
use Rattle.capslots.specs.Rows.{taken_in, install_of, empty_slot_of}
use Rattle.capslots.specs.declared.Table.{Table}

-- slot s is the lowest empty one of row r
pub record LowestEmpty (t : Table) (r s : ℕ) : Type 0 where
  pub row : r < 54
  pub slot : s < 4
  pub empty : (slot_in t r s).present ≡ false
  pub lower : (p : ℕ) → p < s → (slot_in t r p).present ≡ true

module _ (t : Table) (r : ℕ) where
  -- what was found is that
  pub empty_found : (s : ℕ) → empty_slot_of t r ≡ Some s → LowestEmpty t r s
  unfolding empty_slot_of
  empty_found s =
      all_pick (λ (o : Option ℕ). o ≡ Some s → LowestEmpty t r s) _ _ _
      (λ _ e. let z : ◌≡◌ {A = ℕ} 0 1 = cc in absurd (omega arith))
      (λ l e. let f = lowest_at (taken_in (row_at t r)) 0 4 s e in
      record { row = leb-false 54 r l; slot = f.below; empty = f.free; lower = λ p b. f.lower p (omega arith) b })

  -- where nothing was found, no slot of the row is empty
  pub none_empty : r < 54 → empty_slot_of t r ≡ None → (s : ℕ) → s < 4 → (slot_in t r s).present ≡ true
  unfolding empty_slot_of pick
  none_empty l e s b = none_free (taken_in (row_at t r)) 0 4 (rw (lt-leb 54 r l) at e) s (omega arith) b

  -- an install into the slot that was found succeeds
  pub installs_there : (s : ℕ) (c : CapId) → empty_slot_of t r ≡ Some s → install_of t r s c ≡ record { answer = Ok tt; table = with_slot t r s (holding c) }
  unfolding install_of pick
  installs_there s c e = let f = empty_found s e in rw (lt-leb 54 r f.row, lt-leb 4 s f.slot, f.empty)
