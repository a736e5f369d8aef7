-- What each slot of each row holds after one is changed, and that a table keeps its shape. Assumes nothing.
use mathlib.Core.Path.{◌≡◌, refl, ◌∙◌}
use mathlib.Core.List.{[]}
use Prim.Native.Nat.{ℕ, ◌<◌}
use native.Mathlib.Omega.{arith}
use lib.ListN.{length, length-set, length-replicate, get_or-replicate}
use lib.Seq.{get_or-set_same, get_or-set_other}
use Rattle.laws.proofs.Bools.{by_equal}
use Rattle.cap.specs.Slot.{vacant_slot}
use Rattle.cap.specs.declared.slot.Slot.{Slot}
use Rattle.capslots.specs.Table.{empty_row, fresh_table, row_at, slot_in, with_row, with_slot, Shape}
use Rattle.capslots.specs.declared.Row.{Row}
use Rattle.capslots.specs.declared.Table.{Table}

module _ (t : Table) (r : ℕ) (row : Row) where
  pub other_row : (q : ℕ) → (q ≡ r → ⊥) → row_at (with_row t r row) q ≡ row_at t q
  other_row q n = get_or-set_other t.rows r q row _ n

  module _ (shape : Shape t) (inside : r < 54) where
    pub new_row : row_at (with_row t r row) r ≡ row
    new_row = get_or-set_same t.rows r row _ (omega (arith, shape.rows))

    -- a table keeps its shape with another row of four
    pub shape_row : length row.slots ≡ 4 → Shape (with_row t r row)
    shape_row four = record {
      rows = length-set t.rows r row ∙ shape.rows;
      slots = λ q l. by_equal q r (λ e. rw (e, new_row) four) (λ n. rw (other_row q n) (shape.slots q l));
    }

pub other_row_slot : (t : Table) (r s : ℕ) (x : Slot) (q : ℕ) → (q ≡ r → ⊥) → row_at (with_slot t r s x) q ≡ row_at t q
other_row_slot t r s x q n = other_row t r _ q n

module _ (t : Table) (shape : Shape t) (r s : ℕ) (x : Slot) (row_inside : r < 54) where
  pub new_slot : s < 4 → slot_in (with_slot t r s x) r s ≡ x
  new_slot l =
      rw (new_row t r _ shape row_inside) (get_or-set_same (row_at t r).slots s x vacant_slot (omega (arith, shape.slots r row_inside)))

  -- every other place holds what it held
  pub other_slot : (q p : ℕ) → (q ≡ r → p ≡ s → ⊥) → slot_in (with_slot t r s x) q p ≡ slot_in t q p
  other_slot q p n =
      by_equal q r
      (λ e. rw (e, new_row t r _ shape row_inside) (get_or-set_other (row_at t r).slots s p x vacant_slot (n e)))
      (λ m. rw (other_row t r _ q m) refl)

  pub shape_slot : Shape (with_slot t r s x)
  shape_slot = shape_row t r _ shape row_inside (length-set (row_at t r).slots s x ∙ shape.slots r row_inside)

pub shape_fresh : Shape fresh_table
shape_fresh = record { rows = length-replicate 54 empty_row; slots = λ r l. rw (get_or-replicate 54 r empty_row (record { slots = [] }) l) refl }

-- a new table's slots are all vacant
pub fresh_vacant : (r s : ℕ) → r < 54 → s < 4 → slot_in fresh_table r s ≡ vacant_slot
fresh_vacant r s l m = rw (get_or-replicate 54 r empty_row (record { slots = [] }) l) (get_or-replicate 4 s vacant_slot vacant_slot m)
