-- What is left of two ids that were forgotten: nothing, in any row, and every other slot as it was. Assumes nothing.
use mathlib.Core.Path.{◌≡◌, refl, ◌∙◌}
use mathlib.Core.Bool.{Bool, true, false, ◌||◌}
use mathlib.Core.List.{[]}
use Prim.Native.Nat.{ℕ}
use lib.ListN.{length-map, get_or-map}
use Rattle.laws.specs.Pick.{pick}
use Rattle.laws.specs.Every.{some}
use Rattle.laws.proofs.Cases.{all_pick, not_both}
use Rattle.cap.specs.Slot.{vacant_slot}
use Rattle.cap.specs.declared.CapId.{CapId}
use Rattle.cap.specs.declared.slot.Slot.{Slot}
use Rattle.capslots.specs.Table.{row_at, slot_in, Shape}
use Rattle.capslots.specs.Rows.{names_id, holds_of, forget_in, forget_row, forgotten_of}
use Rattle.capslots.specs.declared.Table.{Table}

neither : (p q : Bool) → (p || q) ≡ false → (p ≡ false) × (q ≡ false)
neither false q e = (refl, e)
neither true q e = absurd (not_both true refl e)

-- an id that no slot holds, the row does not hold
unheld : (t : Table) (r : ℕ) (c : CapId) → ((s : ℕ) → names_id c (slot_in t r s) ≡ false) → holds_of t r c ≡ false
unfolding holds_of some
unheld t r c none = all_pick (λ h. h ≡ false) _ _ _ (λ _. refl) (λ _. simp (none 0, none 1, none 2, none 3))

vacant_names : (c : CapId) → names_id c vacant_slot ≡ false
unfolding pick
vacant_names c = refl

module _ (a b : CapId) where
  -- a slot that has forgotten holds neither
  forgets : (x : Slot) → (names_id a (forget_in a b x) ≡ false) × (names_id b (forget_in a b x) ≡ false)
  unfolding forget_in
  forgets x =
      all_pick (λ (y : Slot). (names_id a y ≡ false) × (names_id b y ≡ false)) (names_id a x || names_id b x) _ _
      (λ _. (vacant_names a, vacant_names b)) (neither (names_id a x) (names_id b x))

  -- and one that held neither is kept
  keeps : (x : Slot) → names_id a x ≡ false → names_id b x ≡ false → forget_in a b x ≡ x
  unfolding forget_in pick
  keeps x p q = simp (p, q)

module _ (t : Table) (a b : CapId) where
  forgotten_row : (r : ℕ) → row_at (forgotten_of t a b) r ≡ forget_row a b (row_at t r)
  unfolding forgotten_of
  forgotten_row r = get_or-map (forget_row a b) t.rows r (record { slots = [] })

  -- each slot by itself, also past the table's end
  pub forgotten_slot : (r s : ℕ) → slot_in (forgotten_of t a b) r s ≡ forget_in a b (slot_in t r s)
  unfolding forget_in pick
  forgotten_slot r s = rw (forgotten_row r) (get_or-map (forget_in a b) (row_at t r).slots s vacant_slot)

  -- one that held neither is as it was
  pub forgotten_other : (r s : ℕ) → names_id a (slot_in t r s) ≡ false → names_id b (slot_in t r s) ≡ false → slot_in (forgotten_of t a b) r s ≡ slot_in t r s
  forgotten_other r s p q = forgotten_slot r s ∙ keeps a b (slot_in t r s) p q

  -- no row holds either
  pub forgotten_first : (r : ℕ) → holds_of (forgotten_of t a b) r a ≡ false
  forgotten_first r = unheld (forgotten_of t a b) r a (λ s. rw (forgotten_slot r s) (forgets a b (slot_in t r s)).0)

  pub forgotten_second : (r : ℕ) → holds_of (forgotten_of t a b) r b ≡ false
  forgotten_second r = unheld (forgotten_of t a b) r b (λ s. rw (forgotten_slot r s) (forgets a b (slot_in t r s)).1)

  pub forgotten_shape : Shape t → Shape (forgotten_of t a b)
  unfolding forgotten_of
  forgotten_shape shape = record {
    rows = length-map t.rows (forget_row a b) ∙ shape.rows;
    slots = λ r l. rw (forgotten_row r) (length-map (row_at t r).slots (forget_in a b) ∙ shape.slots r l);
  }
