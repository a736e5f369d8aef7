-- Sums over the slots of all rows: where one slot or one row is another, and where the summed agree. Assumes nothing.
use mathlib.Core.Path.{◌≡◌, refl, ap}
use mathlib.Core.List.{List, [], ◌∷◌, map}
use Prim.Native.Nat.{ℕ, zero, suc, ◌+◌, ◌*◌, ◌≤◌, ◌<◌}
use native.Mathlib.Nat.{suc-mul}
use native.Mathlib.Omega.{arith}
use lib.ListN.{get_or, set, length}
use Rattle.cap.specs.Slot.{vacant_slot}
use Rattle.cap.specs.declared.slot.Slot.{Slot}
use Rattle.capslots.specs.Table.{row_at, slot_in, with_row, with_slot, Shape}
use Rattle.capslots.specs.declared.Row.{Row}
use Rattle.capslots.specs.declared.Table.{Table as Rows}
use Rattle.tally.specs.Count.{sum_over, over_slots}

-- ---- lists
module _ {A : Type 0} (f : A → ℕ) where
  pub sum_set : (l : List A) (i : ℕ) (a d : A) → i < length l → sum_over f (set l i a) + f (get_or l i d) ≡ sum_over f l + f a
  unfolding sum_over
  sum_set [] i a d l = absurd (omega arith)
  sum_set (x ∷ xs) zero a d l = omega arith
  sum_set (x ∷ xs) (suc i) a d l = let h = sum_set xs i a d (omega arith) in omega arith

  pub sum_same : (g : A → ℕ) (l : List A) (d : A) → ((i : ℕ) → i < length l → f (get_or l i d) ≡ g (get_or l i d)) → sum_over f l ≡ sum_over g l
  unfolding sum_over
  sum_same g [] d h = refl
  sum_same g (x ∷ xs) d h = let a = h 0 (omega arith) in let b = sum_same g xs d (λ i l. h (suc i) (omega arith)) in omega arith

  pub sum_map : {B : Type 0} (g : B → A) (l : List B) → sum_over f (map g l) ≡ sum_over (λ x. f (g x)) l
  unfolding sum_over
  sum_map g [] = refl
  sum_map g (x ∷ xs) = ap (λ (n : ℕ). f (g x) + n) (sum_map g xs)

  -- a sum of n numbers of at most m
  pub sum_most : (m n : ℕ) (l : List A) (d : A) → length l ≡ n → ((i : ℕ) → i < length l → f (get_or l i d) ≤ m) → sum_over f l ≤ n * m
  unfolding sum_over
  sum_most m n [] d e h = omega arith
  sum_most m zero (x ∷ xs) d e h = absurd (omega arith)
  sum_most m (suc n) (x ∷ xs) d e h = let a = h 0 (omega arith) in let b = sum_most m n xs d (omega arith) (λ i l. h (suc i) (omega arith)) in let c = suc-mul n m in omega (arith, c)

-- nothing summed is nothing
none_sum : {A : Type 0} (l : List A) → sum_over (λ (_ : A). 0) l ≡ 0
unfolding sum_over
none_sum [] = refl
none_sum (x ∷ xs) = let h = none_sum xs in omega arith

zeros : (l : List Row) → sum_over (λ (row : Row). sum_over (λ (_ : Slot). 0) row.slots) l ≡ 0
unfolding sum_over
zeros [] = refl
zeros (row ∷ l) = let a = none_sum row.slots in let b = zeros l in omega arith

pub sum_zero : (t : Rows) → over_slots (λ _. 0) t ≡ 0
unfolding over_slots
sum_zero t = zeros t.rows

-- ---- rows
module _ (f : Slot → ℕ) (t : Rows) (shape : Shape t) where
  pub sum_row : (r : ℕ) (row : Row) → r < 54 → over_slots f (with_row t r row) + sum_over f (row_at t r).slots ≡ over_slots f t + sum_over f row.slots
  unfolding over_slots
  sum_row r row l = sum_set (λ (x : Row). sum_over f x.slots) t.rows r row (record { slots = [] }) (omega (arith, shape.rows))

  pub sum_slot : (r s : ℕ) (x : Slot) → r < 54 → s < 4 → over_slots f (with_slot t r s x) + f (slot_in t r s) ≡ over_slots f t + f x
  sum_slot r s x l m =
      let a = sum_row r (record { slots = set (row_at t r).slots s x }) l in
      let b = sum_set f (row_at t r).slots s x vacant_slot (omega (arith, shape.slots r l)) in
      omega arith

  pub sum_agrees : (g : Slot → ℕ) → ((r s : ℕ) → r < 54 → s < 4 → f (slot_in t r s) ≡ g (slot_in t r s)) → over_slots f t ≡ over_slots g t
  unfolding over_slots
  sum_agrees g h =
      sum_same (λ (x : Row). sum_over f x.slots) (λ (x : Row). sum_over g x.slots) t.rows (record { slots = [] })
      (λ r l. let m : r < 54 = omega (arith, shape.rows) in sum_same f g (row_at t r).slots vacant_slot (λ s k. h r s m (omega (arith, shape.slots r m))))

  -- of slots that count one at most the sum is at most 216
  pub sum_few : ((x : Slot) → f x ≤ 1) → over_slots f t ≤ 216
  unfolding over_slots
  sum_few h =
      sum_most (λ (x : Row). sum_over f x.slots) 4 54 t.rows (record { slots = [] }) shape.rows
      (λ r l. let m : r < 54 = omega (arith, shape.rows) in sum_most f 1 4 (row_at t r).slots vacant_slot (shape.slots r m) (λ s _. h (slot_in t r s)))
