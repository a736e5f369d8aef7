-- A test taken apart: what each part of a conjunction, a disjunction or a choice says where the whole holds. Assumes nothing.
use mathlib.Core.Path.{◌≡◌, refl}
use mathlib.Core.Bool.{Bool, true, false, ◌&&◌, ◌||◌}
use mathlib.Core.Logic.{◌⊎◌, inl, inr, ⊎_elim}
use Prim.Native.Nat.{ℕ, ◌≤◌, ◌<◌}
use borrow.Author.Tests.{ltb-true, ltb-false, eqb-true, eqb-false}
use lib.Dec.{ltb, eqb}
use Rattle.laws.specs.Pick.{pick}
use Rattle.laws.proofs.Every.{and_left, and_right}

pub either : (b : Bool) → (b ≡ true) ⊎ (b ≡ false)
either true = inl refl
either false = inr refl

pub below? : (i n : ℕ) → (i < n) ⊎ (n ≤ i)
below? i n = by (ltb i n) refl
  where
    by : (b : Bool) → ltb i n ≡ b → (i < n) ⊎ (n ≤ i)
    by true h = inl (ltb-true i n h)
    by false h = inr (ltb-false i n h)

pub same? : (j k : ℕ) → (j ≡ k) ⊎ (j ≡ k → ⊥)
same? j k = by (eqb j k) refl
  where
    by : (b : Bool) → eqb j k ≡ b → (j ≡ k) ⊎ (j ≡ k → ⊥)
    by true e = inl (eqb-true j k e)
    by false e = inr (eqb-false j k e)

pub and_three : (a b c : Bool) → (a && b && c) ≡ true → (a ≡ true) × (b ≡ true) × (c ≡ true)
and_three a b c h = let p = and_left (a && b) c h in (and_left a b p, and_right a b p, and_right (a && b) c h)

pub and_four : (a b c d : Bool) → (a && b && c && d) ≡ true → (a ≡ true) × (b ≡ true) × (c ≡ true) × (d ≡ true)
and_four a b c d h = let p = and_three a b c (and_left (a && b && c) d h) in (p.0, p.1, p.2, and_right (a && b && c) d h)

pub or_cases : (a b : Bool) → (a || b) ≡ true → (a ≡ true) ⊎ (b ≡ true)
or_cases true b h = inl refl
or_cases false b h = inr h

pub picked : (t a b : Bool) → pick t a b ≡ true → t ≡ true → a ≡ true
unfolding pick
picked t a b h e = rw e at h

pub not_picked : (t a b : Bool) → pick t a b ≡ true → t ≡ false → b ≡ true
unfolding pick
not_picked t a b h e = rw e at h

-- one thing where two numbers are equal, another where they are not
pub by_equal : {A : Type 0} (a b : ℕ) → (a ≡ b → A) → ((a ≡ b → ⊥) → A) → A
by_equal a b y n = ⊎_elim y n (same? a b)
