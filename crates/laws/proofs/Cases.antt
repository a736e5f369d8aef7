-- How a choice of a definition is settled, and what holds of each way of one. `cases` closes a function's returns, whatever the
-- number of its tests. Assumes nothing.
use Rattle.std.specs.Prelude.{None, Option, Some}
use mathlib.Core.Path.{◌≡◌, refl}
use mathlib.Core.Bool.{Bool, true, false}
use Prim.Native.Nat.{ℕ}
use native.Mathlib.Omega.{arith}
use borrow.Author.Tests.{lt-ltb, le-ltb, le-leb, lt-leb, eq-eqb, ne_eqb, not-true, not-false}
use Rattle.laws.specs.Pick.{pick}
use Rattle.laws.specs.Search.{found}

module _ {A : Type 0} {r : A} where
  pub yes : {t : Bool} {a : A} (b : A) → t ≡ true → r ≡ a → r ≡ pick t a b
  unfolding pick
  yes b e h = rw e h

  pub no : {t : Bool} {b : A} (a : A) → t ≡ false → r ≡ b → r ≡ pick t a b
  unfolding pick
  no a e h = rw e h

  -- q is what the code found, and p what the definition looks for
  pub nowhere : {q p : Option ℕ} {a : A} (f : ℕ → A) → q ≡ p → q ≡ None → r ≡ a → r ≡ found p a f
  unfolding found
  nowhere f e n h = rw (← e, n) h

  pub at : {q p : Option ℕ} (a : A) (f : ℕ → A) (k : ℕ) → q ≡ p → q ≡ Some k → r ≡ f k → r ≡ found p a f
  unfolding found
  at a f k e n h = rw (← e, n) h

pub ruleset cases = (yes, no, nowhere, at, lt-ltb, le-ltb, le-leb, lt-leb, eq-eqb, ne_eqb, not-true, not-false)

-- what holds of each way of a choice holds of the choice
module _ {A : Type 0} (P : A → Type 0) where
  pub all_pick : (t : Bool) (a b : A) → (t ≡ true → P a) → (t ≡ false → P b) → P (pick t a b)
  unfolding pick
  all_pick true a b y n = y refl
  all_pick false a b y n = n refl

  pub all_found : (o : Option ℕ) (a : A) (f : ℕ → A) → (o ≡ None → P a) → ((k : ℕ) → o ≡ Some k → P (f k)) → P (found o a f)
  unfolding found
  all_found None a f n y = n refl
  all_found (Some k) a f n y = y k refl

-- a test does not go both ways
pub not_both : (b : Bool) → b ≡ true → b ≡ false → ⊥
not_both b p q = let z : ◌≡◌ {A = ℕ} 0 1 = cc in omega arith
