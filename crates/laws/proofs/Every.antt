-- A test at each index below a bound: what it says of each index, one turn of a loop that runs it, and a chain that does. Assumes nothing.
use Rattle.std.specs.List.{list_all, list_any}
use Rattle.std.proofs.Math.Bool.{and_assoc, and-true, or_assoc, or-false}
use mathlib.Core.Path.{◌≡◌, refl, sym, ap}
use mathlib.Core.Bool.{Bool, true, false, ◌&&◌, ◌||◌}
use mathlib.Core.List.{List, [], ◌∷◌}
use mathlib.Core.Logic.{⊎_elim}
use Prim.Native.Nat.{ℕ, zero, suc, ◌+◌, ◌<◌, ◌≤◌}
use native.Mathlib.Nat.{not-suc-le-zero, le_of_suc-le-suc, eq-or-lt_of_le}
use native.Mathlib.Numerals.{add-one}
use native.Mathlib.Omega.{arith}
use lib.ListN.{get_or, length}
use Rattle.laws.specs.Pick.{pick}
use Rattle.laws.specs.Every.{every, some, count}
use Rattle.laws.proofs.Cases.{all_pick}

pub and_left : (a b : Bool) → (a && b) ≡ true → a ≡ true
and_left true b h = refl
and_left false b h = h

pub and_right : (a b : Bool) → (a && b) ≡ true → b ≡ true
and_right true b h = h
and_right false true h = refl
and_right false false h = h

pub and_both : (a b : Bool) → a ≡ true → b ≡ true → (a && b) ≡ true
and_both a b p q = simp (p, q)

-- the test over all indices says so of each, and back
pub every_at : (f : ℕ → Bool) (n : ℕ) → every f n ≡ true → (k : ℕ) → k < n → f k ≡ true
unfolding every
every_at f zero h k l = absurd (not-suc-le-zero l)
every_at f (suc n) h k l =
    ⊎_elim (λ e. rw e (and_right (every f n) (f n) h)) (λ p. every_at f n (and_left (every f n) (f n) h) k p)
    (eq-or-lt_of_le (le_of_suc-le-suc l))

pub at_every : (f : ℕ → Bool) (n : ℕ) → ((k : ℕ) → k < n → f k ≡ true) → every f n ≡ true
unfolding every
at_every f zero h = refl
at_every f (suc n) h = and_both (every f n) (f n) (at_every f n (λ k l. h k (omega arith))) (h n (omega arith))

-- a loop `while i < n { ok = ok & f(i); i += 1; }`: before it, a turn, and the end
pub every_none : (f : ℕ → Bool) → true ≡ every f 0
unfolding every
every_none f = refl

pub every_step : (f : ℕ → Bool) (i : ℕ) (ok v : Bool) → ok ≡ every f i → v ≡ f i → (ok && v) ≡ every f (i + 1)
unfolding every
every_step f i ok v p q = simp (p, q, add-one)

pub every_done : (f : ℕ → Bool) (i n : ℕ) (ok : Bool) → i ≤ n → n ≤ i → ok ≡ every f i → ok ≡ every f n
every_done f i n ok l g p = let e : i ≡ n = omega arith in rw e at p

-- a loop `while i < n { if f(i) { c += 1; } i += 1; }`: before it, a turn either way, and the end
pub count_none : (f : ℕ → Bool) → 0 ≡ count f 0
unfolding count
count_none f = refl

pub count_yes : (f : ℕ → Bool) (i c : ℕ) → c ≡ count f i → f i ≡ true → c + 1 ≡ count f (i + 1)
unfolding count pick
count_yes f i c p q = rw (add-one i, q, ← p)

pub count_no : (f : ℕ → Bool) (i c : ℕ) → c ≡ count f i → f i ≡ false → c ≡ count f (i + 1)
unfolding count pick
count_no f i c p q = rw (add-one i, q) p

pub count_done : (f : ℕ → Bool) (i n c : ℕ) → i ≤ n → n ≤ i → c ≡ count f i → c ≡ count f n
count_done f i n c l g p = let e : i ≡ n = omega arith in rw e at p

-- it holds at no more indices than there are
pub count_most : (f : ℕ → Bool) (n : ℕ) → count f n ≤ n
unfolding count
count_most f zero = omega arith
count_most f (suc n) =
    all_pick (λ k. k ≤ suc n) (f n) (count f n + 1) (count f n) (λ _. omega (arith, count_most f n)) (λ _. omega (arith, count_most f n))

-- the first index, which is tested last, split off
every_first : (f : ℕ → Bool) (n : ℕ) → every f (suc n) ≡ (f 0 && every (λ k. f (suc k)) n)
unfolding every
every_first f zero = sym (and-true (f 0))
every_first f (suc n) = rw (every_first f n) (and_assoc (f 0) _ _)

some_first : (f : ℕ → Bool) (n : ℕ) → some f (suc n) ≡ (f 0 || some (λ k. f (suc k)) n)
unfolding some
some_first f zero = sym (or-false (f 0))
some_first f (suc n) = rw (some_first f n) (or_assoc (f 0) _ _)

-- `l.iter().all(test)` and `l.iter().any(test)` test each index
module _ {A : Type 0} (test : A → Bool) (d : A) where
  pub all_every : (l : List A) → list_all test l ≡ every (λ k. test (get_or l k d)) (length l)
  unfolding every
  all_every [] = refl
  all_every (a ∷ l) = rw (every_first (λ k. test (get_or (a ∷ l) k d)) (length l)) (ap (λ (b : Bool). test a && b) (all_every l))

  pub any_some : (l : List A) → list_any test l ≡ some (λ k. test (get_or l k d)) (length l)
  unfolding some
  any_some [] = refl
  any_some (a ∷ l) = rw (some_first (λ k. test (get_or (a ∷ l) k d)) (length l)) (ap (λ (b : Bool). test a || b) (any_some l))
