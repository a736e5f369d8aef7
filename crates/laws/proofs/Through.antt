-- A list of which the first i elements have gone through f: what a loop over all of them has done after i turns. Assumes nothing.
use mathlib.Core.Path.{◌≡◌, refl, sym, ap, ◌∙◌}
use mathlib.Core.List.{List, [], ◌∷◌, map}
use Prim.Native.Nat.{ℕ, zero, suc, ◌+◌, ◌≤◌}
use native.Mathlib.Nat.{le_of_suc-le-suc, not-suc-le-zero}
use native.Mathlib.Numerals.{add-one}
use native.Mathlib.Omega.{arith}
use lib.ListN.{get_or, set, length}

unfoldable pub through : {A : Type 0} → (A → A) → ℕ → List A → List A
through f zero l = l
through f (suc i) [] = []
through f (suc i) (x ∷ l) = f x ∷ through f i l

module _ {A : Type 0} (f : A → A) (d : A) where
  -- the next element is still as it was
  pub through_at : (i : ℕ) (l : List A) → get_or (through f i l) i d ≡ get_or l i d
  unfolding through
  through_at zero l = refl
  through_at (suc i) [] = refl
  through_at (suc i) (x ∷ l) = through_at i l

  stored : (i : ℕ) (l : List A) → set (through f i l) i (f (get_or l i d)) ≡ through f (suc i) l
  unfolding through
  stored zero [] = refl
  stored zero (x ∷ l) = refl
  stored (suc i) [] = refl
  stored (suc i) (x ∷ l) = ap (λ (r : List A). f x ∷ r) (stored i l)

  left : (i : ℕ) (l : List A) → f (get_or l i d) ≡ get_or l i d → through f i l ≡ through f (suc i) l
  unfolding through
  left zero [] e = refl
  left zero (x ∷ l) e = ap (λ (y : A). y ∷ l) (sym e)
  left (suc i) [] e = refl
  left (suc i) (x ∷ l) e = ap (λ (r : List A). f x ∷ r) (left i l e)

  -- a turn that stores it, and one that leaves it because f would
  pub through_store : (i : ℕ) (l : List A) → set (through f i l) i (f (get_or l i d)) ≡ through f (i + 1) l
  through_store i l = rw (add-one i) (stored i l)

  pub through_leave : (i : ℕ) (l : List A) → f (get_or l i d) ≡ get_or l i d → through f i l ≡ through f (i + 1) l
  through_leave i l e = rw (add-one i) (left i l e)

-- after as many turns as there are elements all have gone through
pub through_all : {A : Type 0} (f : A → A) (n : ℕ) (l : List A) → length l ≤ n → through f n l ≡ map f l
unfolding through
through_all f zero [] h = refl
through_all f (suc n) [] h = refl
through_all f zero (x ∷ l) h = absurd (not-suc-le-zero h)
through_all f (suc n) (x ∷ l) h = ap (λ (r : List _). f x ∷ r) (through_all f n l (le_of_suc-le-suc h))

-- a loop `for x in l { *x = f(*x); }` over a list of n, at i: before it, a turn, and the end
module _ {A : Type 0} (f : A → A) (before : List A) where
  pub through_none : before ≡ through f 0 before
  unfolding through
  through_none = refl

  pub through_turn : (d : A) (i : ℕ) {now : List A} {x : A} → now ≡ through f i before → x ≡ f (get_or now i d) → set now i x ≡ through f (i + 1) before
  through_turn d i h e = rw (e, h, through_at f d i before, through_store f d i before)

  pub through_done : (i n : ℕ) {now : List A} → length before ≡ n → i ≤ n → n ≤ i → now ≡ through f i before → now ≡ map f before
  through_done i n l a b h = h ∙ through_all f i before (omega arith)

pub ruleset turns = (through_none, through_turn)
