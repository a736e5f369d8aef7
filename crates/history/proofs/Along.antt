-- Two lists whose places agree, one by one, by their numbers. Assumes nothing.
use mathlib.Core.List.{List, [], ◌∷◌}
use Prim.Native.Nat.{ℕ, zero, suc, ◌+◌}
use native.Mathlib.Omega.{arith}
use mathlib.Core.Path.{◌≡◌}
use lib.ListN.{get_or}

-- the first place has number n
pub data Along {A B : Type 0} (R : ℕ → A → B → Type 0) : ℕ → List A → List B → Type 0 where
  end : {n : ℕ} → Along R n [] []
  ◌▸◌ : {n : ℕ} {a : A} {b : B} {l : List A} {m : List B} → R n a b → Along R (suc n) l m → Along R n (a ∷ l) (b ∷ m)

infixr 5 ◌▸◌
-- at every place, also past the end
pub along : {A B : Type 0} (R : ℕ → A → B → Type 0) (n : ℕ) (l : List A) (m : List B) (d : A) (e : B) → Along R n l m → ((j : ℕ) → R j d e) →
    (i : ℕ) → R (n + i) (get_or l i d) (get_or m i e)
along R n [] [] d e end h i = h (n + i)
along R n [] (b ∷ m) d e x h i = elim x [ ]
along R n (a ∷ l) [] d e x h i = elim x [ ]
along R n (a ∷ l) (b ∷ m) d e (x ▸ xs) h zero = let z : n + 0 ≡ n = omega arith in rw z x
along R n (a ∷ l) (b ∷ m) d e (x ▸ xs) h (suc i) = let z : n + suc i ≡ suc n + i = omega arith in rw z (along R (suc n) l m d e xs h i)

-- where the first place has number 0
pub along_all : {A B : Type 0} (R : ℕ → A → B → Type 0) (l : List A) (m : List B) (d : A) (e : B) → Along R 0 l m → ((j : ℕ) → R j d e) →
    (i : ℕ) → R i (get_or l i d) (get_or m i e)
along_all R l m d e xs h i = let z : 0 + i ≡ i = omega arith in rw z at (along R 0 l m d e xs h i)
