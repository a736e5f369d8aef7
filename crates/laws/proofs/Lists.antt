-- What holds of every element of a list, by its place. Assumes nothing.
use mathlib.Core.Path.{◌≡◌, refl, sym, ◌∙◌}
use mathlib.Core.Bool.{Bool, true, false}
use mathlib.Core.List.{List, [], ◌∷◌, map}
use Prim.Native.Nat.{ℕ, zero, suc, ◌<◌}
use native.Mathlib.Omega.{arith}
use borrow.Author.Tests.{eqb-true, eqb-false}
use base.Fml.{Fml}
use denote.Array.{each}
use denote.Shadow.{shadow}
use lib.Dec.{eqb}
use lib.ListN.{get_or, set, replicate, length, length-map}
use lib.Seq.{get_or-set_other}
use mir.Val.{Val}

-- what holds of every element and of what is stored holds of every element after the store
pub all_set : {A : Type 0} (P : ℕ → A → Type 0) (l : List A) (i : ℕ) (a d : A) → P i a → ((j : ℕ) → P j (get_or l j d)) → (j : ℕ) → P j (get_or (set l i a) j d)
all_set P [] i a d p q j = q j
all_set P (x ∷ l) zero a d p q zero = p
all_set P (x ∷ l) zero a d p q (suc j) = q (suc j)
all_set P (x ∷ l) (suc i) a d p q zero = q zero
all_set P (x ∷ l) (suc i) a d p q (suc j) = all_set (λ n. P (suc n)) l i a d p (λ n. q (suc n)) j

-- what holds of f of every element holds of every element of the list under f
pub all_map : {A B : Type 0} (P : ℕ → B → Type 0) (f : A → B) (l : List A) (d : A) (e : B) → f d ≡ e → ((j : ℕ) → P j (f (get_or l j d))) →
    (j : ℕ) → P j (get_or (map f l) j e)
all_map P f [] d e h q j = rw (← h) (q j)
all_map P f (x ∷ l) d e h q zero = q zero
all_map P f (x ∷ l) d e h q (suc j) = all_map (λ n. P (suc n)) f l d e h (λ n. q (suc n)) j

-- what stands at place j after the default was stored at i, inside the list or past it: at i the default, elsewhere what stood there
pub all_reset : {A : Type 0} (P : A → Type 0) (l : List A) (i j : ℕ) (d : A) → (j ≡ i → P d) → ((j ≡ i → ⊥) → P (get_or l j d)) →
    P (get_or (set l i d) j d)
all_reset {A} P l i j d same other = by (eqb j i) refl
  where
    stands : (l : List A) (i : ℕ) → get_or (set l i d) i d ≡ d
    stands [] i = refl
    stands (x ∷ l) zero = refl
    stands (x ∷ l) (suc i) = stands l i

    by : (b : Bool) → eqb j i ≡ b → P (get_or (set l i d) j d)
    by true p = let e = eqb-true j i p in rw (e, stands l i) (same e)
    by false p = let e = eqb-false j i p in rw (get_or-set_other l i j d d e) (other e)

-- what holds of the default holds of every element of its copies
pub all_replicate : {A : Type 0} (P : A → Type 0) (n : ℕ) (a : A) → P a → (j : ℕ) → P (get_or (replicate n a) j a)
all_replicate P zero a p j = p
all_replicate P (suc n) a p zero = p
all_replicate P (suc n) a p (suc j) = all_replicate P n a p j

-- an array's length, which a function knows of the elements as they are laid out, is that of the elements
pub unmapped : (X Y : Type 0) (f : X → Y) (l : List X) (n : ℕ) → length (map f l) ≡ n → length l ≡ n
unmapped X Y f l n p = sym (length-map l f) ∙ p

-- what a type says of each element of an array, a function knows of the element at each place
pub elements : {X : Type 0} (P : X → Type 0) (f : X → List Val → Fml) (l : List X) (us : List Val) → shadow (each X f l us) →
    ((x : X) (u : Val) → shadow (f x (u ∷ [])) → P x) → (i : ℕ) (d : X) → i < length l → P (get_or l i d)
elements P f [] us h g i d b = absurd (omega arith)
elements P f (x ∷ l) [] h g i d b = absurd h
elements P f (x ∷ l) (u ∷ us) h g zero d b = g x u h.0
elements P f (x ∷ l) (u ∷ us) h g (suc i) d b = elements P f l us h.1 g i d (omega arith)
