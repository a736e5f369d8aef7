-- A ring read place by place, from its oldest on. Assumes nothing.
use mathlib.Core.Path.{◌≡◌, refl, sym, ap, subst, ◌∙◌}
use mathlib.Core.List.{List, [], ◌∷◌, ◌++◌}
use mathlib.Core.Logic.{◌⊎◌, inl, inr}
use Prim.Native.Nat.{ℕ, zero, suc, ◌+◌, ◌-◌, ◌%◌, ◌≤◌, ◌<◌}
use native.Mathlib.Omega.{arith}
use native.Mathlib.Nat.{mod-lt, mod-add-mod, mod-eq_of_lt, mod-eq-sub-mod}
use lib.ListN.{length}
use Rattle.ring.specs.Ring.{ring_from}
use Rattle.laws.proofs.Bools.{below?}

-- two places less than d apart are two places of the ring
pub apart : (d a i n : ℕ) → a < d → i < n → n < d → (a + i) % d ≡ (a + n) % d → ⊥
apart d a i n la li ln e = go (below? (a + i) d) (below? (a + n) d)
  where
    high : (x : ℕ) → d ≤ x → x < d + d → x % d ≡ x - d
    high x l u = mod-eq-sub-mod l ∙ mod-eq_of_lt (omega arith)

    go : ((a + i) < d) ⊎ (d ≤ (a + i)) → ((a + n) < d) ⊎ (d ≤ (a + n)) → ⊥
    go (inl x) (inl y) = omega (arith, mod-eq_of_lt x, mod-eq_of_lt y)
    go (inl x) (inr y) = omega (arith, mod-eq_of_lt x, high (a + n) y (omega arith))
    go (inr x) (inl y) = omega arith
    go (inr x) (inr y) = omega (arith, high (a + i) x (omega arith), high (a + n) y (omega arith))

pub ring_length : {A : Type 0} (f : ℕ → A) (d at n : ℕ) → length (ring_from f d at n) ≡ n
unfolding ring_from
ring_length f d at zero = refl
ring_length f d at (suc n) = ap suc (ring_length f d ((at + 1) % d) n)

-- place i from `at` on, and from the place after it
shift : (d at i : ℕ) → ((at + 1) % d + i) % d ≡ (at + suc i) % d
shift d at i = mod-add-mod (at + 1) d i ∙ ap (λ (x : ℕ). x % d) (let z : at + 1 + i ≡ at + suc i = omega arith in z)

first : (d at : ℕ) → at < d → (at + 0) % d ≡ at
first d at l = let z : at + 0 ≡ at = omega arith in rw z (mod-eq_of_lt l)

-- a ring reads only its own places
pub ring_same : {A : Type 0} (f g : ℕ → A) (d at n : ℕ) → at < d → ((i : ℕ) → i < n → f ((at + i) % d) ≡ g ((at + i) % d)) → ring_from f d at n ≡ ring_from g d at n
unfolding ring_from
ring_same f g d at zero l h = refl
ring_same f g d at (suc n) l h =
    let a : f at ≡ g at = subst (λ (x : ℕ). f x ≡ g x) (first d at l) (h 0 (omega arith)) in
    let b = ring_same f g d ((at + 1) % d) n (mod-lt (at + 1) (omega arith)) (λ i p. subst (λ (x : ℕ). f x ≡ g x) (sym (shift d at i)) (h (suc i) (omega arith))) in
    cc

-- one more stands at the end
pub ring_more : {A : Type 0} (f : ℕ → A) (d at n : ℕ) → at < d → ring_from f d at (suc n) ≡ ring_from f d at n ++ (f ((at + n) % d) ∷ [])
unfolding ring_from
ring_more f d at zero l = ap (λ (x : ℕ). f x ∷ []) (sym (first d at l))
ring_more {A} f d at (suc n) l =
    ap (λ (r : List A). f at ∷ r)
    (ring_more f d ((at + 1) % d) n (mod-lt (at + 1) (omega arith)) ∙ ap (λ (x : ℕ). ring_from f d ((at + 1) % d) n ++ (f x ∷ [])) (shift d at n))
