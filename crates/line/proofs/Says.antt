-- The digits of a number say it. Assumes nothing.
use mathlib.Core.Path.{◌≡◌, refl, ap, ◌∙◌, subst}
use mathlib.Core.List.{List, [], ◌∷◌, ◌++◌}
use Prim.Native.Nat.{ℕ, zero, suc, ◌+◌, ◌*◌, ◌-◌, ◌/◌, ◌%◌, ◌^◌, ◌<◌}
use native.Mathlib.Nat.{pow-suc}
use native.Mathlib.Omega.{arith}
use lib.Dec.{ltb}
use Rattle.laws.proofs.Cases.{all_pick}
use Rattle.line.specs.Line.{decimal_in, decimal_of}
use Rattle.line.specs.Value.{value_from}

over : (acc : ℕ) (xs ys : List ℕ) → value_from acc (xs ++ ys) ≡ value_from (value_from acc xs) ys
unfolding value_from
over acc [] ys = refl
over acc (x ∷ xs) ys = over (10 * acc + (x - 48)) xs ys

pub says_in : (k n : ℕ) → n < 10 ^ k → value_from 0 (decimal_in k n) ≡ n
unfolding decimal_in value_from
says_in zero n h = omega arith
says_in (suc k) n h =
    all_pick (λ (ds : List ℕ). value_from 0 ds ≡ n) (ltb n 10) _ _ (λ e. omega arith)
    (λ e.
    let b : n < 10 ^ k * 10 = subst (λ (m : ℕ). n < m) (pow-suc 10 k) h in
    over 0 (decimal_in k (n / 10)) ((48 + n % 10) ∷ []) ∙ ap (λ (v : ℕ). 10 * v + (48 + n % 10 - 48)) (says_in k (n / 10) (omega arith)) ∙ omega arith)

-- any number of 64 bits
pub says : (n : ℕ) → n < 2 ^ 64 → value_from 0 (decimal_of n) ≡ n
says n h = says_in 20 n (omega arith)
