-- What a `match` on a number tells its last arm. Assumes nothing.
use mathlib.Core.Path.{◌≡◌}
use Prim.Native.Nat.{ℕ, zero, suc, ◌≤◌}
use native.Mathlib.Omega.{arith}

-- x is none of the n numbers from 0 on
abbrev pub NoneOf : ℕ → ℕ → Type 0
NoneOf x zero = Unit {0}
NoneOf x (suc n) = NoneOf x n × (x ≡ n → ⊥)

pub past : (x n : ℕ) → NoneOf x n → n ≤ x
past x zero h = omega arith
past x (suc n) h = let l : n ≤ x = past x n h.0 in omega (arith, h.1)
