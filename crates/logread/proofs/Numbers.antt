-- One law over the width: a number of j + k bytes is one of j bytes, and one of k bytes past it; how large one can be; and that it
-- is 0 past the end. Assumes nothing.
use mathlib.Core.Path.{◌≡◌, refl, ap, ◌∙◌}
use mathlib.Core.List.{List}
use Prim.Native.Nat.{ℕ, zero, suc, ◌+◌, ◌*◌, ◌^◌, ◌<◌, ◌≤◌}
use native.Mathlib.Nat.{add-zero, zero-add, suc-add, mul_assoc, one-mul, pow-succ'}
use native.Mathlib.Numerals.{add-one}
use native.Mathlib.Omega.{arith}
use lib.ListN.{length, get_or-eq_default}
use Rattle.std.specs.Int.{byte_worth, sum_through}
use Rattle.std.specs.List.{slice_index}
use Rattle.logread.specs.Little.{byte_at, little_at}

-- the sum of a turn
turn : (g l p r : ℕ) → g + 256 * (l + p * r) ≡ g + 256 * l + 256 * p * r
turn g l p r = omega (arith, mul_assoc 256 p r)

pub split : (s : List ℕ) (j k at : ℕ) → little_at s at (j + k) ≡ little_at s at j + 256 ^ j * little_at s (at + j) k
unfolding little_at
split s zero k at = simp (zero-add, one-mul, add-zero)
split s (suc j) k at =
    ap (λ (m : ℕ). little_at s at m) (suc-add j k) ∙ ap (λ (x : ℕ). byte_at s at + 256 * x) (split s j k (at + 1)) ∙
    turn (byte_at s at) (little_at s (at + 1) j) (256 ^ j) (little_at s (at + 1 + j) k) ∙
    (let e : at + 1 + j ≡ at + suc j = omega arith in rw (e, pow-succ') refl)

-- a number of k bytes is below 256 to the k-th
pub below : (s : List ℕ) → ((i : ℕ) → byte_at s i < 256) → (k at : ℕ) → little_at s at k < 256 ^ k
unfolding little_at
below s h zero at = omega arith
below s h (suc k) at =
    let l : little_at s (at + 1) k < 256 ^ k = below s h k (at + 1) in
    rw pow-succ' (omega (arith, h at))

pub past : (s : List ℕ) (k at : ℕ) → length s ≤ at → little_at s at k ≡ 0
unfolding little_at
past s zero at h = refl
past s (suc k) at h = rw (get_or-eq_default s 0 h, past s k (at + 1) (omega arith))

-- ---- a number of k + 1 bytes as std sums it: each byte times its worth
summed : (s : List ℕ) (at k : ℕ) → sum_through (λ i. byte_worth i (byte_at s (at + i))) k ≡ little_at s at (suc k)
unfolding little_at
summed s at zero = simp add-zero
summed s at (suc k) =
    let e : little_at s at (suc (suc k)) ≡ little_at s at (suc k) + 256 ^ suc k * (byte_at s (at + suc k) + 256 * 0) = rw add-one at (split s (suc k) 1 at) in
    omega (arith, summed s at k, e)

same_sum : (f g : ℕ → ℕ) (k : ℕ) → ((i : ℕ) → i < suc k → f i ≡ g i) → sum_through f k ≡ sum_through g k
same_sum f g zero h = h zero (omega arith)
same_sum f g (suc k) h = omega (arith, same_sum f g k (λ i l. h i (omega arith)), h (suc k) (omega arith))

pub read_off : (s bytes : List ℕ) (at k : ℕ) → ((i : ℕ) → i < suc k → slice_index bytes i ≡ byte_at s (at + i)) →
    sum_through (λ i. byte_worth i (slice_index bytes i)) k ≡ little_at s at (suc k)
read_off s bytes at k h = same_sum _ _ k (λ i l. ap (byte_worth i) (h i l)) ∙ summed s at k
