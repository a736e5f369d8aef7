-- A list that has at each place what f gives for it. Assumes nothing.
use mathlib.Core.Path.{◌≡◌, refl, sym, ◌∙◌}
use mathlib.Core.List.{List}
use Prim.Native.Nat.{ℕ, zero, suc, ◌<◌, ◌≤◌}
use native.Mathlib.Omega.{arith}
use lib.ListN.{get_or, length, take}
use lib.Seq.{take_all, take-suc}
use Rattle.jobscript.specs.Operands.{firsts}

module _ {A : Type 0} (f : ℕ → A) (l : List A) (d : A) where
  front : (n : ℕ) → n ≤ length l → ((k : ℕ) → k < n → get_or l k d ≡ f k) → take n l ≡ firsts f n
  unfolding firsts
  front zero b h = refl
  front (suc n) b h = rw (take-suc l n d b, front n (omega arith) (λ k c. h k (omega arith)), h n (omega arith)) refl

  pub firsts_at : (n : ℕ) → length l ≡ n → ((k : ℕ) → k < n → get_or l k d ≡ f k) → l ≡ firsts f n
  firsts_at n e h = sym (take_all n l (omega arith)) ∙ front n (omega arith) h
