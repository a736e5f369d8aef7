-- Generations go from 1 to 65,535 and round again: none is 0, and none follows itself. Assumes nothing.
use mathlib.Core.Path.{◌≡◌, refl}
use Prim.Native.Nat.{ℕ, ◌+◌, ◌≤◌}
use native.Mathlib.Omega.{arith}
use borrow.Author.Tests.{eqb-true, eqb-false}
use lib.Dec.{eqb}
use Rattle.laws.specs.Pick.{pick}
use Rattle.laws.proofs.Cases.{all_pick}
use Rattle.mint.specs.Generation.{next_generation}

-- the document's two edges
pub after_65534 : next_generation 65534 ≡ 65535
unfolding next_generation pick
after_65534 = refl

pub after_65535 : next_generation 65535 ≡ 1
unfolding next_generation pick
after_65535 = refl

pub next_not_zero : (g : ℕ) → 1 ≤ next_generation g
unfolding next_generation
next_not_zero g = all_pick (λ n. 1 ≤ n) (eqb g 65535) 1 (g + 1) (λ _. omega arith) (λ _. omega arith)

pub next_fits : (g : ℕ) → g ≤ 65535 → next_generation g ≤ 65535
unfolding next_generation
next_fits g h = all_pick (λ n. n ≤ 65535) (eqb g 65535) 1 (g + 1) (λ _. omega arith) (λ e. let d = eqb-false g 65535 e in omega arith)

pub next_differs : (g : ℕ) → next_generation g ≡ g → ⊥
unfolding next_generation
next_differs g = all_pick (λ n. n ≡ g → ⊥) (eqb g 65535) 1 (g + 1) (λ e q. let d = eqb-true g 65535 e in omega arith) (λ _ q. omega arith)
