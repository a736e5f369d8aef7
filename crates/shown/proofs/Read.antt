-- Of the twelve places those that are counted hold the values. Assumes nothing.
use mathlib.Core.Path.{◌≡◌, refl, ap}
use mathlib.Core.List.{List, [], ◌∷◌}
use Prim.Native.Nat.{ℕ, zero, suc, ◌≤◌}
use native.Mathlib.Nat.{not-suc-le-zero, le_of_suc-le-suc}
use lib.ListN.{length, take}
use Rattle.shown.specs.Shown.{padded, shown}
use Rattle.shown.proofs.Few.{Few}

padded_read : (n : ℕ) (vs : List ℕ) → length vs ≤ n → take (length vs) (padded n vs) ≡ vs
unfolding padded
padded_read n [] h = refl
padded_read zero (v ∷ vs) h = absurd (not-suc-le-zero h)
padded_read (suc n) (v ∷ vs) h = ap (λ (l : List ℕ). v ∷ l) (padded_read n vs (le_of_suc-le-suc h))

pub shown_read : (n : ℕ) (vs : List ℕ) → Few vs → take (shown n vs).count (shown n vs).values ≡ vs
shown_read n = padded_read 12
