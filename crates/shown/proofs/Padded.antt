-- The first places of a line's values, the rest of its places 0. Assumes nothing.
use mathlib.Core.Path.{refl, ap}
use mathlib.Core.List.{append-nil}
use mathlib.Core.Logic.{⊎_elim}
use Rattle.std.proofs.Math.Seq.{take-length}
use Rattle.std.proofs.lemmas.Bool.{cases_lt}
use Rattle.std.specs.Prelude.{◌≡◌, ℕ, zero, suc, ◌<◌, ◌≤◌, min, List, [], ◌∷◌, ◌++◌, length, take, drop, replicate}
use native.Mathlib.Omega.{arith}
use Rattle.shown.specs.Shown.{padded}

all_of_few : (n : ℕ) (vs : List ℕ) → length vs ≤ n → vs ++ drop (length vs) (replicate n 0) ≡ padded n vs
unfolding padded
all_of_few zero [] l = refl
all_of_few zero (v ∷ vs) l = absurd (omega arith)
all_of_few (suc n) [] l = ap (λ (w : List ℕ). 0 ∷ w) (all_of_few n [] (omega arith))
all_of_few (suc n) (v ∷ vs) l = ap (λ (w : List ℕ). v ∷ w) (all_of_few n vs (omega arith))

first_of_many : (n : ℕ) (vs : List ℕ) → n ≤ length vs → take n vs ≡ padded n vs
unfolding padded
first_of_many zero vs l = refl
first_of_many (suc n) [] l = absurd (omega arith)
first_of_many (suc n) (v ∷ vs) l = ap (λ (w : List ℕ). v ∷ w) (first_of_many n vs (omega arith))

pub padded_first : (vs : List ℕ) (k : ℕ) → k ≡ min (length vs) 12 → take k vs ++ drop k (replicate 12 0) ≡ padded 12 vs
padded_first vs k e =
    ⊎_elim
    (λ (l : length vs < 12). let f : k ≡ length vs = omega arith in rw (f, take-length vs) (all_of_few 12 vs (omega arith)))
    (λ (l : 12 ≤ length vs). let f : k ≡ 12 = omega arith in rw (f, append-nil (take 12 vs)) (first_of_many 12 vs l))
    (cases_lt (length vs) 12)
