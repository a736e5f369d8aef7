-- Document 01, "The operation log": what a line shows of an answer, its number and its values, in the twelve places that the code has for
-- them.
use Rattle.std.specs.Prelude.{List, [], ◌∷◌, ℕ, zero, suc, ◌+◌, leb, length, set, Result, Ok, Err}
use Rattle.laws.specs.Pick.{pick}
use Rattle.shown.specs.declared.Shown.{Shown}

-- the first n of a list, with 0 past its end
unfoldable pub padded : ℕ → List ℕ → List ℕ
padded zero vs = []
padded (suc n) [] = 0 ∷ padded n []
padded (suc n) (v ∷ vs) = v ∷ padded n vs

-- a number and a list of values as the code has them
abbrev pub shown : ℕ → List ℕ → Shown
shown n vs = record { number = n; values = padded 12 vs; count = length vs }

-- one value more, while there is a place for it
unfoldable pub pushed : Shown → ℕ → Shown
pushed s x = pick (leb 12 s.count) s (record { number = s.number; values = set s.values s.count x; count = s.count + 1 })

-- the values of a list more, one after the other
unfoldable pub pushed_all : Shown → List ℕ → Shown
pushed_all s [] = s
pushed_all s (v ∷ vs) = pushed_all (pushed s v) vs

-- what `done` says of what a call has done, or `refused` of why it has not
abbrev pub of_either : {T E A : Type 0} → (T → A) → (E → A) → Result T E → A
of_either done refused (Ok x) = done x
of_either done refused (Err e) = refused e
