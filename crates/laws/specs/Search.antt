-- A search that ends with the lowest free place or none.
use Rattle.std.specs.Prelude.{Bool, ℕ, zero, suc, ◌-◌, None, Option, Some}
use Rattle.laws.specs.Pick.{pick}

-- what follows from a search: one thing where nothing was found, another at the place that was
unfoldable pub found : {A : Type 0} → Option ℕ → A → (ℕ → A) → A
found None a f = a
found (Some k) a f = f k

-- the lowest of the n places from i up at which `used` does not hold
unfoldable pub lowest : (ℕ → Bool) → ℕ → ℕ → Option ℕ
lowest used i zero = None
lowest used i (suc n) = pick (used i) (lowest used (suc i) n) (Some i)

-- the lowest place from `from` up and below `end` at which `used` does not hold
unfoldable pub lowest_free : (ℕ → Bool) → ℕ → ℕ → Option ℕ
lowest_free used from end = lowest used from (end - from)
