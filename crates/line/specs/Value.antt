-- How decimal digits are read: what a text of them says.
use Rattle.std.specs.Prelude.{List, [], ◌∷◌, ℕ, ◌+◌, ◌*◌, ◌-◌}

-- the number that the digits say, after those of `before`
unfoldable pub value_from : ℕ → List ℕ → ℕ
value_from before [] = before
value_from before (d ∷ ds) = value_from (10 * before + (d - 48)) ds
