-- Document 01, "Ids and the two mint tables" and "Channels": how a generation goes on.
use Rattle.std.specs.Prelude.{ℕ, ◌+◌, eqb}
use Rattle.laws.specs.Pick.{pick}

-- a generation goes up by one, 65,535 going to 1
unfoldable pub next_generation : ℕ → ℕ
next_generation g = pick (eqb g 65535) 1 (g + 1)
