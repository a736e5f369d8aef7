-- Document 01, "Ids and the two mint tables": a table of n entries, fresh and after a mint. Both tables are such.
use Rattle.std.specs.Prelude.{ℕ, replicate, Result}
use Rattle.shown.specs.declared.Answered.{Answered}
use Rattle.cap.specs.declared.CapId.{CapId}
use Rattle.mint.specs.Entry.{no_entry}
use Rattle.mint.specs.Entries.{mint_with}
use Rattle.mint.specs.declared.table.Table.{Table}
use Rattle.mint.specs.declared.MintError.{MintError}

-- a table in which nothing was minted
abbrev pub fresh_of : (n : ℕ) → Table n
fresh_of n = record { entries = replicate n no_entry }

-- a mint for a number, in a table whose ids begin at `base`: the lowest free entry, or none
abbrev pub mint_in : (n base : ℕ) → Table n → ℕ → Answered (Result CapId MintError) (Table n)
mint_in n base t number = mint_with n base t.entries number (λ a es. record { answer = a; table = record { entries = es } })
