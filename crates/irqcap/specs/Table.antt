-- Document 01, "Ids and the two mint tables": the IRQ table, 8 entries from base 32,768, never freed.
use Rattle.std.specs.Prelude.{ℕ, Result}
use Rattle.cap.specs.declared.CapId.{CapId}
use Rattle.mint.specs.Entries.{lookup_in}
use Rattle.mint.specs.Table.{fresh_of, mint_in}
use Rattle.mint.specs.declared.table.Table.{Table as TableOf}
use Rattle.mint.specs.declared.MintError.{MintError}
use Rattle.shown.specs.declared.Answered.{Answered}
use Rattle.mint.specs.declared.LookupError.{LookupError}

abbrev pub Table : Type 0
Table = TableOf 8

abbrev pub Minted : Type 0
Minted = Answered (Result CapId MintError) Table

-- a table in which nothing was minted
abbrev pub fresh_table : Table
fresh_table = fresh_of 8

-- a mint for a cookie: the lowest free entry, or none
unfoldable pub mint_of : Table → ℕ → Minted
mint_of t cookie = mint_in 8 32768 t cookie

-- the cookie that an id names
unfoldable pub lookup_of : Table → CapId → Result ℕ LookupError
lookup_of t c = lookup_in 8 32768 t.entries c
