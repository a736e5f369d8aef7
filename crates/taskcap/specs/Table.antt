-- Document 01, "Ids and the two mint tables": the task table, 32 entries from base 16,384, freed by the end of a task.
use Rattle.std.specs.Prelude.{List, [], ◌∷◌, ℕ, Result}
use Rattle.cap.specs.declared.CapId.{CapId}
use Rattle.mint.specs.Entries.{lookup_in, ended_in, entries_of}
use Rattle.mint.specs.Table.{fresh_of, mint_in}
use Rattle.mint.specs.declared.table.Table.{Table as TableOf}
use Rattle.mint.specs.declared.MintError.{MintError}
use Rattle.shown.specs.declared.Answered.{Answered}
use Rattle.taskcap.specs.declared.Revoked.{Revoked}
use Rattle.mint.specs.declared.LookupError.{LookupError}

abbrev pub Table : Type 0
Table = TableOf 32

abbrev pub Minted : Type 0
Minted = Answered (Result CapId MintError) Table

-- a table in which nothing was minted
abbrev pub fresh_table : Table
fresh_table = fresh_of 32

-- a mint for a task: the lowest free entry, or none
unfoldable pub mint_of : Table → ℕ → Minted
mint_of t task = mint_in 32 16384 t task

-- the task that an id names
unfoldable pub lookup_of : Table → CapId → Result ℕ LookupError
lookup_of t c = lookup_in 32 16384 t.entries c

-- the end of a task kills its live entries and counts them
unfoldable pub revoke_of : Table → ℕ → Revoked
revoke_of t task = record { count = entries_of 32 t.entries task; table = record { entries = ended_in t.entries task } }

-- nothing refuses it, and it shows that count
abbrev pub revoke_values : ℕ → List ℕ
revoke_values n = n ∷ []
