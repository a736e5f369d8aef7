-- Document 01, "Ids and the two mint tables": one entry of a mint table, minted, looked up and ended.
use Rattle.std.specs.Prelude.{Bool, true, false, ◌&&◌, ℕ, eqb, Err, Ok, Result}
use Rattle.laws.specs.Pick.{pick}
use Rattle.mint.specs.Generation.{next_generation}
use Rattle.mint.specs.declared.Entry.{Entry}
use Rattle.mint.specs.declared.LookupError.TheVariants.{BadCap}
use Rattle.mint.specs.declared.LookupError.{LookupError}

-- an entry that was never minted
abbrev pub no_entry : Entry
no_entry = record { live = false; generation = 0; number = 0 }

-- a mint makes the entry live, raises its generation and stores the number
abbrev pub minted_entry : Entry → ℕ → Entry
minted_entry e number = record { live = true; generation = next_generation e.generation; number = number }

-- an entry names its number to an id while it is live and of the same generation
unfoldable pub names_of : Entry → ℕ → Result ℕ LookupError
names_of e generation = pick e.live (pick (eqb e.generation generation) (Ok e.number) (Err BadCap)) (Err BadCap)

-- an entry is a number's while it is live and stores it
abbrev pub is_of : Entry → ℕ → Bool
is_of e number = e.live && eqb e.number number

-- an ended entry is dead and keeps its generation and its number
abbrev pub ended_entry : Entry → Entry
ended_entry e = record { live = false; generation = e.generation; number = e.number }

-- ending a number ends the entries that are its, and leaves the others
unfoldable pub after_end : ℕ → Entry → Entry
after_end number e = pick (is_of e number) (ended_entry e) e
