-- Document 01, "Ids and the two mint tables": the entries of a mint table, of which there are n. Both tables' rules are these.
use Rattle.std.specs.Prelude.{Bool, List, map, ℕ, ◌+◌, get_or, set, eqb, ltb, None, Option, Some, Err, Ok, Result}
use Rattle.laws.specs.Pick.{pick}
use Rattle.laws.specs.Search.{found, lowest_free}
use Rattle.laws.specs.Every.{count}
use Rattle.cap.specs.Id.{id_of, generation_of, class_of}
use Rattle.cap.specs.declared.CapId.{CapId}
use Rattle.cap.specs.declared.CapClass.{CapClass}
use Rattle.cap.specs.declared.CapClass.TheVariants.{Endpoint, Task, Irq, Invalid}
use Rattle.mint.specs.Generation.{next_generation}
use Rattle.mint.specs.Entry.{no_entry, minted_entry, names_of, is_of, after_end}
use Rattle.mint.specs.declared.Entry.{Entry}
use Rattle.mint.specs.declared.MintError.TheVariants.{NoFreeEntry}
use Rattle.mint.specs.declared.LookupError.TheVariants.{BadCap}
use Rattle.mint.specs.declared.MintError.{MintError}
use Rattle.mint.specs.declared.LookupError.{LookupError}

-- entry i, the empty one past the list's end
abbrev pub entry_at : List Entry → ℕ → Entry
entry_at es i = get_or es i no_entry

-- entry i is in use
abbrev pub is_live : List Entry → ℕ → Bool
is_live es i = (entry_at es i).live

-- the lowest of n entries that is free
abbrev pub free_entry : ℕ → List Entry → Option ℕ
free_entry n es = lowest_free (is_live es) 0 n

-- the lowest free entry is minted, and the answer is base + entry with its generation; `k` joins the answer and the entries afterwards
unfoldable pub mint_with : {A : Type 0} → ℕ → ℕ → List Entry → ℕ → (Result CapId MintError → List Entry → A) → A
mint_with n base es number k =
    found (free_entry n es) (k (Err NoFreeEntry) es)
    (λ i. k (Ok (id_of (base + i) (next_generation (entry_at es i).generation))) (set es i (minted_entry (entry_at es i) number)))

-- the entry that an id of a class names in the table whose ids begin at `base`: 16,384 for tasks, 32,768 for IRQ
unfoldable pub entry_of : ℕ → CapClass → Option ℕ
entry_of base (Endpoint p) = None
entry_of base (Task p) = pick (eqb base 16384) (Some p) None
entry_of base (Irq p) = pick (eqb base 32768) (Some p) None
entry_of base Invalid = None

-- a lookup: right class, entry in range, live, same generation
unfoldable pub lookup_in : ℕ → ℕ → List Entry → CapId → Result ℕ LookupError
lookup_in n base es c =
    found (entry_of base (class_of c)) (Err BadCap) (λ i.
    pick (ltb i n) (names_of (entry_at es i) (generation_of c))
    (Err BadCap))

-- the entries after a number has ended
abbrev pub ended_in : List Entry → ℕ → List Entry
ended_in es number = map (after_end number) es

-- how many of n entries are a number's
abbrev pub entries_of : ℕ → List Entry → ℕ → ℕ
entries_of n es number = count (λ i. is_of (entry_at es i) number) n
