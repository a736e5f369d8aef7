-- Document 01, "Both sides of each edge": its starred lines, in its order, as one table of what the rules give beside what the document
-- says, all in numbers. `EdgesAgree` is the one statement over it.
use Rattle.std.specs.Prelude.{◌≡◌, true, false, List, [], ◌∷◌, ◌++◌, ℕ, zero, suc, None, Some, Result}
use Rattle.laws.specs.Refusals as no
use Rattle.cap.specs.Id.{id_of, index_of, generation_of, class_of}
use Rattle.cap.specs.Slot.{slot_number, slot_values}
use Rattle.cap.specs.declared.CapClass.{CapClass}
use Rattle.cap.specs.declared.CapClass.TheVariants.{Endpoint, Task, Irq, Invalid}
use Rattle.capslots.specs.Rows.{get_of, seed_of}
use Rattle.capslots.specs.Table.{fresh_table}
use Rattle.mint.specs.Generation.{next_generation}
use Rattle.mint.specs.Answer.{mint_number}
use Rattle.irqcap.specs.Table as irq
use Rattle.irqcap.specs.Table.{Table}
use Rattle.manifest.specs.Bind.{bind_of, bind_number, bind_values}
use Rattle.manifest.specs.declared.AgentEntry.{AgentEntry}
use Rattle.ipc_rules.specs.State.{sizes_of}
use Rattle.ipc_rules.specs.Make.{fresh_of}
use Rattle.ipc_rules.specs.Create.{create_of}
use Rattle.ipc_rules.specs.Answers.{create_number}
use Rattle.cap.specs.declared.CapId.{CapId}
use Rattle.cap.specs.declared.slot.SlotError.{SlotError}

-- what the rules give, and what the document says
pub record Edge : Type 0 where
  pub given : List ℕ
  pub said : List ℕ

abbrev pub edge : List ℕ → List ℕ → Edge
edge given said = record { given = given; said = said }

-- every row of a table agrees
pub data Agree : List Edge → Type 0 where
  done : Agree []
  row : {e : Edge} {es : List Edge} → e.given ≡ e.said → Agree es → Agree (e ∷ es)

-- ---- what is asked, in numbers
-- a class as its bits 15 and 14, 0 to 3, and its payload
unfoldable pub class_values : CapClass → List ℕ
class_values (Endpoint p) = 0 ∷ p ∷ []
class_values (Task p) = 1 ∷ p ∷ []
class_values (Irq p) = 2 ∷ p ∷ []
class_values Invalid = 3 ∷ []

-- the class of an id with this index
abbrev pub class_at : ℕ → List ℕ
class_at index = class_values (class_of (id_of index 1))

-- a slot of a row that was seeded with these words
abbrev pub slot_of : List ℕ → ℕ → Result CapId SlotError
slot_of words s = get_of (seed_of fresh_table 0 words).table 0 s

abbrev pub slot_seen : List ℕ → ℕ → List ℕ
slot_seen words s = slot_number (slot_of words s) ∷ slot_values (slot_of words s)

-- a plain and an ephemeral creation on a fresh table
abbrev pub creations : ℕ → ℕ → List ℕ
creations m e = create_number (create_of (fresh_of (sizes_of m e 1)) false).answer ∷ create_number (create_of (fresh_of (sizes_of m e 1)) true).answer ∷ []

-- n IRQ mints, one after another
unfoldable pub irq_mints : ℕ → Table → List ℕ
irq_mints zero t = []
irq_mints (suc n) t = mint_number (irq.mint_of t 0).answer ∷ irq_mints n (irq.mint_of t 0).table

-- an entry without packet pool, whose first slot wants this index and whose others want nothing
abbrev pub wanting : ℕ → AgentEntry
wanting index = record { slots = Some index ∷ None ∷ None ∷ None ∷ []; packet_pool = false }

-- its bind to a held list, as words
abbrev pub bind_seen : ℕ → List ℕ → List ℕ
bind_seen index held = bind_number (bind_of (wanting index) held).answer ∷ bind_values (bind_of (wanting index) held).answer

-- raw 0 present, as a word
abbrev pub raw_zero : ℕ
raw_zero = 4294967296

-- ---- the table
abbrev pub edges : List Edge
edges =
    -- "index 3, generation 171: raw 11,206,659", and back
    edge ((id_of 3 171).raw ∷ index_of (record { raw = 11206659 }) ∷ generation_of (record { raw = 11206659 }) ∷ []) (11206659 ∷ 3 ∷ 171 ∷ [])
    -- "Raw 0 present is an id, not a vacancy": slot 0 holds it, slot 1 is vacant
    ∷ edge (slot_seen (raw_zero ∷ []) 0 ++ slot_seen (raw_zero ∷ []) 1) (no.none ∷ 0 ∷ no.vacant ∷ 1 ∷ [])
    -- "Index 49,152 is Invalid"
    ∷ edge (class_at 49152) (class_values Invalid)
    -- "16,384 Task 0"
    ∷ edge (class_at 16384) (class_values (Task 0))
    -- "32,768 Irq 0"
    ∷ edge (class_at 32768) (class_values (Irq 0))
    -- "16,383 Endpoint 16,383"
    ∷ edge (class_at 16383) (class_values (Endpoint 16383))
    -- "Generation after 65,534 is 65,535"
    ∷ edge (next_generation 65534 ∷ []) (65535 ∷ [])
    -- "after 65,535 is 1"
    ∷ edge (next_generation 65535 ∷ []) (1 ∷ [])
    -- "m 1, e 1: creation gives NoEndpoint"
    ∷ edge (creations 1 1) (no.no_endpoint ∷ no.no_endpoint ∷ [])
    -- "m 0, e 0: NoMailbox"
    ∷ edge (creations 0 0) (no.no_mailbox ∷ no.no_mailbox ∷ [])
    -- "Ninth IRQ mint: 15", after eight that are accepted
    ∷ edge (irq_mints 9 irq.fresh_table) (0 ∷ 0 ∷ 0 ∷ 0 ∷ 0 ∷ 0 ∷ 0 ∷ 0 ∷ 15 ∷ [])
    -- "Entry index 3, held length 3, no pool: 16, not 17", and the slot, the index and the length that 16 shows
    ∷ edge (bind_seen 3 (raw_zero ∷ raw_zero ∷ raw_zero ∷ [])) (16 ∷ 0 ∷ 3 ∷ 3 ∷ [])
    ∷ []

abbrev pub EdgesAgree : Type 0
EdgesAgree = Agree edges
