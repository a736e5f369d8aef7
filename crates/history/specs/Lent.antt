-- Demand 3's "any sequence of calls", for the calls of `lent` on a channel table: in a run, `register_holds` over a lent slice of slot records
-- is the register of the words that stand for the records, and the two note calls over the table's counts, lent, are the note calls.
use Rattle.std.specs.Prelude.{◌≡◌, List, map, ℕ, ◌<◌, get_or}
use Rattle.cap.specs.Slot.{vacant_slot}
use Rattle.cap.specs.Word.{word_of}
use Rattle.cap.specs.declared.slot.Slot.{Slot}
use Rattle.ipc_rules.specs.State.{with_refusals}
use Rattle.ipc_rules.specs.Counts.{authority_noted, state_noted}
use Rattle.lent.specs.Holds.{register_slots}
use Rattle.history.specs.Calls.{Call, register, note_authority, note_state, registered, answer}
use Rattle.history.specs.World.{World, settled, step, Reached}

-- slot records whose ids have 32 bits, as code has them
abbrev pub Fit : List Slot → Type 0
Fit slots = (i : ℕ) → (get_or slots i vacant_slot).id.raw < 4294967296

-- the register of the words that stand for them
abbrev pub lending : List Slot → Call
lending slots = register (map word_of slots)

-- its answer is the one of `register_holds` over the records, and the world afterwards has that one's table, and nothing else moved
pub record LentServed (w : World) (slots : List Slot) : Type 0 where
  pub answers : answer w.table (lending slots) ≡ registered (register_slots w.table slots).answer
  pub leaves : step w (lending slots) ≡ settled w (register_slots w.table slots).table

abbrev pub LentCalls : Type 0
LentCalls = (w : World) → Reached w → (slots : List Slot) → Fit slots → LentServed w slots

-- a note call leaves the world with its counts as the lent ones are left
pub record NotesServed (w : World) : Type 0 where
  pub authority : step w note_authority ≡ settled w (with_refusals w.table (authority_noted w.table.counters.refusals))
  pub state : step w note_state ≡ settled w (with_refusals w.table (state_noted w.table.counters.refusals))

abbrev pub LentNotes : Type 0
LentNotes = (w : World) → NotesServed w
