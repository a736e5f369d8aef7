-- Demand 3's "any sequence of calls", with document 01's joined steps and `lent`'s register over slot records among the calls, and with
-- whatever is done to the rows between them: its channel table is that of a run of calls.
use Rattle.std.specs.Prelude.{◌≡◌, List, [], ◌∷◌, ◌++◌, ℕ}
use Rattle.cap.specs.declared.CapId.{CapId}
use Rattle.cap.specs.declared.slot.Slot.{Slot}
use Rattle.capslots.specs.Table.{Shape}
use Rattle.capslots.specs.declared.Table.{Table as Rows}
use Rattle.ipc_rules.specs.declared.state.Table.{Table}
use Rattle.joined.specs.Border.{spawn_call, leave_call, give_call}
use Rattle.joined.specs.Steps.{spawn_of, leave_of, give_of}
use Rattle.lent.specs.Holds.{register_slots}
use Rattle.history.specs.Calls.{Call, after}
use Rattle.history.specs.World.{World, run, Reached}
use Rattle.history.specs.Joined.{spawn_calls, leave_calls, give_calls}
use Rattle.history.specs.Lent.{Fit, lending}

-- a call, a register over slot records, a joined step, or any change of the rows alone
pub data Deed : Type 0 where
  call : Call → Deed
  lend : (slots : List Slot) → Fit slots → Deed
  spawn : ℕ → List ℕ → Deed
  leave : ℕ → Deed
  give : ℕ → ℕ → CapId → Deed
  rows : (u : Rows) → Shape u → Deed

pub record Both : Type 0 where
  pub channels : Table
  pub rows : Rows

-- the two tables afterwards
unfoldable pub after_deed : Both → Deed → Both
after_deed b (call c) = record { channels = after b.channels c; rows = b.rows }
after_deed b (lend slots fit) = record { channels = (register_slots b.channels slots).table; rows = b.rows }
after_deed b (spawn r words) = record { channels = (spawn_of b.channels b.rows r words).channels; rows = (spawn_of b.channels b.rows r words).rows }
after_deed b (leave r) = record { channels = (leave_of b.channels b.rows r).channels; rows = (leave_of b.channels b.rows r).rows }
after_deed b (give r s c) = record { channels = (give_of b.channels b.rows r s c).channels; rows = (give_of b.channels b.rows r s c).rows }
after_deed b (rows u shape) = record { channels = b.channels; rows = u }

unfoldable pub after_deeds : Both → List Deed → Both
after_deeds b [] = b
after_deeds b (d ∷ ds) = after_deeds (after_deed b d) ds

-- the calls that they are
unfoldable pub deed_calls : Both → Deed → List Call
deed_calls b (call c) = c ∷ []
deed_calls b (lend slots fit) = lending slots ∷ []
deed_calls b (spawn r words) = spawn_calls b.channels b.rows r words
deed_calls b (leave r) = leave_calls b.channels b.rows r
deed_calls b (give r s c) = give_calls b.channels b.rows r s c
deed_calls b (rows u shape) = []

unfoldable pub deeds_calls : Both → List Deed → List Call
deeds_calls b [] = []
deeds_calls b (d ∷ ds) = deed_calls b d ++ deeds_calls (after_deed b d) ds

abbrev pub SequencesRun : Type 0
SequencesRun =
    (w : World) → Reached w → (u : Rows) → Shape u → (ds : List Deed) → let b : Both = record { channels = w.table; rows = u } in
    (run w (deeds_calls b ds)).table ≡ (after_deeds b ds).channels

-- each public step refuses an unsound channel table with 27 before its rule; no table of a run is one
pub record JoinedServed (t : Table) (u : Rows) : Type 0 where
  pub spawn : (r : ℕ) (words : List ℕ) → spawn_call t u r words ≡ spawn_of t u r words
  pub leave : (r : ℕ) → leave_call t u r ≡ leave_of t u r
  pub give : (r s : ℕ) (c : CapId) → give_call t u r s c ≡ give_of t u r s c

abbrev pub JoinedPublic : Type 0
JoinedPublic = (w : World) → Reached w → (u : Rows) → JoinedServed w.table u
