-- Request No. 7: "the holds of every live channel equal the number of slots in all rows that contain its send id."
--
--   "From fresh tables"                          `Reached`: from `start`, of any sizes
--   "with only the joined steps, ..              `Step`, any operands and whatever it answers
--   .. and transfer"
--   "at most 65,535 successful creations"        the length of `created`
--   "each endpoint id put in a slot came from    `PutsCreated`
--   an earlier creation"
--   "every live channel"                         the channel in any mailbox k that is live
--   "its send id"                                `Tallies` `id`: it opens the mailbox for send, no other does, and a creation answered it
--   "the number of slots in all rows"            `slots_with`, over the 54 rows of 4 slots
use Rattle.std.specs.Prelude.{◌≡◌, true, ℕ, ◌≤◌, length}
use Rattle.cap.specs.Rights.{send_right}
use Rattle.cap.specs.declared.CapId.{CapId}
use Rattle.capslots.specs.Table.{Shape}
use Rattle.capslots.specs.Transfer.{transfer_of}
use Rattle.capslots.specs.declared.Table.{Table as Rows}
use Rattle.ipc_rules.specs.State.{mailbox_live}
use Rattle.ipc_rules.specs.Opening.{opening_of}
use Rattle.ipc_rules.specs.Views.{hold_count}
use Rattle.ipc_rules.specs.declared.opening.Opening.TheVariants.{Opens}
use Rattle.ipc_rules.specs.declared.state.Channel.{Channel}
use Rattle.dispatcher_rules.specs.Border.{Ready}
use Rattle.tally.specs.Count.{slots_with}
use Rattle.tally.specs.Runs.{Books, Made, Reached}

-- the channel in mailbox k: it has one send id, and as many holds as there are slots that hold this id
pub record Tallies (b : Books) (k : ℕ) : Type 0 where
  pub ids : Channel
  pub created : Made ids b.created
  pub sends : opening_of b.channels ids.send send_right ≡ Opens k
  pub only : (c : CapId) → opening_of b.channels c send_right ≡ Opens k → c ≡ ids.send
  pub equal : hold_count b.channels k ≡ slots_with b.rows ids.send

-- whatever holds after every run within the bound
abbrev pub AfterRuns : (Books → Type 0) → Type 0
AfterRuns P = (b : Books) → Reached b → length b.created ≤ 65535 → P b

abbrev pub HoldsAreSlots : Type 0
HoldsAreSlots = AfterRuns (λ b. (k : ℕ) → mailbox_live b.channels k ≡ true → Tallies b k)

-- "A transfer keeps the total for every channel": for every id, on every table of 54 rows of 4 slots, as those of a run are (`RunsReady`)
abbrev pub TransferKeeps : Type 0
TransferKeeps = (rows : Rows) → Shape rows → (r s r' s' : ℕ) (c : CapId) → slots_with (transfer_of rows r s r' s').table c ≡ slots_with rows c

-- holds stop at 4,294,967,295, which is never near: each hold has its slot, and 54 rows of 4 are 216
abbrev pub FarFromCeiling : Type 0
FarFromCeiling = AfterRuns (λ b. (k : ℕ) → mailbox_live b.channels k ≡ true → hold_count b.channels k ≤ 216)

-- what a run reaches has 54 rows of 4 slots, and passes the test before every public call (`dispatcher_rules` Promises `ReadyPasses`, `ipc_sound`
-- Decide): so none is refused with 27, and what each does is its rule
pub record Served (b : Books) : Type 0 where
  pub ready : Ready b.dispatcher b.channels
  pub shape : Shape b.rows

abbrev pub RunsReady : Type 0
RunsReady = AfterRuns Served
