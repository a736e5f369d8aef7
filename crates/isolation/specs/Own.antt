-- The job dispatcher, in runs from fresh tables: each open place has its own live channel with its own two ids, and the holds of an open job
-- are the slots that hold its send id. A slot holds an id only while its job is open.
use Rattle.std.specs.Prelude.{◌≡◌, true, ℕ}
use Rattle.cap.specs.Rights.{send_right, receive_right}
use Rattle.cap.specs.Slot.{holding}
use Rattle.cap.specs.declared.CapId.{CapId}
use Rattle.capslots.specs.Table.{slot_in}
use Rattle.capslots.specs.declared.Table.{Table as Rows}
use Rattle.ipc_rules.specs.State.{mailbox_live}
use Rattle.ipc_rules.specs.Opening.{opening_of}
use Rattle.ipc_rules.specs.Views.{hold_count, ephemeral_of}
use Rattle.ipc_rules.specs.declared.opening.Opening.TheVariants.{Opens, Shut}
use Rattle.ipc_rules.specs.declared.state.Channel.{Channel}
use Rattle.ipc_rules.specs.declared.state.Table.{Table as Channels}
use Rattle.dispatcher_rules.specs.declared.state.Desk.{Desk}
use Rattle.isolation.specs.Runs.{Reached}
use Rattle.isolation.specs.Jobs.{job_in, OpenIn, BoundTo}

-- ids open the channel in mailbox k, ephemeral and live, each by its one right
pub record Channelled (t : Channels) (ends : Channel) (k : ℕ) : Type 0 where
  pub live : mailbox_live t k ≡ true
  pub kind : ephemeral_of t k ≡ true
  pub sends : opening_of t ends.send send_right ≡ Opens k
  pub sends_only : opening_of t ends.send receive_right ≡ Shut
  pub receives : opening_of t ends.recv receive_right ≡ Opens k
  pub receives_only : opening_of t ends.recv send_right ≡ Shut

-- one slot of all rows holds the id
pub record StandsOnce (rows : Rows) (c : CapId) : Type 0 where
  pub row : ℕ
  pub slot : ℕ
  pub there : slot_in rows row slot ≡ holding c
  pub only : (r s : ℕ) → slot_in rows r s ≡ holding c → (r ≡ row) × (s ≡ slot)

-- ids have a channel of their own; each stands in one slot, and for that of the send id there is one hold
pub record Own (rows : Rows) (t : Channels) (ends : Channel) : Type 0 where
  pub box : ℕ
  pub channel : Channelled t ends box
  pub send_stands : StandsOnce rows ends.send
  pub holds : hold_count t box ≡ 1
  pub recv_stands : StandsOnce rows ends.recv

-- so has the job in place p
abbrev pub OwnIn : Desk → ℕ → Type 0
OwnIn w p = Own w.rows w.channels (job_in w p).ends

-- two jobs' channels are two, and their four ids are four: of one job they differ by the right that they open by, and the fourth pair is
-- the third with the jobs changed over
pub record Apart (w : Desk) (p q : ℕ) (mine : OwnIn w p) (other : OwnIn w q) : Type 0 where
  pub boxes : mine.box ≡ other.box → ⊥
  pub sends : (job_in w p).ends.send ≡ (job_in w q).ends.send → ⊥
  pub receives : (job_in w p).ends.recv ≡ (job_in w q).ends.recv → ⊥
  pub crossed : (job_in w p).ends.send ≡ (job_in w q).ends.recv → ⊥

-- an id that stands in row r is an open job's: its send id, or its receive id where its tag is bound to that row
pub data InJob (w : Desk) (r : ℕ) (c : CapId) : Type 0 where
  as_send : (p : ℕ) → OpenIn w p → c ≡ (job_in w p).ends.send → InJob w r c
  as_recv : (p : ℕ) → OpenIn w p → c ≡ (job_in w p).ends.recv → BoundTo w.dispatcher (job_in w p).tag r → InJob w r c

-- so no old id is left in any row
abbrev pub SlotsOfJobs : Type 0
SlotsOfJobs = (w : Desk) → Reached w → (r s : ℕ) (c : CapId) → slot_in w.rows r s ≡ holding c → InJob w r c

abbrev pub OwnChannels : Type 0
OwnChannels = (w : Desk) → Reached w → (p : ℕ) → OpenIn w p → OwnIn w p

abbrev pub ChannelsApart : Type 0
ChannelsApart = (w : Desk) → Reached w → (p q : ℕ) → OpenIn w p → OpenIn w q → (p ≡ q → ⊥) → (mine : OwnIn w p) (other : OwnIn w q) → Apart w p q mine other
