-- Request No. 5, in runs from fresh tables: right after a closing neither id opens, and the waiter of a closed job is answered, once.
use Rattle.std.specs.Prelude.{◌≡◌, false, ℕ, Ok}
use Rattle.cap.specs.declared.CapRights.{CapRights}
use Rattle.ipc_rules.specs.State.{nobody, mailbox_live}
use Rattle.ipc_rules.specs.Opening.{opening_of}
use Rattle.ipc_rules.specs.Views.{waiter_of}
use Rattle.ipc_rules.specs.declared.opening.Opening.TheVariants.{Shut}
use Rattle.dispatcher_rules.specs.declared.state.Desk.{Desk}
use Rattle.isolation.specs.Runs.{close, closing, after, Reached}
use Rattle.isolation.specs.Jobs.{job_in, OpenIn}
use Rattle.isolation.specs.Own.{OwnIn}

-- place p, whose job has mailbox k, is closed
pub record Closes (w : Desk) (p k : ℕ) : Type 0 where
  -- who waits there is the answer, and then nobody waits there
  pub answers : (closing w p).answer ≡ Ok (waiter_of w.channels k)
  pub nobody_waits : waiter_of (after w (close p)).channels k ≡ nobody
  -- the channel is gone, and neither id opens, by any right
  pub gone : mailbox_live (after w (close p)).channels k ≡ false
  pub send_shut : (need : CapRights) → opening_of (after w (close p)).channels (job_in w p).ends.send need ≡ Shut
  pub recv_shut : (need : CapRights) → opening_of (after w (close p)).channels (job_in w p).ends.recv need ≡ Shut
  -- and the place is free
  pub free : (job_in (after w (close p)) p).«open» ≡ false

abbrev pub ClosingEnds : Type 0
ClosingEnds = (w : Desk) → Reached w → (p : ℕ) → OpenIn w p → (mine : OwnIn w p) → Closes w p mine.box
