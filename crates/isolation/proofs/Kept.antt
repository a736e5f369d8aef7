-- What every dispatcher call keeps, from fresh tables on: each open job has its own channel, and each slot that holds an id holds one of an
-- open job's, its receive id in a row that its tag is bound to. Assumes nothing.
use mathlib.Core.Path.{◌≡◌}
use Prim.Native.Nat.{ℕ}
use lib.ListN.{length}
use Rattle.cap.specs.Rights.{send_right}
use Rattle.cap.specs.Slot.{holding}
use Rattle.cap.specs.declared.CapId.{CapId}
use Rattle.capslots.specs.Table.{slot_in, Shape}
use Rattle.ipc_rules.specs.Opening.{opening_of}
use Rattle.ipc_rules.specs.declared.opening.Opening.TheVariants.{Opens}
use Rattle.dispatcher_rules.specs.Border.{Ready}
use Rattle.dispatcher_rules.specs.declared.state.Desk.{Desk}
use Rattle.isolation.specs.Jobs.{job_in, OpenIn}
use Rattle.isolation.specs.Own.{OwnIn, InJob}

pub record Kept (w : Desk) : Type 0 where
  pub ready : Ready w.dispatcher w.channels
  pub places : length w.dispatcher.jobs ≡ 16
  pub shape : Shape w.rows
  pub own : (p : ℕ) → OpenIn w p → OwnIn w p
  -- two jobs whose send ids open one mailbox are one
  pub apart : (p q : ℕ) → OpenIn w p → OpenIn w q → (k : ℕ) →
      opening_of w.channels (job_in w p).ends.send send_right ≡ Opens k → opening_of w.channels (job_in w q).ends.send send_right ≡ Opens k → p ≡ q
  pub slots : (r s : ℕ) (c : CapId) → slot_in w.rows r s ≡ holding c → InJob w r c
