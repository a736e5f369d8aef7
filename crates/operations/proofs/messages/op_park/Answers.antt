-- `operations::messages::op_park` meets its contract. Assumes nothing.
use Rattle.std.specs.Prelude.{Option, Result}
use Rattle.ipc_rules.specs.Answers.{park_number, park_values}
use Rattle.operations.specs.Channels.{park_done, after_park}
use Rattle.operations.proofs.Packs.{packs}
use Rattle.operations.proofs.Explains.{park_explains, reason_shown}
use Rattle.operations.proofs.messages.op_park.Goals as goal
use Rattle.ipc_rules.specs.declared.state.Message.{Message}
use Rattle.ipc_rules.specs.declared.answers.ParkError.{ParkError}
use Rattle.shown.specs.declared.Answered.{Answered}
use Rattle.ipc_rules.specs.declared.state.Table.{Table as Channels}

pub returns : goal.returns
unfolding park_done
returns c = rw (← c.task_at.ensures, ← c.id_at-cap.ensures)
    (packs (after_park c.args.t _) c.park-parked.ensures
    (reason_shown (λ (r : Answered (Result (Option Message) ParkError) Channels). park_number r.answer) (λ r. park_values r.answer) _ c.park-parked.ensures (park_explains _ _ _).explained c.with_reason-shown.ensures c.park_shown.ensures))
