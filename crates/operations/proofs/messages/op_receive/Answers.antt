-- `operations::messages::op_receive` meets its contract. Assumes nothing.
use Rattle.std.specs.Prelude.{Result}
use Rattle.ipc_rules.specs.Answers.{recv_number, recv_values}
use Rattle.operations.specs.Channels.{receive_done, after_receive}
use Rattle.operations.proofs.Packs.{packs}
use Rattle.operations.proofs.Explains.{receive_explains, reason_shown}
use Rattle.operations.proofs.messages.op_receive.Goals as goal
use Rattle.ipc_rules.specs.declared.state.Message.{Message}
use Rattle.ipc_rules.specs.declared.answers.RecvError.{RecvError}
use Rattle.shown.specs.declared.Answered.{Answered}
use Rattle.ipc_rules.specs.declared.state.Table.{Table as Channels}

pub returns : goal.returns
unfolding receive_done
returns c = rw (← c.id_at-cap.ensures)
    (packs (after_receive c.args.t _) c.try_recv-received.ensures
    (reason_shown (λ (r : Answered (Result Message RecvError) Channels). recv_number r.answer) (λ r. recv_values r.answer) _ c.try_recv-received.ensures (receive_explains _ _).explained c.with_reason-shown.ensures c.shown.ensures))
