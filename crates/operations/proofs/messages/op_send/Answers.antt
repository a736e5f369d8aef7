-- `operations::messages::op_send` meets its contract. Assumes nothing.
use Rattle.std.specs.Prelude.{Result}
use Rattle.ipc_rules.specs.Answers.{send_number, send_values}
use Rattle.operations.specs.Channels.{send_done, after_send}
use Rattle.operations.proofs.Packs.{packs}
use Rattle.operations.proofs.Explains.{send_explained, reason_shown}
use Rattle.operations.proofs.messages.op_send.Goals as goal
use Rattle.ipc_rules.specs.declared.state.Waiter.{Waiter}
use Rattle.ipc_rules.specs.declared.answers.SendError.{SendError}
use Rattle.shown.specs.declared.Answered.{Answered}
use Rattle.ipc_rules.specs.declared.state.Table.{Table as Channels}

pub returns : goal.returns
unfolding send_done
returns c = rw (← c.index_at.ensures, ← c.payload_at.ensures, ← c.id_at-cap.ensures)
    (packs (after_send c.args.t _) c.send-sent.ensures
    (reason_shown (λ (r : Answered (Result Waiter SendError) Channels). send_number r.answer) (λ r. send_values r.answer) _ c.send-sent.ensures (send_explained _ _ _ _) c.with_reason-shown.ensures c.shown.ensures))
