-- `operations::counts::op_queued` meets its contract. Assumes nothing.
use Rattle.ipc_rules.specs.Answers.{queued_number, queued_values}
use Rattle.operations.specs.Channels.{queued_done, after_queued}
use Rattle.operations.proofs.Packs.{packs}
use Rattle.operations.proofs.Explains.{queued_explains, reason_shown}
use Rattle.operations.proofs.counts.op_queued.Goals as goal

pub returns : goal.returns
unfolding queued_done
returns c = rw (← c.id_at-cap.ensures)
    (packs (after_queued c.args.t _) c.queued-answer.ensures
    (reason_shown queued_number queued_values _ c.queued-answer.ensures (queued_explains _ _).explained c.with_reason-shown.ensures c.shown.ensures))
