-- `operations::counts::op_note_state` meets its contract. Assumes nothing.
use Rattle.operations.specs.Channels.{note_state_done, after_note}
use Rattle.operations.proofs.Packs.{packs}
use Rattle.operations.proofs.counts.op_note_state.Goals as goal

pub returns : goal.returns
unfolding note_state_done
returns c = packs (after_note c.args.t) c.note_state_refusal-noted.ensures c.shown.ensures
