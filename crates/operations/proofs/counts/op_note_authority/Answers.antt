-- `operations::counts::op_note_authority` meets its contract. Assumes nothing.
use Rattle.operations.specs.Channels.{note_authority_done, after_note}
use Rattle.operations.proofs.Packs.{packs}
use Rattle.operations.proofs.counts.op_note_authority.Goals as goal

pub returns : goal.returns
unfolding note_authority_done
returns c = packs (after_note c.args.t) c.note_authority_refusal-noted.ensures c.shown.ensures
