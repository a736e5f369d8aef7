-- `line::text::line` meets its contract: its pieces stand one after the other. Assumes nothing.
use Rattle.line.proofs.Pieces.{pieces}
use Rattle.line.proofs.text.line.Goals as goal

pub returns-clause-text : goal.returns-clause-text
returns-clause-text c =
    pieces c.digits-a.new.out c.spaced-b.new.out c.spaced-c.new.out c.closed.new.out _ c.digits-a.result c.spaced-b.result c.spaced-c.result
    c.closed.result c.args.number c.args.op c.args.answer c.digits-a.ensures.text c.spaced-b.ensures.text c.spaced-c.ensures.text
    c.closed.ensures.text
