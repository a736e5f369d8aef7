-- `line::text::spaced` meets its contract. Assumes nothing.
use borrow.Author.Rules.{rules}
use Rattle.line.proofs.Pieces.{space}
use Rattle.line.proofs.text.spaced.Goals as goal

pub returns-clause-text : goal.returns-clause-text
returns-clause-text c = space c.args.out.now c.digits.new.out c.args.at c.digits.result c.args.n (search rules) c.digits.ensures.text
