-- `line::text::digits` meets its contract: what std writes is put past what stood there. Assumes nothing.
use mathlib.Core.Path.{◌≡◌, ◌∙◌}
use native.Mathlib.Omega.{arith}
use borrow.Author.Rules.{rules}
use Rattle.line.specs.Line.{decimal_of}
use Rattle.line.proofs.Decimal.{decimal_same}
use Rattle.line.proofs.Pieces.{placed}
use Rattle.line.proofs.text.digits.Goals as goal

pub returns-clause-text : goal.returns-clause-text
returns-clause-text c =
    let d : c.as_bytes-text.result.now ≡ decimal_of c.args.n =
    c.as_bytes-text.ensures.value ∙ c.format.ensures.text ∙ decimal_same c.args.n (omega arith) in
    rw (c.copy_from_slice.ensures.after, d) (placed _ _ _ c.args.at (search rules))
