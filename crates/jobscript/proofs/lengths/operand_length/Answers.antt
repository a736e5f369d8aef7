-- `jobscript::lengths::operand_length` meets its contract: the constant table is the rule's list, and its entries are short. Assumes nothing.
use native.Mathlib.Omega.{arith}
use Rattle.jobscript.specs.Read.{length_of, lengths}
use Rattle.jobscript.proofs.Few.{operands_few}
use borrow.Author.Rules.{rules}
use Rattle.jobscript.proofs.lengths.operand_length.Goals as goal

pub overflow_cast-result : goal.overflow_cast-result
unfolding length_of lengths
overflow_cast-result c = omega (arith, operands_few c.args.op (search rules))

pub returns : goal.returns
unfolding length_of lengths
returns c = search rules
