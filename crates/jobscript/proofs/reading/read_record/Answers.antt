-- `jobscript::reading::read_record` meets its contract: its tests come in the rule's order. Assumes nothing.
use native.Mathlib.Omega.{arith}
use borrow.Author.Rules.{rules}
use Rattle.logread.specs.Little.{byte_at}
use Rattle.jobscript.specs.Read.{job_read_of}
use Rattle.jobscript.proofs.Few.{operands_few}
use Rattle.jobscript.proofs.Marks.{marking}
use Rattle.jobscript.proofs.reading.read_record.Goals as goal

pub returns-then-script-lt2 : goal.returns-then-script-lt2
unfolding job_read_of
returns-then-script-lt2 c = search marking

pub returns-then-not-starts_with : goal.returns-then-not-starts_with
unfolding job_read_of
returns-then-not-starts_with c = search marking

pub returns-then-script-lt3 : goal.returns-then-script-lt3
unfolding job_read_of
returns-then-script-lt3 c = search marking

pub returns-then-op-gt-LAST : goal.returns-then-op-gt-LAST
unfolding job_read_of
returns-then-op-gt-LAST c = search marking

pub overflow_add-len : goal.overflow_add-len
overflow_add-len c = omega (arith, operands_few (byte_at c.args.script.now 2) (search rules), c.operand_length-len.ensures)

pub returns-then-script-len : goal.returns-then-script-len
unfolding job_read_of
returns-then-script-len c = rw (← c.operand_length-len.ensures) (search marking depth 12)

pub returns : goal.returns
unfolding job_read_of
returns c = rw (← c.operand_length-len.ensures) (search marking depth 16)
