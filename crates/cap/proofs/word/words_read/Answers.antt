-- `cap::word::words_read` meets its contract. Assumes nothing.
use Rattle.std.proofs.Common.{rules}
use Rattle.laws.proofs.Every.{every_none, every_step, every_done}
use Rattle.cap.proofs.word.words_read.Goals as goal

pub loop-word-init : goal.loop-word-init
loop-word-init c = every_none _

pub loop-word-preserved : goal.loop-word-preserved
loop-word-preserved c = every_step _ _ _ _ c.loop-word.invariant c.is_word-ok.ensures

pub returns : goal.returns
returns c = every_done _ _ _ _ (search rules) c.loop-word-test.false c.loop-word.invariant
