-- `ipc_holds::inner::register_holds` meets its contract: a turn of `Turns` for each word of the list. Assumes nothing.
use mathlib.Core.Path.{sym, ◌∙◌}
use Rattle.laws.proofs.Cases.{cases}
use Rattle.cap.proofs.Words.{slots_at, slots_length}
use Rattle.ipc_rules.specs.Holds.{register_of}
use Rattle.ipc_holds.proofs.Turns.{turn, done}
use Rattle.ipc_holds.proofs.inner.register_holds.Goals as goal

pub returns-then-not-words_read : goal.returns-then-not-words_read
unfolding register_of
returns-then-not-words_read c = rw (← c.words_read.ensures) (search cases)

pub loop-word-preserved : goal.loop-word-preserved
loop-word-preserved c =
    turn _ _ _ _ _ _ (rw slots_length c.loop-word-test.true) (c.slot_of.ensures ∙ sym (slots_at _ _)) c.register_one-t.ensures c.loop-word.invariant

pub returns : goal.returns
unfolding register_of
returns c = rw (← done _ _ _ _ (rw slots_length c.loop-word-test.false) c.loop-word.invariant, ← c.words_read.ensures) (search cases)
