-- What each turn of `register_holds` keeps.
use Rattle.cap.specs.Word.{slots_of}
use Rattle.ipc_holds.proofs.Turns.{Registers}
use Rattle.ipc_holds.proofs.inner.register_holds.Given as goal

abbrev pub invariant-loop-word : goal.invariant-loop-word
invariant-loop-word l = Registers l.initial.t (slots_of l.list) l.word-index l.t
