-- What each turn of `register_four` keeps.
use Rattle.ipc_holds.proofs.Turns.{Registers}
use Rattle.ipc_holds.proofs.inner.register_four.Given as goal

abbrev pub invariant-loop-slot : goal.invariant-loop-slot
invariant-loop-slot l = Registers l.initial.t l.fn.slots l.slot-index l.t
