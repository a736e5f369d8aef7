-- The table is sound.
use Rattle.ipc_rules.specs.Sound.{Sound}
use Rattle.rounds.proofs.interior.Given as goal

abbrev pub invariant-loop-i : goal.invariant-loop-i
invariant-loop-i l = Sound l.t
