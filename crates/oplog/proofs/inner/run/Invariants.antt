-- What each turn of `run` keeps, and what falls.
use mathlib.Core.Path.{◌≡◌}
use Prim.Native.Nat.{◌+◌, ◌-◌, ◌≤◌}
use lib.ListN.{length}
use Rattle.ipc_rules.specs.Sound.{Sound}
use Rattle.oplog.specs.Run.{run_from, run_of}
use Rattle.oplog.proofs.inner.run.Given as goal

abbrev pub invariant-loop-rest : goal.invariant-loop-rest
invariant-loop-rest l =
    (l.before ≤ l.done) × (l.done - l.before + length l.rest ≤ length l.log) × (length l.out ≡ length l.initial.out) × Sound l.t.channels ×
    (run_from (length l.log) (l.before + length l.log - l.done) l.rest l.done l.out l.at l.t ≡ run_of l.log l.before l.initial.out l.initial.t)

abbrev pub decreases-loop-rest : goal.decreases-loop-rest
decreases-loop-rest l = length l.rest
