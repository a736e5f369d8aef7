-- What each turn of `run` keeps, and what falls.
use lib.ListN.{length}
use Rattle.jobtext.proofs.Runs.{Going}
use Rattle.jobtext.proofs.inner.run.Given as goal

abbrev pub invariant-loop-rest : goal.invariant-loop-rest
invariant-loop-rest l = Going l.script l.initial.out l.initial.place l.out l.rest l.place l.at

abbrev pub decreases-loop-rest : goal.decreases-loop-rest
decreases-loop-rest l = length l.rest
