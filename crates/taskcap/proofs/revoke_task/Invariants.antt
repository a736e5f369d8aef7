-- What each turn of `revoke_task` keeps: the entries up to its own are ended where they are the task's, and counted.
use Rattle.laws.proofs.Sweep.{Swept}
use Rattle.mint.specs.Entry.{no_entry, is_of, ended_entry}
use Rattle.taskcap.proofs.revoke_task.Given as goal

abbrev pub invariant-loop-e : goal.invariant-loop-e
invariant-loop-e l = Swept (λ e. is_of e l.task) ended_entry no_entry l.fn.t.entries l.e-index l.e-items l.count
