-- What each turn of `clear_waiter` keeps: the mailboxes passed are without the task where it waited on them, and counted.
use Rattle.laws.proofs.Sweep.{Swept}
use Rattle.ipc_rules.specs.State.{fresh_mailbox, nobody, with_waiter}
use Rattle.ipc_rules.specs.Waiters.{waits_on}
use Rattle.ipc_life.proofs.inner.waiters.clear_waiter.Given as goal

abbrev pub invariant-loop-b : goal.invariant-loop-b
invariant-loop-b l = Swept (λ b. waits_on b l.fn.task) (λ b. with_waiter b nobody) fresh_mailbox l.fn.t.mailboxes l.b-index l.b-items l.cleared
