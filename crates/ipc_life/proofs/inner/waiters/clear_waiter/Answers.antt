-- `ipc_life::inner::waiters::clear_waiter` meets its contract: a turn of `Sweep` for each mailbox. Assumes nothing.
use mathlib.Core.Path.{◌≡◌, sym, ◌∙◌}
use native.Mathlib.Omega.{arith}
use lib.Seq.{set-get_or}
use Rattle.laws.proofs.Sweep.{swept_none, swept_yes, swept_no, swept_few, swept_all}
use Rattle.ipc_rules.specs.Waiters.{without_waiter, clear_of}
use Rattle.ipc_life.proofs.inner.waiters.clear_waiter.Goals as goal
use Rattle.ipc_life.proofs.inner.waiters.clear_waiter.Goals.{then-waits_on, else-waits_on}

pub loop-b-init : goal.loop-b-init
loop-b-init c = swept_none _ _ _ _

pub overflow_add-cleared : goal.overflow_add-cleared
overflow_add-cleared c = omega (arith, swept_few _ _ _ _ c.loop-b.invariant)

pub loop-b-preserved : goal.loop-b-preserved
loop-b-preserved c =
    elim c.if-waits_on.branch [
      | then-waits_on w ↦ swept_yes _ _ _ _ _ c.loop-b.invariant (sym c.waits_on.ensures ∙ w.if-waits_on.true) w.b-items-is w.cleared-is
      | else-waits_on w ↦ swept_no _ _ _ _ _ c.loop-b.invariant (sym c.waits_on.ensures ∙ w.if-waits_on.false) (w.b-items-is ∙ set-get_or _ _ _) w.cleared-is
    ]

pub returns : goal.returns
unfolding clear_of without_waiter
returns c =
    let e : c.loop-b.b-index ≡ 32 = omega arith in
    let h = rw e at c.loop-b.invariant in
    rw (h.counts, swept_all _ _ _ _ 32 (omega (arith, c.requires.shape.mailboxes)) h)
