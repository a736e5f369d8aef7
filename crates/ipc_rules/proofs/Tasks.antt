-- When two tasks are one, and when a task waits. Assumes nothing.
use mathlib.Core.Path.{◌≡◌, refl, sym, ap}
use mathlib.Core.Bool.{true, false}
use borrow.Author.Tests.{eqb-true, eq-eqb, not-true, not-false}
use lib.Dec.{eqb}
use Rattle.laws.proofs.Cases.{yes, all_pick, not_both}
use Rattle.laws.proofs.Every.{and_left, and_right, and_both}
use Rattle.ipc_rules.specs.State.{waiting}
use Rattle.ipc_rules.specs.Receive.{same_task, other_waits}
use Rattle.ipc_rules.specs.Waiters.{waits_on}
use Rattle.ipc_rules.specs.declared.state.Mailbox.{Mailbox}
use Rattle.ipc_rules.specs.declared.state.TaskId.{TaskId}
use Rattle.ipc_rules.specs.declared.state.Waiter.{Waiter}

pub same_task_lem : (x y : TaskId) → same_task x y ≡ true → x ≡ y
same_task_lem x y h =
    let a = and_left (eqb x.slot y.slot) (eqb x.epoch y.epoch) h in
    let b = and_right (eqb x.slot y.slot) (eqb x.epoch y.epoch) h in
    λ i. record { slot = eqb-true x.slot y.slot a i; epoch = eqb-true x.epoch y.epoch b i }

pub task_same : (x y : TaskId) → x ≡ y → same_task x y ≡ true
task_same x y e =
    and_both (eqb x.slot y.slot) (eqb x.epoch y.epoch) (eq-eqb _ _ (ap (λ (z : TaskId). z.slot) e)) (eq-eqb _ _ (ap (λ (z : TaskId). z.epoch) e))

-- a waiter is there and is that task
pub waits_is : (w : Waiter) (task : TaskId) → w.present ≡ true → same_task w.task task ≡ true → w ≡ waiting task
waits_is w task p h = let e = same_task_lem w.task task h in λ i. record { present = p i; task = e i }

-- a mailbox on which the task waits, and back
pub on_waits : (b : Mailbox) (task : TaskId) → waits_on b task ≡ true → b.waiter ≡ waiting task
on_waits b task =
    all_pick (λ v. v ≡ true → b.waiter ≡ waiting task) b.waiter.present _ _ (λ p h. waits_is b.waiter task p h)
    (λ _ h. absurd (not_both false h refl))

pub waits_on_lem : (b : Mailbox) (task : TaskId) → b.waiter ≡ waiting task → waits_on b task ≡ true
waits_on_lem b task e = sym (yes _ (ap (λ (w : Waiter). w.present) e) (sym (task_same _ _ (ap (λ (w : Waiter). w.task) e))))

-- another task waits, or none does but that one
pub other_waits_lem : (w : Waiter) (task : TaskId) → other_waits w task ≡ true → (w.present ≡ true) × (w ≡ waiting task → ⊥)
other_waits_lem w task =
    all_pick (λ v. v ≡ true → (w.present ≡ true) × (w ≡ waiting task → ⊥)) w.present _ _
    (λ p h. (p, λ e. not_both _ (task_same _ _ (ap (λ (x : Waiter). x.task) e)) (not-true _ h)))
    (λ _ h. absurd (not_both false h refl))

pub none_other : (w : Waiter) (task : TaskId) → other_waits w task ≡ false → w.present ≡ true → w ≡ waiting task
none_other w task =
    all_pick (λ v. v ≡ false → w.present ≡ true → w ≡ waiting task) w.present _ _ (λ p h _. waits_is w task p (not-false _ h))
    (λ n _ p. absurd (not_both _ p n))
