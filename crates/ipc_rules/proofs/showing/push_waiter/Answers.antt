-- `ipc_rules::showing::push_waiter` meets its contract. Assumes nothing.
use mathlib.Core.Path.{◌≡◌}
use mathlib.Core.Bool.{true, false}
use Rattle.laws.specs.Pick.{pick}
use Rattle.shown.specs.Shown.{pushed, pushed_all}
use Rattle.shown.specs.declared.Shown.{Shown}
use Rattle.ipc_rules.specs.Answers.{waiter_values}
use Rattle.ipc_rules.specs.declared.state.Waiter.{Waiter}
use borrow.Author.Rules.{rules}
use Rattle.ipc_rules.proofs.showing.push_waiter.Goals as goal

module _ (s : Shown) (w : Waiter) {r : Shown} where
  waits : w.present ≡ true → r ≡ pushed (pushed (pushed s 1) w.task.slot) w.task.epoch → r ≡ pushed_all s (waiter_values w)
  unfolding pushed_all waiter_values pick
  waits e h = rw e h

  idle : w.present ≡ false → r ≡ pushed s 0 → r ≡ pushed_all s (waiter_values w)
  unfolding pushed_all waiter_values pick
  idle e h = rw e h

pub returns-then-w : goal.returns-then-w
returns-then-w c = waits _ _ (search rules) (rw (← c.push-one.ensures, ← c.push-two.ensures) c.push.ensures)

pub returns : goal.returns
returns c = idle _ _ (search rules) c.push-2.ensures
