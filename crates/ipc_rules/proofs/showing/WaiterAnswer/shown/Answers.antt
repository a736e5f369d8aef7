-- What a line shows of a waiter. Assumes nothing.
use mathlib.Core.Path.{◌≡◌}
use mathlib.Core.Bool.{true, false}
use mathlib.Core.List.{[], ◌∷◌}
use Rattle.laws.specs.Pick.{pick}
use Rattle.laws.specs.Refusals as no
use Rattle.shown.specs.Shown.{shown}
use Rattle.shown.specs.declared.Shown.{Shown}
use Rattle.ipc_rules.specs.Answers.{waiter_values}
use Rattle.ipc_rules.specs.declared.state.Waiter.{Waiter}
use borrow.Author.Rules.{rules}
use Rattle.ipc_rules.proofs.showing.WaiterAnswer.shown.Goals as goal

module _ (w : Waiter) {r : Shown} where
  waits : w.present ≡ true → r ≡ shown no.none (1 ∷ w.task.slot ∷ w.task.epoch ∷ []) → r ≡ shown no.none (waiter_values w)
  unfolding waiter_values pick
  waits e h = rw e h

  idle : w.present ≡ false → r ≡ shown no.none (0 ∷ []) → r ≡ shown no.none (waiter_values w)
  unfolding waiter_values pick
  idle e h = rw e h

pub returns-then-self : goal.returns-then-self
returns-then-self c = search (waits, rules)

pub returns : goal.returns
returns c = search (idle, rules)
