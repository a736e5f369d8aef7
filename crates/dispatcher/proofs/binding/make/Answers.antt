-- `dispatcher::binding::make` meets its contract. Assumes nothing.
use mathlib.Core.Path.{refl, sym, ◌∙◌}
use Rattle.laws.proofs.Cases.{yes, no}
use Rattle.dispatcher_rules.specs.Make.{make_of}
use Rattle.dispatcher.proofs.binding.make.Goals as goal

pub returns-then-bound : goal.returns-then-bound
unfolding make_of
returns-then-bound c = yes _ (sym c.bound.ensures ∙ c.if-bound.true) refl

pub returns : goal.returns
unfolding make_of
returns c = no _ (sym c.bound.ensures ∙ c.if-bound.false) refl
