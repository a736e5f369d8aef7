-- `dispatcher::inner::places::free_place` meets its contract: its chain is the search over the places. Assumes nothing.
use mathlib.Core.Path.{◌∙◌}
use mathlib.Core.Bool.{not}
use borrow.Author.Rules.{rules}
use borrow.Author.Tests.{tests}
use Rattle.std.proofs.lemmas.Iterator.{YieldsList-from_slice}
use Rattle.std.proofs.lemmas.Iterator.Search.{position_from_yields_List}
use Rattle.dispatcher_rules.specs.declared.state.Job.{Job}
use Rattle.dispatcher_rules.proofs.Chained.{first_closed}
use Rattle.dispatcher.proofs.inner.places.free_place.Goals as goal

pub returns : goal.returns
returns c =
    position_from_yields_List (λ (j : Job). not j.«open») _ _ _ c.position.ensures.ran (YieldsList-from_slice c.args.d.jobs cc) (λ x b q k. search (rules, tests))
    ∙ first_closed c.args.d (search rules)
