-- `dispatcher::inner::opening::find` meets its contract: its chain is the search over the bound variants. Assumes nothing.
use mathlib.Core.Path.{◌≡◌, ◌∙◌}
use borrow.Author.Rules.{rules}
use borrow.Author.Tests.{tests}
use lib.ListN.{length, take}
use Rattle.std.proofs.lemmas.Iterator.{YieldsList-from_slice}
use Rattle.std.proofs.lemmas.Iterator.Search.{position_from_yields_List}
use Rattle.laws.proofs.Lists.{elements}
use Rattle.dispatcher_rules.specs.declared.state.Variant.{Variant}
use Rattle.dispatcher_rules.proofs.Chained.{Whole, tagged, first_tagged}
use Rattle.dispatcher.proofs.inner.opening.find.Goals as goal

pub returns : goal.returns
returns c =
    let whole : Whole c.args.d.variants = record { sixteen = search rules; five = search (rules, elements (λ (v : Variant). length v.tag.bytes ≡ 5)) } in
    position_from_yields_List (tagged c.args.tag) _ _ _ c.position.ensures.ran
    (YieldsList-from_slice (take c.args.d.count c.args.d.variants) cc) (λ x b q k. search (rules, tests))
    ∙ first_tagged c.args.d.variants whole c.args.d.count c.args.tag c.requires (search rules)
