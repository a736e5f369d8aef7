-- `dispatcher::binding::bound` meets its contract: its chain is the test over all variants. Assumes nothing.
use mathlib.Core.Path.{◌≡◌, ◌∙◌}
use borrow.Author.Rules.{rules}
use borrow.Author.Tests.{le-leb, lt-leb, tests}
use lib.ListN.{length, take}
use Rattle.std.proofs.lemmas.Iterator.{YieldsList-from_slice}
use Rattle.std.proofs.lemmas.Iterator.Consumers.{YieldsList-from_enumerate}
use Rattle.std.proofs.lemmas.Iterator.Search.{all_from_yields_List}
use Rattle.laws.proofs.Lists.{elements}
use Rattle.dispatcher_rules.specs.Bound.{bound_test}
use Rattle.dispatcher_rules.specs.declared.state.Variant.{Variant}
use Rattle.dispatcher_rules.proofs.Chained.{Whole, passes, all_pass}
use Rattle.dispatcher.proofs.binding.bound.Goals as goal

pub returns-then-count-gt-MAX_VARIANTS : goal.returns-then-count-gt-MAX_VARIANTS
unfolding bound_test
returns-then-count-gt-MAX_VARIANTS c = rw (lt-leb c.args.count 16 c.if-count-gt-MAX_VARIANTS.true)

pub returns : goal.returns
unfolding bound_test
returns c =
    let whole : Whole c.args.variants = record { sixteen = search rules; five = search (rules, elements (λ (v : Variant). length v.tag.bytes ≡ 5)) } in
    rw (le-leb c.args.count 16 c.if-count-gt-MAX_VARIANTS.false)
    (all_from_yields_List (passes c.args.variants) _ _ _ c.all.ensures.ran
    (YieldsList-from_enumerate (YieldsList-from_slice (take c.args.count c.args.variants) cc) cc) (λ x b q k. search (rules, tests))
    ∙ all_pass c.args.variants whole c.args.count c.if-count-gt-MAX_VARIANTS.false)
