-- `jobscript::operands::variants` meets its contract: each variant is what its place gives. Assumes nothing.
use borrow.Author.Rules.{rules}
use Rattle.dispatcher_rules.specs.State.{no_variant}
use Rattle.jobscript.specs.Operands.{variant_at}
use Rattle.jobscript.proofs.Firsts.{firsts_at}
use Rattle.jobscript.proofs.operands.variants.Goals as goal

pub returns : goal.returns
returns c = firsts_at (variant_at c.args.script.now) c.from_fn.result no_variant 16 c.from_fn.ensures.items.long
    (λ k b. let called = c.from_fn.ensures.items.at k no_variant b in search rules)
