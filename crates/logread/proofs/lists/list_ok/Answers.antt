-- `logread::lists::list_ok` meets its contract: the four tests together are `every` of the rule. Assumes nothing.
use mathlib.Core.Path.{◌≡◌, ◌∙◌}
use borrow.Author.Rules.{rules}
use Rattle.std.proofs.Math.Bool.{and_assoc, and-true}
use Rattle.std.proofs.iter.runs.Sources.{ranges}
use Rattle.std.specs.List.{list_all, range_with_len}
use Rattle.laws.specs.Every.{every}
use Rattle.logread.specs.Lists.{entry_ok, list_ok}
use Rattle.logread.proofs.Past.{list_past}
use Rattle.logread.proofs.lists.list_ok.Goals as goal

pub returns-then-at-log : goal.returns-then-at-log
returns-then-at-log c = list_past c.args.log.now c.args.at c.if-at-log.true

pub returns : goal.returns
unfolding list_ok every
returns c =
    let e : c.all.result ≡ list_all (entry_ok c.args.log.now c.args.at) (range_with_len 0 4) = search (rules, ranges) in
    e ∙ simp (and_assoc, and-true)
