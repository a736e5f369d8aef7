-- What the records still to come add to what a turn has found is what all of them find, and what it has found is what stands at the indices
-- that the entry wants of those passed.
use Rattle.std.proofs.Common.{◌≡◌, drop, take}
use Rattle.walks.specs.Over.{over}
use Rattle.lent.specs.Binding.{wanted_of, walked, found_all}
use Rattle.lent.proofs.binding.bind.Given as goal

abbrev pub invariant-loop-at : goal.invariant-loop-at
invariant-loop-at l =
    (over (walked l.wanted) (l.found, l.at) (drop l.at l.held) ≡ over (walked l.wanted) (l.initial.found, 0) l.held)
    × (l.found ≡ found_all (wanted_of l.entry) (take l.at l.held))
