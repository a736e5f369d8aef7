-- What came lies within the buffer; the measure is the room that is left.
use Rattle.std.proofs.Common.{length, ◌-◌, ◌≤◌}
use Rattle.standard.proofs.take.Given as goal

abbrev pub invariant-loop-got : goal.invariant-loop-got
invariant-loop-got g l = l.got ≤ length l.input

abbrev pub decreases-loop-got : goal.decreases-loop-got
decreases-loop-got g l = length l.initial.input - l.got
