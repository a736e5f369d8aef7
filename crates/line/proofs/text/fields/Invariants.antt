-- What each turn of `fields` keeps.
use Rattle.std.proofs.Common.{◌≡◌, ◌+◌, ◌*◌, ◌≤◌, ◌++◌, take}
use Rattle.line.specs.Line.{spaced_of}
use Rattle.line.proofs.text.fields.Given as goal

abbrev pub invariant-loop-value : goal.invariant-loop-value
invariant-loop-value l = record {
  within : l.end ≤ l.at + 21 * l.value-index;
  text : take l.end l.out ≡ take l.at l.initial.out ++ spaced_of (take l.value-index l.values);
}
