-- What each turn of `drain_shown` keeps.
use Rattle.std.proofs.Common.{◌≡◌, take}
use Rattle.std.specs.List.{fold}
use Rattle.shown.specs.Shown.{pushed_all}
use Rattle.capslots.specs.Answers.{held_values}
use Rattle.capslots.proofs.answers.drain_shown.Given as goal

abbrev pub invariant-loop-slot : goal.invariant-loop-slot
invariant-loop-slot l = l.s ≡ fold (λ s x. pushed_all s (held_values x)) l.initial.s (take l.slot-index l.slot-items)
