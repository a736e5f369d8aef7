-- An outcome is what the rule packs, once it shows the call's answer and has the tables after the call. Assumes nothing.
use mathlib.Core.Path.{◌≡◌}
use Rattle.shown.specs.Shown.{shown}
use Rattle.shown.specs.declared.Shown.{Shown}
use Rattle.operations.specs.Done.{Done, outcome, packed}

-- q is what the call gave, p what its rule gives
pub packs : {R : Type 0} (done : R → Done) {q p : R} {s : Shown} → q ≡ p → s ≡ shown (done q).number (done q).values → outcome s (done q).tables ≡ packed (done p)
packs done e a = rw (← e, a)
