-- A value more is shown where there is room. Assumes nothing.
use Rattle.laws.proofs.Cases.{cases}
use Rattle.shown.specs.Shown.{pushed}
use Rattle.shown.proofs.Shown.push.Goals as goal

pub returns-then-i-lt-ROOM : goal.returns-then-i-lt-ROOM
unfolding pushed
returns-then-i-lt-ROOM c = search cases

pub returns-else-i-lt-ROOM : goal.returns-else-i-lt-ROOM
unfolding pushed
returns-else-i-lt-ROOM c = search cases
