-- The measure is what is left of the offsets: each part that is followed by another has moved on.
use Rattle.std.proofs.Common.{◌-◌}
use Rattle.standard.proofs.print.Given as goal

abbrev pub decreases-loop-next : goal.decreases-loop-next
decreases-loop-next g l = 18446744073709551615 - l.offset
