-- `operations::fresh::all_fresh` meets its contract. Assumes nothing.
use mathlib.Core.Path.{refl}
use Rattle.operations.proofs.fresh.all_fresh.Goals as goal

pub returns : goal.returns
returns c = rw (← c.new-made.ensures, c.new.ensures, c.new-2.ensures, c.new-3.ensures) refl
