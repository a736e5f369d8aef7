-- `jobscript::fresh::start` meets its contract: the sizes and no variants pass the tests. Assumes nothing.
use mathlib.Core.Path.{refl}
use Rattle.laws.specs.Every.{every}
use Rattle.laws.specs.Pick.{pick}
use Rattle.ipc_rules.specs.Make.{new_of}
use Rattle.dispatcher_rules.specs.Bound.{bound_test}
use Rattle.dispatcher_rules.specs.Make.{make_of}
use Rattle.jobscript.proofs.fresh.start.Goals as goal

pub returns : goal.returns
unfolding new_of make_of bound_test every pick
returns c = rw (c.new.ensures, c.make-bound.ensures, c.new-made.ensures) refl
