-- `jobtext::begin` meets its contract. Assumes nothing.
use mathlib.Core.Path.{ap}
use Rattle.dispatcher_rules.specs.declared.state.Desk.{Desk}
use Rattle.jobtext.specs.declared.Place.{Place}
use Rattle.jobtext.proofs.begin.Goals as goal

abbrev first : Desk → Place
first d = record { offset = 0; done = 0; desk = d }

pub returns : goal.returns
returns c = ap first c.start.ensures
