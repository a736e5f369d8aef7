-- What each turn of `forget_row` keeps: the first slots have forgotten.
use Rattle.std.proofs.Common.{◌≡◌, ◌++◌, map, take, drop}
use Rattle.capslots.specs.Rows.{forget_in}
use Rattle.capslots.proofs.vacancies.forget_row.Given as goal

abbrev pub invariant-loop-slot : goal.invariant-loop-slot
invariant-loop-slot l = l.slot-items ≡ map (forget_in l.a l.b) (take l.slot-index l.initial.slot-items) ++ drop l.slot-index l.initial.slot-items
