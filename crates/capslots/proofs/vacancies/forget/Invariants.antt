-- What each turn of `forget` keeps: the first rows have forgotten.
use Rattle.std.proofs.Common.{◌≡◌, ◌++◌, map, take, drop}
use Rattle.capslots.specs.Rows.{forget_row}
use Rattle.capslots.proofs.vacancies.forget.Given as goal

abbrev pub invariant-loop-row : goal.invariant-loop-row
invariant-loop-row l = l.row-items ≡ map (forget_row l.a l.b) (take l.row-index l.initial.row-items) ++ drop l.row-index l.initial.row-items
