-- `capslots::vacancies::forget` meets its contract. Assumes nothing.
use Rattle.std.proofs.Common.{arith}
use Rattle.std.proofs.lemmas.Grind.{common_steps}
use Rattle.std.proofs.lemmas.List.Edits.{map_over_more}
use Rattle.capslots.specs.Rows.{forget_row}
use Rattle.capslots.proofs.vacancies.forget.Goals as goal

pub loop-row-preserved : goal.loop-row-preserved
loop-row-preserved c = grind (arith, common_steps, map_over_more (forget_row c.args.a c.args.b))
