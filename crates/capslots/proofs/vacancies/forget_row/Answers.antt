-- `capslots::vacancies::forget_row` meets its contract. Assumes nothing.
use Rattle.std.proofs.Common.{arith}
use Rattle.std.proofs.lemmas.Grind.{common_steps}
use Rattle.std.proofs.lemmas.List.Edits.{map_over_more}
use Rattle.capslots.specs.Rows.{forget_in}
use Rattle.capslots.proofs.vacancies.forget_row.Goals as goal

pub loop-slot-preserved : goal.loop-slot-preserved
loop-slot-preserved c = grind (arith, common_steps, map_over_more (forget_in c.args.a c.args.b))
