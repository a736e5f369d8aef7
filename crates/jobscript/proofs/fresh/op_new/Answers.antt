-- `jobscript::fresh::op_new` meets its contract. Assumes nothing.
use Rattle.jobscript.proofs.New.{new_not_sized, new_not_bound, new_made}
use Rattle.jobscript.proofs.fresh.op_new.Goals as goal

pub returns-in_default : goal.returns-in_default
returns-in_default c = new_not_sized _ _ c.sizes-z.ensures c.new-made.ensures c.in_default.is c.shown.ensures

pub returns-in_default-answer : goal.returns-in_default-answer
returns-in_default-answer c = new_not_bound _ _ c.sizes-z.ensures c.new-made.ensures c.in-Ok.is c.index_at.ensures
    c.variants.ensures c.make-bound.ensures c.shown-shown.ensures c.in_default-answer.is

pub returns : goal.returns
returns c = new_made _ _ c.sizes-z.ensures c.new-made.ensures c.in-Ok.is c.index_at.ensures
    c.variants.ensures c.make-bound.ensures c.shown-shown.ensures c.in-Ok-answer.is c.new.ensures
