-- `operations::holds::op_register` meets its contract. Assumes nothing.
use Rattle.operations.specs.Holds.{register_done, after_register}
use Rattle.operations.proofs.Packs.{packs}
use Rattle.operations.proofs.holds.op_register.Goals as goal

pub returns : goal.returns
unfolding register_done
returns c = rw (← c.list_words-words.ensures)
    (packs (after_register c.args.t) c.register_holds-registered.ensures c.shown.ensures)
