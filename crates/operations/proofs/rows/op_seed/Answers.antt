-- `operations::rows::op_seed` meets its contract. Assumes nothing.
use Rattle.operations.specs.Rows.{seed_done, after_seed}
use Rattle.operations.proofs.Packs.{packs}
use Rattle.operations.proofs.rows.op_seed.Goals as goal

pub returns : goal.returns
unfolding seed_done
returns c = rw (← c.index_at.ensures, ← c.list_words-words.ensures)
    (packs (after_seed c.args.t) c.seed-seeded.ensures c.shown.ensures)
