-- `operations::joined_steps::op_spawn` meets its contract. Assumes nothing.
use Rattle.operations.specs.Joined.{spawn_done, after_spawn}
use Rattle.operations.proofs.Packs.{packs}
use Rattle.operations.proofs.joined_steps.op_spawn.Goals as goal

pub returns : goal.returns
unfolding spawn_done
returns c = rw (← c.index_at.ensures, ← c.list_words-words.ensures)
    (packs (after_spawn c.args.t) c.spawn-spawned.ensures c.woken_shown.ensures)
