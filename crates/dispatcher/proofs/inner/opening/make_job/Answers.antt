-- `dispatcher::inner::opening::make_job` meets its contract: what is returned follows from the creation's answer. Assumes nothing.
use Rattle.std.proofs.Common.{rules}
use mathlib.Core.Bool.{true}
use Rattle.ipc_rules.proofs.KeepsCreate.{create_kept}
use Rattle.dispatcher_rules.proofs.Choices.{creation_made, creation_refused}
use Rattle.dispatcher.proofs.inner.opening.make_job.Goals as goal

pub create-created-requires : goal.create-created-requires
create-created-requires c = c.requires.0

pub hand_out-requires : goal.hand_out-requires
hand_out-requires c = (rw c.create-created.ensures (create_kept _ true c.requires.0), c.requires.1)

pub returns-in-Ok : goal.returns-in-Ok
returns-in-Ok c = rw (← c.create-created.ensures) (creation_made _ _ _ c.in-Ok.is c.hand_out.ensures)

pub returns-in-Err : goal.returns-in-Err
returns-in-Err c = rw (← c.create-created.ensures) (creation_refused _ _ c.in-Err.is (search rules))
