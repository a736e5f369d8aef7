-- `interior` is safe and ends: the new table is sound, and each call keeps it so.
use Rattle.ipc_rules.proofs.Fresh.{new_sound}
use Rattle.ipc_rules.proofs.KeepsCreate.{create_kept}
use Rattle.ipc_rules.proofs.KeepsCalls.{send_kept, recv_kept}
use Rattle.rounds.proofs.interior.Goals as goal

pub create-requires : goal.create-requires
create-requires c = rw c.new.ensures (new_sound 32 64 8)

pub loop-i-init : goal.loop-i-init
loop-i-init c = rw c.create.ensures (create_kept _ _ (rw c.new.ensures (new_sound 32 64 8)))

pub try_recv-got-requires : goal.try_recv-got-requires
try_recv-got-requires c = rw c.send-sent.ensures (send_kept _ _ _ _ c.loop-i.invariant)

pub loop-i-preserved : goal.loop-i-preserved
loop-i-preserved c = rw c.try_recv-got.ensures (recv_kept _ _ (rw c.send-sent.ensures (send_kept _ _ _ _ c.loop-i.invariant)))
