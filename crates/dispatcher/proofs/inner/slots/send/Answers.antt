-- `dispatcher::inner::slots::send` meets its contract: the slot's refusals, or the call on the id that it names. Assumes nothing.
use Rattle.std.proofs.Common.{rules}
use mathlib.Core.Path.{refl}
use Rattle.std.specs.Prelude.{Err}
use Rattle.dispatcher_rules.specs.Slots.{slot_sent, slot_send_of}
use Rattle.dispatcher_rules.proofs.Choices.{slot_refused, slot_names}
use Rattle.dispatcher.proofs.inner.slots.send.Goals as goal

pub returns-in-Ok : goal.returns-in-Ok
unfolding slot_send_of
returns-in-Ok c = slot_names _ _ _ _ c.get.ensures c.in-Ok.is (rw c.send-sent.ensures refl)

pub returns-in-Err : goal.returns-in-Err
unfolding slot_send_of
returns-in-Err c = slot_refused _ (λ x. slot_sent (Err x) c.args.d c.args.rows c.args.channels) c.get.ensures c.in-Err.is (search rules)
