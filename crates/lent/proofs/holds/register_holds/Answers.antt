-- `lent::holds::register_holds` meets its contract: a sound table stays sound, and each record of the list is registered in its turn.
-- Assumes nothing.
use mathlib.Core.Path.{◌≡◌, sym, ◌∙◌, subst}
use Rattle.walks.proofs.Turns.{turned, passed}
use Rattle.laws.proofs.Cases.{cases}
use Rattle.cap.specs.Slot.{vacant_slot}
use Rattle.ipc_rules.specs.Holds.{registered, registered_all}
use Rattle.ipc_rules.specs.Sound.{Sound}
use Rattle.ipc_sound.specs.Border.{guarded}
use Rattle.ipc_rules.proofs.KeepsCalls.{registered_kept}
use Rattle.lent.proofs.Registering.{register_same}
use Rattle.lent.proofs.holds.register_holds.Goals as goal

pub returns-then-not-sound : goal.returns-then-not-sound
unfolding guarded
returns-then-not-sound c = rw (← c.sound.ensures.0) (search cases)

pub loop-slot-preserved : goal.loop-slot-preserved
loop-slot-preserved c = (
  turned registered c.loop-slot.table c.args.slots.now c.loop-slot.slot-index vacant_slot c.loop-slot-test.true c.register_one-table.ensures ∙ c.loop-slot.invariant.0,
  subst Sound (sym c.register_one-table.ensures) (registered_kept c.loop-slot.table _ c.loop-slot.invariant.1),
)

pub returns : goal.returns
unfolding guarded
returns c =
    let e : c.loop-slot.table ≡ registered_all c.args.t c.args.slots.now =
    sym (passed registered c.loop-slot.table c.args.slots.now c.loop-slot.slot-index c.loop-slot-test.false) ∙ c.loop-slot.invariant.0 ∙ register_same c.args.t c.args.slots.now in
    rw (← c.sound.ensures.0, e) (search cases)
