-- `dispatcher::inner::opening::hand_out` meets its contract. Assumes nothing.
use Rattle.joined.proofs.Calls.{give_kept}
use Rattle.dispatcher_rules.proofs.Choices.{no_first, no_second, gave_both}
use Rattle.dispatcher.proofs.inner.opening.hand_out.Goals as goal

pub returns-in_default : goal.returns-in_default
returns-in_default c = no_first _ _ _ _ _ _ _ c.empty_slot.ensures c.in_default.is

pub give-first-requires : goal.give-first-requires
give-first-requires c = c.requires.0

pub returns-in_default-empty_slot : goal.returns-in_default-empty_slot
returns-in_default-empty_slot c = no_second _ _ _ _ _ _ _ c.empty_slot.ensures _ c.in-Some.is c.give-first.ensures c.empty_slot-2.ensures c.in_default-empty_slot.is

pub give-second-requires : goal.give-second-requires
give-second-requires c = rw c.give-first.ensures (give_kept _ _ _ _ _ c.requires.0)

pub with_job-with-requires : goal.with_job-with-requires
with_job-with-requires c = c.requires.1

pub returns : goal.returns
returns c = rw c.with_job-with.ensures
    (gave_both _ _ _ _ _ _ _ c.empty_slot.ensures _ c.in-Some.is c.give-first.ensures c.empty_slot-2.ensures _ c.in-Some-empty_slot.is c.give-second.ensures)
