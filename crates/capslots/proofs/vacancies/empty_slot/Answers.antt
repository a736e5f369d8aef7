-- `capslots::vacancies::empty_slot` meets its contract: `position` finds what the rule searches for. Assumes nothing.
use Rattle.std.proofs.Common.{◌≡◌, ◌∙◌, arith, length, not, rules, tests}
use Rattle.std.proofs.lemmas.Grind.{common_steps}
use Rattle.std.proofs.lemmas.Iterator.{YieldsList-from_slice}
use Rattle.std.proofs.lemmas.Iterator.Search.{position_from_yields_List}
use Rattle.laws.specs.Pick.{pick}
use Rattle.laws.proofs.Lists.{unmapped}
use Rattle.laws.proofs.Search.{position_lowest}
use Rattle.cap.specs.Slot.{vacant_slot}
use Rattle.cap.specs.declared.slot.Slot.{Slot}
use Rattle.capslots.specs.Rows.{empty_in, empty_slot_of}
use Rattle.capslots.proofs.vacancies.empty_slot.Goals as goal

pub returns : goal.returns
unfolding empty_slot_of pick
returns c =
    let own = c.in_ok-get.field-0.now in
    let whole : length own.slots ≡ 4 = search (rules, unmapped) in
    let found : c.position.result ≡ empty_in own =
    rw (← whole) (
    position_from_yields_List (λ (s : Slot). not s.present) _ _ _ c.position.ensures.ran (YieldsList-from_slice _ c.iter.ensures.rest) (λ x b q k. search (rules, tests))
    ∙ position_lowest (λ (s : Slot). s.present) vacant_slot own.slots
    ) in
    grind (arith, common_steps, found)
