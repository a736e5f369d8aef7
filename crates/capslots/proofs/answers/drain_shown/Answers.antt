-- `capslots::answers::drain_shown` meets its contract. The loop's invariant: the first slots are shown. Assumes nothing.
use Rattle.std.proofs.Common.{◌≡◌, List, [], refl, ap, ◌∙◌, arith, get_or, length, rules}
use Rattle.std.proofs.lemmas.Grind.{common_steps}
use Rattle.std.proofs.lemmas.List.FromFn.{fill_by_all}
use Rattle.std.specs.List.{fold}
use Rattle.laws.specs.Refusals.{none}
use Rattle.laws.proofs.Lists.{unmapped}
use Rattle.shown.specs.Shown.{shown, pushed_all}
use Rattle.shown.specs.declared.Shown.{Shown}
use Rattle.shown.proofs.Appends.{four_pushed}
use Rattle.cap.specs.Slot.{vacant_slot}
use Rattle.cap.specs.declared.slot.Slot.{Slot}
use Rattle.capslots.specs.Answers.{held_values, drain_values}
use Rattle.capslots.proofs.Few.{drain_few}
use Rattle.capslots.proofs.answers.drain_shown.Goals as goal

four_shown : (s : Shown) (ss : List Slot) → length ss ≡ 4 → s ≡ shown none [] → fold (λ s x. pushed_all s (held_values x)) s ss ≡ shown none (drain_values ss)
four_shown s ss h e =
    ap (fold (λ (s : Shown) (x : Slot). pushed_all s (held_values x)) s) (fill_by_all (λ k. get_or ss k vacant_slot) ss 4 vacant_slot h (λ k b. refl))
    ∙ four_pushed e _ _ _ _ (drain_few ss) refl refl refl refl

pub returns : goal.returns
returns c =
    let whole : length c.args.slots ≡ 4 = search (rules, unmapped) in
    grind (arith, common_steps, four_shown c.new-s.result c.args.slots whole c.new-s.ensures)
