-- `capslots::holds` meets its contract: a slot that equals one holding the id is one that names it. Assumes nothing.
use Rattle.std.proofs.Common.{arith, rules, ◌≡◌, refl, ap, ◌∙◌, length, get_or, Bool, true, false, ◌&&◌, nat_eq}
use Rattle.std.proofs.lemmas.Grind.{common_steps}
use mathlib.Core.Bool.{beq}
use Rattle.std.specs.List.{list_any}
use Rattle.laws.specs.Pick.{pick}
use Rattle.laws.specs.Every.{some}
use Rattle.laws.proofs.Lists.{unmapped}
use Rattle.laws.proofs.Every.{any_some}
use Rattle.cap.specs.Slot.{vacant_slot, holding}
use Rattle.cap.specs.declared.CapId.{CapId}
use Rattle.cap.specs.declared.slot.Slot.{Slot}
use Rattle.capslots.specs.declared.Row.{Row}
use Rattle.capslots.specs.Rows.{holds_of, names_id}
use Rattle.capslots.proofs.holds.Goals as goal

same : (id : CapId) (y : Slot) → (beq y.present true && nat_eq y.id.raw id.raw) ≡ names_id id y
unfolding pick
same id y = elim y.present as (λ b. (beq b true && nat_eq y.id.raw id.raw) ≡ pick b (nat_eq y.id.raw id.raw) false) [ true ↦ refl | false ↦ refl ]

held_in : (id : CapId) (x : Slot) (row : Row) → length row.slots ≡ 4 → x ≡ holding id →
    list_any (λ y. beq y.present x.present && nat_eq y.id.raw x.id.raw) row.slots ≡ some (λ s. names_id id (get_or row.slots s vacant_slot)) 4
held_in id x row h e = rw (e, ← h) (ap (λ (f : Slot → Bool). list_any f row.slots) (λ i y. same id y i) ∙ any_some (names_id id) vacant_slot row.slots)

pub returns : goal.returns
unfolding holds_of pick
returns c =
    let whole : length c.in-Some.own.now.slots ≡ 4 = search (rules, unmapped) in
    grind (arith, common_steps, held_in c.args.id c.holding.result c.in-Some.own.now whole c.holding.ensures)
