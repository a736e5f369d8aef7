-- `lent::binding::bind` meets its contract. Assumes nothing.
use mathlib.Core.Path.{◌≡◌, refl, sym, ap, ◌∙◌}
use mathlib.Core.List.{List}
use Prim.Native.Nat.{ℕ, ◌+◌}
use Rattle.cap.specs.declared.slot.Slot.{Slot}
use Rattle.walks.proofs.Turns.{turned, passed}
use Rattle.cap.specs.Slot.{vacant_slot}
use Rattle.manifest.specs.Bind.{bind_slots}
use Rattle.lent.specs.Binding.{wanted_of, walked, found_all}
use Rattle.lent.proofs.Finding.{gathered_more, walked_all, chosen}
use Rattle.lent.proofs.binding.bind.Goals as goal

pub loop-at-preserved : goal.loop-at-preserved
loop-at-preserved c = (
  turned (walked c.wanted-wanted.result) (c.loop-at.found, c.loop-at.at) c.args.held.now c.loop-at.at vacant_slot c.loop-at-test.true (ap (λ (x : List Slot). (x, c.loop-at.at + 1)) c.gathered-more.ensures) ∙
      c.loop-at.invariant.0,
  c.gathered-more.ensures ∙ rw (c.wanted-wanted.ensures, c.loop-at.invariant.1) (gathered_more (wanted_of c.args.entry) c.args.held.now c.loop-at.at c.loop-at-test.true),
)

pub returns : goal.returns
unfolding bind_slots
returns c =
    let e : c.loop-at.found ≡ found_all (wanted_of c.args.entry) c.args.held.now =
    ap (λ (g : List Slot × ℕ). g.0)
    (sym (passed (walked c.wanted-wanted.result) (c.loop-at.found, c.loop-at.at) c.args.held.now c.loop-at.at c.loop-at-test.false) ∙ c.loop-at.invariant.0 ∙ walked_all c.wanted-wanted.result c.args.held.now) ∙
    ap (λ (w : List ℕ). found_all w c.args.held.now) c.wanted-wanted.ensures in
    c.in_order.ensures ∙ rw (c.choices.ensures, e, chosen c.args.entry c.args.held.now) refl
