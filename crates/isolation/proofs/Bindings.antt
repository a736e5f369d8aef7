-- No call changes what is bound, a tag is bound to one row, and what a run reaches passes the border's test. Assumes nothing.
use mathlib.Core.Path.{◌≡◌, refl, sym, ap, ◌∙◌}
use mathlib.Core.Bool.{Bool, true, ◌&&◌}
use mathlib.Core.List.{List, [], ◌∷◌}
use mathlib.Core.Logic.{⊎_elim}
use Prim.Native.Nat.{ℕ}
use native.Mathlib.Omega.{arith}
use borrow.Author.Tests.{eqb-true, eq-eqb}
use lib.Dec.{eqb}
use Rattle.laws.proofs.Bools.{same?, below?, and_four}
use Rattle.laws.proofs.Cases.{not_both}
use Rattle.laws.proofs.Every.{and_left, and_right}
use Rattle.dispatcher_rules.specs.State.{variant_in, row_of}
use Rattle.dispatcher_rules.specs.Bound.{byte_at, same_tag}
use Rattle.dispatcher_rules.specs.Slots.{slot_send_of, slot_recv_of, slot_park_of}
use Rattle.dispatcher_rules.specs.declared.state.Desk.{Desk}
use Rattle.dispatcher_rules.specs.declared.state.Tag.{Tag}
use Rattle.dispatcher_rules.specs.declared.answers.JobOpening.{JobOpening}
use Rattle.dispatcher_rules.specs.declared.answers.JobClosing.{JobClosing}
use Rattle.dispatcher_rules.specs.declared.answers.SlotSending.{SlotSending}
use Rattle.dispatcher_rules.specs.declared.answers.SlotReceiving.{SlotReceiving}
use Rattle.dispatcher_rules.specs.declared.answers.SlotParking.{SlotParking}
use Rattle.dispatcher_rules.proofs.Ways.{guarded_ways, open_ways, close_ways, all_slotted}
use Rattle.isolation.specs.Runs.{JobCall, open_for, close, send, receive, park, opened, closed, sent, received, parked, after, run}
use Rattle.isolation.specs.Jobs.{BoundTo}
use Rattle.isolation.specs.Bindings.{SameBindings, BindingsStay, BoundOnce, RunsReady}
use Rattle.isolation.proofs.Reaches.{all_kept}

module _ (w : Desk) where
  same : SameBindings w w
  same = record { count = refl; variants = refl }

  stays : (c : JobCall) → SameBindings w (after w c)
  unfolding after slot_send_of slot_recv_of slot_park_of
  stays (open_for tag x) =
      guarded_ways (λ (o : JobOpening). SameBindings w (opened o)) w.dispatcher w.channels _ _ same
      (open_ways w.dispatcher w.rows w.channels (λ (o : JobOpening). SameBindings w (opened o)) tag x (λ _ _. same)
      (λ _ _ _ _ _ _. record { count = refl; variants = refl }))
  stays (close p) =
      guarded_ways (λ (o : JobClosing). SameBindings w (closed o)) w.dispatcher w.channels _ _ same
      (close_ways w.dispatcher w.rows w.channels (λ (o : JobClosing). SameBindings w (closed o)) p same
      (λ _ _. record { count = refl; variants = refl }))
  stays (send r s x) =
      guarded_ways (λ (o : SlotSending). SameBindings w (sent o)) w.dispatcher w.channels _ _ same
      (all_slotted (λ (o : SlotSending). SameBindings w (sent o)) _ _ _ _ (λ _ _ _. same) (λ _ _. same) (λ _ _. record { count = refl; variants = refl }))
  stays (receive r s) =
      guarded_ways (λ (o : SlotReceiving). SameBindings w (received o)) w.dispatcher w.channels _ _ same
      (all_slotted (λ (o : SlotReceiving). SameBindings w (received o)) _ _ _ _ (λ _ _ _. same) (λ _ _. same) (λ _ _. record { count = refl; variants = refl }))
  stays (park r s task) =
      guarded_ways (λ (o : SlotParking). SameBindings w (parked o)) w.dispatcher w.channels _ _ same
      (all_slotted (λ (o : SlotParking). SameBindings w (parked o)) _ _ _ _ (λ _ _ _. same) (λ _ _. same) (λ _ _. record { count = refl; variants = refl }))

pub bindings_stay : BindingsStay
bindings_stay w c = stays w c

pub runs_ready : RunsReady
runs_ready w ρ = (all_kept w ρ).ready

-- what is bound after a run was bound before it
bound_back : (w v : Desk) → SameBindings w v → (tag : Tag) (r : ℕ) → BoundTo v.dispatcher tag r → BoundTo w.dispatcher tag r
bound_back w v e tag r b =
    record { variant = b.variant; among = rw (← e.count) b.among; tagged = rw (← e.variants) b.tagged; row = rw (← e.variants) b.row }

pub bound_first : (w : Desk) (cs : List JobCall) (tag : Tag) (r : ℕ) → BoundTo (run w cs).dispatcher tag r → BoundTo w.dispatcher tag r
unfolding run
bound_first w [] tag r b = b
bound_first w (c ∷ cs) tag r b = bound_back w (after w c) (bindings_stay w c) tag r (bound_first (after w c) cs tag r b)

-- ---- a tag is bound to one row
same_byte : (x y z : ℕ) → eqb x z ≡ true → eqb y z ≡ true → eqb x y ≡ true
same_byte x y z a b = eq-eqb x y (eqb-true x z a ∙ sym (eqb-true y z b))

same_tag_lem : (x y z : Tag) → same_tag x z ≡ true → same_tag y z ≡ true → same_tag x y ≡ true
same_tag_lem x y z a b =
    let p = and_five _ _ _ _ _ a in
    let q = and_five _ _ _ _ _ b in
    simp (
      same_byte (byte_at x 0) (byte_at y 0) _ p.0 q.0,
      same_byte (byte_at x 1) (byte_at y 1) _ p.1 q.1,
      same_byte (byte_at x 2) (byte_at y 2) _ p.2 q.2,
      same_byte (byte_at x 3) (byte_at y 3) _ p.3 q.3,
      same_byte (byte_at x 4) (byte_at y 4) _ p.4 q.4,
    )
  where
    and_five : (a b c d e : Bool) → (a && b && c && d && e) ≡ true → (a ≡ true) × (b ≡ true) × (c ≡ true) × (d ≡ true) × (e ≡ true)
    and_five a b c d e h = let r = and_four a b c d (and_left (a && b && c && d) e h) in (r.0, r.1, r.2, r.3, and_right (a && b && c && d) e h)

pub bound_once : BoundOnce
bound_once d b tag r q x y =
    let i = (variant_in d.variants x.variant).tag in
    let j = (variant_in d.variants y.variant).tag in
    ⊎_elim (λ e. sym x.row ∙ ap (row_of d) e ∙ y.row)
    (λ n. absurd (⊎_elim (λ l. not_both _ (same_tag_lem j i tag y.tagged x.tagged) (b.tags y.variant x.variant y.among l))
    (λ l. not_both _ (same_tag_lem i j tag x.tagged y.tagged) (b.tags x.variant y.variant x.among (omega (arith, n)))) (below? x.variant y.variant)))
    (same? x.variant y.variant)
