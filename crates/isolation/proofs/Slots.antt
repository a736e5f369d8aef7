-- Slots and the ids in them: what a test, a search, an install and a forgetting say of what each slot holds. Assumes nothing.
use Rattle.std.specs.Prelude.{Some, Ok, Result}
use mathlib.Core.Path.{◌≡◌, refl, sym, ap, ◌∙◌}
use mathlib.Core.Bool.{Bool, true, false, ◌||◌}
use mathlib.Core.Logic.{◌⊎◌, inl, inr, ⊎_elim}
use Prim.Native.Nat.{ℕ}
use native.Mathlib.Omega.{arith}
use borrow.Author.Tests.{eqb-true, eq-eqb, ne_eqb}
use Rattle.laws.specs.Pick.{pick}
use Rattle.laws.proofs.Bools.{same?}
use Rattle.laws.proofs.Cases.{all_pick, not_both}
use Rattle.cap.specs.Slot.{holding, from_slot}
use Rattle.cap.specs.declared.CapId.{CapId}
use Rattle.cap.specs.declared.slot.Slot.{Slot}
use Rattle.capslots.specs.Table.{slot_in, with_slot, Shape}
use Rattle.capslots.specs.Rows.{names_id, get_of, empty_slot_of, forget_in, forgotten_of}
use Rattle.capslots.specs.declared.Table.{Table as Rows}
use Rattle.capslots.proofs.Empty.{empty_found, installs_there}
use Rattle.capslots.proofs.Forgotten.{forgotten_slot, forgotten_other}
use Rattle.capslots.proofs.Places.{new_slot, other_slot}
use Rattle.ipc_rules.specs.Holds.{registered}
use Rattle.ipc_rules.specs.declared.state.Table.{Table as Channels}
use Rattle.joined.specs.Steps.{give_of, installs}
use Rattle.cap.specs.declared.slot.SlotError.{SlotError}

-- ---- the test
pub names_itself : (c : CapId) → names_id c (holding c) ≡ true
unfolding pick
names_itself c = eq-eqb c.raw c.raw refl

pub names_other : (c d : CapId) → (c ≡ d → ⊥) → names_id c (holding d) ≡ false
unfolding pick
names_other c d n = ne_eqb d.raw c.raw (λ e. n (ap (λ (r : ℕ). let x : CapId = record { raw = r } in x) (sym e)))

-- what the test finds is there
pub names_holding : (c : CapId) (x : Slot) → names_id c x ≡ true → x ≡ holding c
names_holding c x =
    all_pick (λ (b : Bool). b ≡ true → x ≡ holding c) x.present _ _
    (λ p e. let i : x.id ≡ c = ap (λ (r : ℕ). let y : CapId = record { raw = r } in y) (eqb-true x.id.raw c.raw e) in rw (← i, ← p))
    (λ _ e. absurd (not_both false e refl))

-- two slots that hold are one where the ids are
pub same_held : {c d : CapId} → holding c ≡ holding d → c ≡ d
same_held e = ap (λ (x : Slot). x.id) e

pub never_vacant : {A : Type 0} {x : Slot} {c : CapId} → x.present ≡ false → x ≡ holding c → A
never_vacant {x = x} v e = absurd (not_both x.present (ap (λ (y : Slot). y.present) e) v)

-- ---- what a get names stands in the slot
pub get_names : (rows : Rows) (r s : ℕ) (c : CapId) → get_of rows r s ≡ Ok c → slot_in rows r s ≡ holding c
unfolding get_of from_slot
get_names rows r s c =
    all_pick Says _ _ _ (λ _ e. let z : ◌≡◌ {A = ℕ} 0 1 = cc in absurd (omega arith))
    (λ _. all_pick Says _ _ _ (λ _. all_pick Says (slot_in rows r s).present _ _ (λ p e. both (slot_in rows r s) p e)
    (λ _ e. let z : ◌≡◌ {A = ℕ} 0 1 = cc in absurd (omega arith)))
    (λ _ e. let z : ◌≡◌ {A = ℕ} 0 1 = cc in absurd (omega arith)))
  where
    Says : Result CapId SlotError → Type 0
    Says a = a ≡ Ok c → slot_in rows r s ≡ holding c

    both : (x : Slot) → x.present ≡ true → ◌≡◌ {A = Result CapId SlotError} (Ok x.id) (Ok c) → x ≡ holding c
    both x p e = let i : x.id ≡ c = cc in rw (← i, ← p)

-- ---- an id given to the slot that was found empty
pub given_there : (t : Channels) (rows : Rows) (r s : ℕ) (c : CapId) → empty_slot_of rows r ≡ Some s →
    give_of t rows r s c ≡ record { answer = Ok tt; channels = registered t (holding c); rows = with_slot rows r s (holding c) }
unfolding give_of installs
given_there t rows r s c e = rw (installs_there rows r s c e)

module _ (rows : Rows) (shape : Shape rows) (r s : ℕ) (e : empty_slot_of rows r ≡ Some s) (c : CapId) where
  -- it stands there
  pub stands_there : slot_in (with_slot rows r s (holding c)) r s ≡ holding c
  stands_there = let f = empty_found rows r s e in new_slot rows shape r s (holding c) f.row f.slot

  -- what stood anywhere stands there still
  pub stands_still : (q p : ℕ) (d : CapId) → slot_in rows q p ≡ holding d → slot_in (with_slot rows r s (holding c)) q p ≡ holding d
  stands_still q p d h =
      let f = empty_found rows r s e in
      other_slot rows shape r s (holding c) f.row q p (λ a b. never_vacant {c = d} f.empty (rw (a, b) at h)) ∙ h

  -- and what stands anywhere is the one given, or stood there
  pub stood : (q p : ℕ) (d : CapId) → slot_in (with_slot rows r s (holding c)) q p ≡ holding d →
      ((q ≡ r) × (p ≡ s) × (d ≡ c)) ⊎ (slot_in rows q p ≡ holding d)
  stood q p d h =
      let f = empty_found rows r s e in
      ⊎_elim (λ a. ⊎_elim (λ b. inl (a, b, sym (same_held (sym stands_there ∙ (rw (a, b) at h)))))
      (λ n. inr (sym (other_slot rows shape r s (holding c) f.row q p (λ _ b. n b)) ∙ h)) (same? p s))
      (λ n. inr (sym (other_slot rows shape r s (holding c) f.row q p (λ a _. n a)) ∙ h)) (same? q r)

or_first : (p q : Bool) → p ≡ true → (p || q) ≡ true
or_first true q e = refl
or_first false q e = absurd (not_both false e refl)

or_second : (p q : Bool) → q ≡ true → (p || q) ≡ true
or_second true q e = refl
or_second false q e = e

-- ---- two ids forgotten: what stands is neither, and stood; and what stood and is neither stands
module _ (rows : Rows) (a b : CapId) where
  pub left_standing : (r s : ℕ) (c : CapId) → slot_in (forgotten_of rows a b) r s ≡ holding c → (slot_in rows r s ≡ holding c) × (c ≡ a → ⊥) × (c ≡ b → ⊥)
  unfolding forget_in
  left_standing r s c h = by (slot_in rows r s) (sym (forgotten_slot rows a b r s) ∙ h)
    where
      by : (x : Slot) → forget_in a b x ≡ holding c → (x ≡ holding c) × (c ≡ a → ⊥) × (c ≡ b → ⊥)
      by x =
          all_pick (λ (y : Slot). y ≡ holding c → (x ≡ holding c) × (c ≡ a → ⊥) × (c ≡ b → ⊥)) (names_id a x || names_id b x) _ _
          (λ _ e. never_vacant refl e)
          (λ n e. (e, (λ i. not_both _ (or_first (names_id a x) (names_id b x) (rw (e, i) (names_itself a))) n), (λ i. not_both _ (or_second (names_id a x) (names_id b x) (rw (e, i) (names_itself b))) n)))

  pub still_standing : (r s : ℕ) (c : CapId) → slot_in rows r s ≡ holding c → (c ≡ a → ⊥) → (c ≡ b → ⊥) → slot_in (forgotten_of rows a b) r s ≡ holding c
  still_standing r s c h n m =
      forgotten_other rows a b r s (rw h (names_other a c (λ e. n (sym e)))) (rw h (names_other b c (λ e. m (sym e)))) ∙ h
