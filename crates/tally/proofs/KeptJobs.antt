-- Transfer, and the dispatcher's opening and closing, keep it. Assumes nothing.
use Rattle.std.specs.Prelude.{Result, ⊤}
use mathlib.Core.Path.{◌≡◌, refl, sym, ap, ◌∙◌}
use mathlib.Core.Bool.{true, ◌||◌}
use mathlib.Core.List.{List, []}
use mathlib.Core.Logic.{⊎_elim}
use Prim.Native.Nat.{ℕ, ◌<◌}
use lib.ListN.{get_or}
use Rattle.laws.specs.Pick.{pick}
use Rattle.laws.proofs.Bools.{same?, or_cases}
use Rattle.laws.proofs.Cases.{all_pick}
use Rattle.cap.specs.Rights.{send_right}
use Rattle.cap.specs.Slot.{vacant_slot, holding}
use Rattle.cap.specs.declared.CapId.{CapId}
use Rattle.cap.specs.declared.slot.Slot.{Slot}
use Rattle.capslots.specs.Table.{slot_in, with_slot, Shape}
use Rattle.capslots.specs.Rows.{names_id, forget_in, forget_row, forgotten_of}
use Rattle.capslots.specs.Transfer.{transfer_of}
use Rattle.capslots.specs.declared.Row.{Row}
use Rattle.capslots.specs.declared.Table.{Table as Rows}
use Rattle.capslots.proofs.Places.{new_slot, other_slot, shape_slot}
use Rattle.capslots.proofs.Forgotten.{forgotten_shape}
use Rattle.capslots.proofs.Ways.{transfer_ways}
use Rattle.ipc_rules.specs.Opening.{opening_of}
use Rattle.ipc_rules.specs.Views.{held_by}
use Rattle.ipc_rules.specs.declared.opening.Opening.TheVariants.{Shut}
use Rattle.ipc_rules.specs.declared.state.Channel.{Channel}
use Rattle.ipc_rules.specs.declared.state.Table.{Table as Channels}
use Rattle.ipc_rules.proofs.Held.{held_none}
use Rattle.ipc_rules.proofs.OtherOpenings.{hold_is}
use Rattle.isolation.proofs.Slots.{names_holding, left_standing, never_vacant}
use Rattle.tally.specs.Count.{sum_over, over_slots}
use Rattle.tally.specs.Runs.{CameFrom}
use Rattle.tally.proofs.Sums.{sum_map, sum_same}
use Rattle.tally.proofs.Tallied.{Tallied, held_vacant}
use Rattle.tally.proofs.KeptSteps.{transfer_sum}
use Rattle.capslots.specs.declared.answers.TransferError.{TransferError}
use Rattle.shown.specs.declared.Answered.{Answered}

module _ {t : Channels} {rows : Rows} {l : List Channel} (x : Tallied t rows l) where
  -- ---- other rows in which each id stood in some slot, and as many slots hold each send end
  pub kept_rows : (rows' : Rows) → Shape rows' → ((r s : ℕ) (c : CapId) → slot_in rows' r s ≡ holding c → CameFrom l c) →
      ((k : ℕ) → over_slots (held_by t k) rows' ≡ over_slots (held_by t k) rows) → Tallied t rows' l
  kept_rows rows' shape from same =
      record {
        sound = x.sound;
        shape = shape;
        holds = λ k v. x.holds k v ∙ sym (same k);
        sender = x.sender;
        origin = from;
        generations = x.generations;
        next = x.next;
        shut = x.shut;
      }

  -- ---- two ids forgotten that open nothing for send
  shut_held : (k : ℕ) (c : CapId) → opening_of t c send_right ≡ Shut → held_by t k (holding c) ≡ 0
  unfolding pick
  shut_held k c e = held_none t k (holding c) (hold_is t (holding c) ∙ e)

  module _ (a b : CapId) (shut-a : opening_of t a send_right ≡ Shut) (shut-b : opening_of t b send_right ≡ Shut) where
    forgets_none : (k : ℕ) (y : Slot) → held_by t k (forget_in a b y) ≡ held_by t k y
    unfolding forget_in
    forgets_none k y =
        all_pick (λ (z : Slot). held_by t k z ≡ held_by t k y) (names_id a y || names_id b y) vacant_slot y
        (λ n. held_vacant t k vacant_slot refl ∙ sym (named n)) (λ _. refl)
      where
        named : (names_id a y || names_id b y) ≡ true → held_by t k y ≡ 0
        named n = ⊎_elim (λ e. gone a shut-a e) (λ e. gone b shut-b e) (or_cases (names_id a y) (names_id b y) n)
          where
            gone : (c : CapId) → opening_of t c send_right ≡ Shut → names_id c y ≡ true → held_by t k y ≡ 0
            gone c e h = ap (held_by t k) (names_holding c y h) ∙ shut_held k c e

    forget_sum : (k : ℕ) → over_slots (held_by t k) (forgotten_of rows a b) ≡ over_slots (held_by t k) rows
    unfolding over_slots forgotten_of
    forget_sum k =
        sum_map (λ (row : Row). sum_over (held_by t k) row.slots) (forget_row a b) rows.rows
        ∙ sum_same _ _ rows.rows (record { slots = [] }) (λ i _. sum_map (held_by t k) (forget_in a b) (get_or rows.rows i (record { slots = [] })).slots
        ∙ sum_same _ _ (get_or rows.rows i (record { slots = [] })).slots vacant_slot (λ s _. forgets_none k _))

    pub forget_keeps : Tallied t (forgotten_of rows a b) l
    forget_keeps =
        kept_rows (forgotten_of rows a b) (forgotten_shape rows a b x.shape) (λ r s c h. x.origin r s c (left_standing rows a b r s c h).0) forget_sum

  -- ---- transfer
  transfer_shape : (r s r' s' : ℕ) → Shape (transfer_of rows r s r' s').table
  transfer_shape r s r' s' =
      transfer_ways (λ (o : Answered (Result ⊤ TransferError) Rows). Shape o.table) rows r s r' s' (λ _ _. x.shape) (λ _ _. x.shape)
      (λ w _. shape_slot (with_slot rows r s vacant_slot) (shape_slot rows x.shape r s vacant_slot w.from_row) r' s' _ w.to_row)

  -- what was put in slot s of row r of rows is that, or stood before
  put_from : (rows' : Rows) → Shape rows' → ((q p : ℕ) (d : CapId) → slot_in rows' q p ≡ holding d → CameFrom l d) → (r s : ℕ) (y : Slot) → r < 54 → s < 4 →
      ((d : CapId) → y ≡ holding d → CameFrom l d) → (q p : ℕ) (d : CapId) → slot_in (with_slot rows' r s y) q p ≡ holding d → CameFrom l d
  put_from rows' shape from r s y a b own q p d h =
      ⊎_elim (λ (e : q ≡ r). ⊎_elim (λ (f : p ≡ s). own d (sym (new_slot rows' shape r s y a b) ∙ (rw (e, f) at h)))
      (λ n. from q p d (sym (other_slot rows' shape r s y a q p (λ _ f. n f)) ∙ h)) (same? p s))
      (λ n. from q p d (sym (other_slot rows' shape r s y a q p (λ e _. n e)) ∙ h)) (same? q r)

  transfer_from : (r s r' s' q p : ℕ) (d : CapId) → slot_in (transfer_of rows r s r' s').table q p ≡ holding d → CameFrom l d
  transfer_from r s r' s' q p d =
      transfer_ways (λ (o : Answered (Result ⊤ TransferError) Rows). slot_in o.table q p ≡ holding d → CameFrom l d) rows r s r' s' (λ _ _. x.origin q p d) (λ _ _. x.origin q p d)
      (λ w _.
      let c = (slot_in rows r s).id in
      let had : slot_in rows r s ≡ holding c = present (slot_in rows r s) w.held in
      put_from (with_slot rows r s vacant_slot) (shape_slot rows x.shape r s vacant_slot w.from_row)
      (put_from rows x.shape x.origin r s vacant_slot w.from_row w.from_slot (λ _ e. never_vacant refl e)) r' s' (holding c) w.to_row w.to_slot
      (λ i e. x.origin r s i (had ∙ e)) q p d)
    where
      present : (y : Slot) → y.present ≡ true → y ≡ holding y.id
      present y e = rw (← e)

  pub transfer_keeps : (r s r' s' : ℕ) → Tallied t (transfer_of rows r s r' s').table l
  transfer_keeps r s r' s' =
      kept_rows (transfer_of rows r s r' s').table (transfer_shape r s r' s') (transfer_from r s r' s') (λ k. transfer_sum (held_by t k) (held_vacant t k) rows x.shape r s r' s')
