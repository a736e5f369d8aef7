-- The theorem: the holds of every live channel are the slots that hold its send id. Assumes nothing.
use Rattle.std.specs.Prelude.{Err, Ok, Result}
use mathlib.Core.Path.{◌≡◌, refl, sym, ap, ◌∙◌}
use mathlib.Core.Bool.{true, false}
use mathlib.Core.List.{List, [], ◌∷◌}
use mathlib.Core.Logic.{⊎_elim}
use Prim.Native.Nat.{ℕ, zero, suc, ◌≤◌}
use native.Mathlib.Omega.{arith}
use borrow.Author.Tests.{eq-eqb}
use lib.ListN.{get_or, length, replicate}
use Rattle.laws.specs.Pick.{pick}
use Rattle.laws.proofs.Bools.{same?, either}
use Rattle.laws.proofs.Cases.{all_pick, not_both}
use Rattle.cap.specs.Id.{index_of}
use Rattle.cap.specs.Rights.{send_right, contains_all}
use Rattle.cap.specs.Slot.{vacant_slot, four_vacant, holding}
use Rattle.cap.specs.declared.CapId.{CapId}
use Rattle.cap.specs.declared.CapRights.{CapRights}
use Rattle.cap.specs.declared.slot.Slot.{Slot}
use Rattle.cap.proofs.Ids.{same_parts}
use Rattle.cap.proofs.Rights.{receive_lacks_send}
use Rattle.capslots.specs.Table.{empty_row, slot_in}
use Rattle.capslots.specs.Rows.{names_id}
use Rattle.capslots.proofs.Places.{shape_fresh}
use Rattle.ipc_rules.specs.State.{endpoint_at}
use Rattle.ipc_rules.specs.Sound.{Sound}
use Rattle.ipc_rules.specs.Make.{in_range}
use Rattle.ipc_rules.specs.Opening.{opening_of, hold_of}
use Rattle.ipc_rules.specs.Views.{held_by}
use Rattle.ipc_rules.specs.declared.opening.Opening.{Opening}
use Rattle.ipc_rules.specs.declared.opening.Opening.TheVariants.{Opens, Shut}
use Rattle.ipc_rules.specs.declared.state.Channel.{Channel}
use Rattle.ipc_rules.specs.declared.state.Mailbox.{Mailbox}
use Rattle.ipc_rules.specs.declared.state.Payload.{Payload}
use Rattle.ipc_rules.specs.declared.state.Sizes.{Sizes}
use Rattle.ipc_rules.specs.declared.state.TaskId.{TaskId}
use Rattle.ipc_rules.specs.declared.state.Table.{Table as Channels}
use Rattle.ipc_rules.specs.Waiters.{clear_of}
use Rattle.ipc_rules.proofs.AfterClear.{clear_clears}
use Rattle.ipc_rules.proofs.KeepsClear.{clear_kept}
use Rattle.ipc_rules.proofs.KeepsCalls.{send_kept, recv_kept, park_kept}
use Rattle.ipc_rules.proofs.AfterNew.{fresh_box}
use Rattle.ipc_rules.proofs.Held.{held_none, held_one, held_other}
use Rattle.ipc_rules.proofs.Openings.{Opened, opened_of, opens_live, hold_opens}
use Rattle.ipc_rules.proofs.OtherOpenings.{hold_is}
use Rattle.ipc_rules.proofs.Fresh.{in_range_of, fresh_sound}
use Rattle.ipc_rules.specs.Create.{create_of}
use Rattle.ipc_rules.specs.declared.answers.CreateError.TheVariants as toCreate
use Rattle.dispatcher_rules.specs.State.{no_variant}
use Rattle.dispatcher_rules.specs.Bound.{Bound}
use Rattle.dispatcher_rules.specs.Make.{make_of}
use Rattle.dispatcher_rules.specs.Open.{open_job_of}
use Rattle.dispatcher_rules.specs.Slots.{slot_send_of, slot_recv_of, slot_park_of}
use Rattle.dispatcher_rules.specs.declared.state.Variant.{Variant}
use Rattle.dispatcher_rules.specs.declared.answers.OpenError.TheVariants as toOpen
use Rattle.dispatcher_rules.specs.declared.answers.Making.{Making}
use Rattle.dispatcher_rules.specs.declared.answers.SlotSending.{SlotSending}
use Rattle.dispatcher_rules.specs.declared.answers.SlotReceiving.{SlotReceiving}
use Rattle.dispatcher_rules.specs.declared.answers.SlotParking.{SlotParking}
use Rattle.dispatcher_rules.proofs.Binds.{bound_of}
use Rattle.dispatcher_rules.proofs.Promises.{made_closed}
use Rattle.dispatcher_rules.proofs.Ways.{all_slotted}
use Rattle.isolation.proofs.Slots.{names_holding, never_vacant}
use Rattle.isolation.proofs.Still.{Still, send_still, recv_still, park_still}
use Rattle.tally.specs.Runs.{Among, as_send, as_recv, earlier, Made, last, before, if_created, if_opened, Books, Step, spawn, leave, give, create, revoke, send, receive, park, clear, transfer, make, open_for, close, send_by, receive_by, park_by, after, PutsCreated, start, fresh, then}
use Rattle.tally.specs.Tally.{AfterRuns, HoldsAreSlots, TransferKeeps, FarFromCeiling, RunsReady}
use Rattle.tally.proofs.Sums.{sum_agrees}
use Rattle.tally.proofs.Tallied.{Tallied, few_slots}
use Rattle.tally.proofs.KeptChannels.{kept_still, create_keeps, revoke_keeps}
use Rattle.tally.proofs.KeptSteps.{give_keeps, leave_keeps, spawn_keeps, transfer_sum}
use Rattle.tally.proofs.KeptJobs.{transfer_keeps}
use Rattle.tally.proofs.KeptPlaces.{Places, Keeps, open_keeps, close_keeps}
use Rattle.ipc_rules.specs.declared.answers.CreateError.{CreateError}
use Rattle.dispatcher_rules.specs.declared.answers.OpenedJob.{OpenedJob}
use Rattle.dispatcher_rules.specs.declared.answers.OpenError.{OpenError}

-- ---- transfer, for every id
pub transfer_keeps_all : TransferKeeps
unfolding pick
transfer_keeps_all rows shape r s r' s' c = transfer_sum (λ x. pick (names_id c x) 1 0) none rows shape r s r' s'
  where
    none : (y : Slot) → y.present ≡ false → ◌≡◌ {A = ℕ} (pick (names_id c y) 1 0) 0
    none y e = rw e

sixteen : (n : ℕ) (vs : List Variant) → length (make_of n vs).dispatcher.jobs ≡ 16
unfolding make_of
sixteen n vs = all_pick (λ (m : Making). length m.dispatcher.jobs ≡ 16) _ _ _ (λ _. refl) (λ _. refl)

-- made or refused, a dispatcher keeps making's rules
bound : (n : ℕ) (vs : List Variant) → Bound (make_of n vs).dispatcher.count (make_of n vs).dispatcher.variants
unfolding make_of
bound n vs = all_pick (λ (m : Making). Bound m.dispatcher.count m.dispatcher.variants) _ _ _ (λ e. bound_of n vs e) (λ _. record { few = omega arith; rows = λ i l. absurd (omega arith); tags = λ i j l. absurd (omega arith) })

-- a clearing opens and ends nothing
cleared_still : (t : Channels) (task : TaskId) → Sound t → Still t (clear_of t task).table
cleared_still t task s = let c = clear_clears t task in record { steady = c.steady; boxes = λ k. record { live = c.live k; ephemeral = c.ephemeral k; holds = c.holds k } }

-- ---- every step
abbrev Good : Books → Type 0
Good b = Tallied b.channels b.rows b.created × Places b.dispatcher b.created

module _ (b : Books) (x : Tallied b.channels b.rows b.created) (y : Places b.dispatcher b.created) where
  abbrev t : Channels
  t = b.channels

  send_slot : (r s : ℕ) (p : Payload) → let o = slot_send_of b.dispatcher b.rows t r s p in Tallied o.channels o.rows b.created × Places o.dispatcher b.created
  unfolding slot_send_of
  send_slot r s p =
      all_slotted (λ (o : SlotSending). Tallied o.channels o.rows b.created × Places o.dispatcher b.created) _ _ _ _ (λ _ _ _. (x, y)) (λ _ _. (x, y))
      (λ c _. (kept_still x _ (send_kept t c p r x.sound) (send_still t c x.sound p r), y))

  receive_slot : (r s : ℕ) → let o = slot_recv_of b.dispatcher b.rows t r s in Tallied o.channels o.rows b.created × Places o.dispatcher b.created
  unfolding slot_recv_of
  receive_slot r s =
      all_slotted (λ (o : SlotReceiving). Tallied o.channels o.rows b.created × Places o.dispatcher b.created) _ _ _ _ (λ _ _ _. (x, y)) (λ _ _. (x, y))
      (λ c _. (kept_still x _ (recv_kept t c x.sound) (recv_still t c x.sound), y))

  park_slot : (r s : ℕ) (task : TaskId) → let o = slot_park_of b.dispatcher b.rows t r s task in Tallied o.channels o.rows b.created × Places o.dispatcher b.created
  unfolding slot_park_of
  park_slot r s task =
      all_slotted (λ (o : SlotParking). Tallied o.channels o.rows b.created × Places o.dispatcher b.created) _ _ _ _ (λ _ _ _. (x, y)) (λ _ _. (x, y))
      (λ c _. (kept_still x _ (park_kept t c task x.sound) (park_still t c x.sound task), y))

  placed : (n : ℕ) (vs : List Variant) → Places (make_of n vs).dispatcher b.created
  placed n vs = record { bound = bound n vs; full = sixteen n vs; made = λ p o. absurd (not_both _ o (made_closed n vs p)) }

  -- a creation leaves the jobs
  more : (a : Result Channel CreateError) → Places b.dispatcher (if_created a b.created)
  unfolding if_created
  more (Ok ids) = record { bound = y.bound; full = y.full; made = λ p o. before (y.made p o) }
  more (Err toCreate.NoMailbox) = y
  more (Err toCreate.NoEndpoint) = y
  more (Err toCreate.BadTable) = y

  step : (s : Step) → PutsCreated b s → length (after b s).created ≤ 65535 → Good (after b s)
  unfolding after PutsCreated Keeps
  step (spawn r words) f n = (spawn_keeps x r words f, y)
  step (leave r) f n = (leave_keeps x r, y)
  step (give r s c) f n = (give_keeps x r s c f, y)
  step (create e) f n = (create_keeps t b.rows b.created x e n, more (create_of t e).answer)
  step (revoke c) f n = (revoke_keeps t b.rows b.created x c, y)
  step (send c p row) f n = (kept_still x _ (send_kept t c p row x.sound) (send_still t c x.sound p row), y)
  step (receive c) f n = (kept_still x _ (recv_kept t c x.sound) (recv_still t c x.sound), y)
  step (park c task) f n = (kept_still x _ (park_kept t c task x.sound) (park_still t c x.sound task), y)
  step (clear task) f n = (kept_still x _ (clear_kept t task x.sound) (cleared_still t task x.sound), y)
  step (transfer r s r' s') f n = (transfer_keeps x r s r' s', y)
  step (make m vs) f n = (x, placed m vs)
  step (open_for tag e) f n = open_keeps t b.rows b.dispatcher b.created x y tag e n
  step (close p) f n = close_keeps t b.rows b.dispatcher b.created x y p
  step (send_by r s p) f n = send_slot r s p
  step (receive_by r s) f n = receive_slot r s
  step (park_by r s task) f n = park_slot r s task

-- ---- from fresh tables on
no_slot : (n s r : ℕ) → (get_or (get_or (replicate n empty_row) r (record { slots = [] })).slots s vacant_slot).present ≡ false
no_slot zero s r = refl
no_slot (suc n) s zero = four s
  where
    four : (s : ℕ) → (get_or four_vacant s vacant_slot).present ≡ false
    four zero = refl
    four (suc zero) = refl
    four (suc (suc zero)) = refl
    four (suc (suc (suc zero))) = refl
    four (suc (suc (suc (suc s)))) = refl
no_slot (suc n) s (suc r) = no_slot n s r

no_cons : {A : Type 0} {c : Channel} {l : List Channel} → c ∷ l ≡ [] → A
no_cons e = let z = ap (length {A = Channel}) e in absurd (omega arith)

none_among : {A : Type 0} {c : CapId} {l : List Channel} → l ≡ [] → Among c l → A
none_among e (as_send _) = no_cons e
none_among e (as_recv _) = no_cons e
none_among e (earlier _) = no_cons e

none_made : {A : Type 0} {ids : Channel} {l : List Channel} → l ≡ [] → Made ids l → A
none_made e last = no_cons e
none_made e (before _) = no_cons e

begins : (z : Sizes) → in_range z ≡ true → Good (start z)
begins z i =
    let σ = fresh_sound z (in_range_of z i) in (
      record {
        sound = σ;
        shape = shape_fresh;
        holds = λ k v. absurd (not_both _ v (ap (λ (m : Mailbox). m.live) (fresh_box z k)));
        sender = λ k v. absurd (not_both _ v (ap (λ (m : Mailbox). m.live) (fresh_box z k)));
        origin = λ r s c h. never_vacant (no_slot 54 s r) h;
        generations = λ c m. none_among refl m;
        next = λ _. refl;
        shut = λ ids m. none_made refl m;
      },
      record { bound = bound 0 (replicate 16 no_variant); full = sixteen 0 (replicate 16 no_variant); made = λ p o. absurd (not_both _ o (made_closed 0 (replicate 16 no_variant) p)) },
    )

-- no step takes a creation back
longer_created : (a : Result Channel CreateError) (l : List Channel) → length l ≤ length (if_created a l)
unfolding if_created
longer_created (Ok ids) l = omega arith
longer_created (Err toCreate.NoMailbox) l = omega arith
longer_created (Err toCreate.NoEndpoint) l = omega arith
longer_created (Err toCreate.BadTable) l = omega arith

longer_opened : (a : Result OpenedJob OpenError) (l : List Channel) → length l ≤ length (if_opened a l)
unfolding if_opened
longer_opened (Ok j) l = omega arith
longer_opened (Err toOpen.NoVariant) l = omega arith
longer_opened (Err toOpen.BadRow) l = omega arith
longer_opened (Err toOpen.JobsFull) l = omega arith
longer_opened (Err toOpen.NoMailbox) l = omega arith
longer_opened (Err toOpen.NoEndpoint) l = omega arith
longer_opened (Err toOpen.BadSlot) l = omega arith
longer_opened (Err toOpen.BadTable) l = omega arith

longer : (b : Books) (s : Step) → length b.created ≤ length (after b s).created
unfolding after
longer b (spawn r words) = omega arith
longer b (leave r) = omega arith
longer b (give r s c) = omega arith
longer b (create e) = longer_created (create_of b.channels e).answer b.created
longer b (revoke c) = omega arith
longer b (send c p row) = omega arith
longer b (receive c) = omega arith
longer b (park c task) = omega arith
longer b (clear task) = omega arith
longer b (transfer r s r' s') = omega arith
longer b (make n vs) = omega arith
longer b (open_for tag x) = longer_opened (open_job_of b.dispatcher b.rows b.channels tag x).answer b.created
longer b (close p) = omega arith
longer b (send_by r s p) = omega arith
longer b (receive_by r s) = omega arith
longer b (park_by r s task) = omega arith

all_good : AfterRuns Good
all_good b (fresh z i) n = begins z i
all_good b (then {b = a} r s f) n = let m = longer a s in let g = all_good a r (omega arith) in step a g.0 g.1 s f n

-- ---- one send id, and the slots that hold it
module _ (t : Channels) (k : ℕ) (σ : Sound t) (id : CapId) (sends : opening_of t id send_right ≡ Opens k) where
  -- in a sound table one id alone opens a mailbox for send: there is one send end, and an id is its index and generation
  only : (c : CapId) → opening_of t c send_right ≡ Opens k → c ≡ id
  only c e =
      let h = the_end c e ∙ sym (the_end id sends) in
      same_parts c id h (sym (of c e).generation ∙ ap (λ (m : ℕ). (endpoint_at t m).generation) h ∙ (of id sends).generation)
    where
      of : (d : CapId) → opening_of t d send_right ≡ Opens k → Opened t d send_right k
      of d o = opened_of t d send_right k o

      the_end : (d : CapId) → opening_of t d send_right ≡ Opens k → index_of d ≡ (σ.ends k (opens_live t id send_right k σ sends)).send
      the_end d o =
          let p = of d o in
          let w : (endpoint_at t (index_of d)).rights ≡ send_right = ⊎_elim (λ h. h) (λ h. absurd (not_both _ p.right (ap (λ (v : CapRights). contains_all v send_right) h ∙ receive_lacks_send))) (σ.names (index_of d) p.live).rights in
          (σ.ends k (opens_live t id send_right k σ sends)).one_send.only (index_of d) (record { live = p.live; rights = w; names = p.names })

  -- a slot counts for the mailbox where it holds this id
  counts : (x : Slot) → held_by t k x ≡ pick (names_id id x) 1 0
  unfolding pick
  counts x = ⊎_elim
      (λ e. let h = names_holding id x e in rw e (ap (held_by t k) h ∙ held_one t k (holding id) (hold_is t (holding id) ∙ sends)))
      (λ e. rw e (none (hold_of t x) refl e)) (either (names_id id x))
    where
      none : (o : Opening) → hold_of t x ≡ o → names_id id x ≡ false → held_by t k x ≡ 0
      none Shut h e = held_none t k x h
      none (Opens j) h e = ⊎_elim
          (λ q. let p = hold_opens t x j h in absurd (not_both _ (named x p.0 (only x.id (p.1 ∙ ap Opens (sym q)))) e))
          (λ n. held_other t k x j h n) (same? k j)
        where
          named : (y : Slot) → y.present ≡ true → y.id ≡ id → names_id id y ≡ true
          named y p q = rw p (eq-eqb _ _ (ap (λ (c : CapId). c.raw) q))

pub holds_are_slots : HoldsAreSlots
holds_are_slots b ρ n k live =
    let x = (all_good b ρ n).0 in
    let t = b.channels in
    let z = x.sender k live in
    record {
      ids = z.ids;
      created = z.made;
      sends = z.opens;
      only = only t k x.sound z.ids.send z.opens;
      equal = x.holds k live ∙ sum_agrees (held_by t k) b.rows x.shape (λ y. pick (names_id z.ids.send y) 1 0) (λ r s _ _. counts t k x.sound z.ids.send z.opens (slot_in b.rows r s));
    }

pub far_from_ceiling : FarFromCeiling
far_from_ceiling b ρ n k live =
    let x = (all_good b ρ n).0 in
    let e = x.holds k live in
    let f = few_slots b.channels b.rows x.shape k in
    omega arith

pub runs_ready : RunsReady
runs_ready b ρ n = let g = all_good b ρ n in record { ready = record { bound = g.1.bound; sound = g.0.sound }; shape = g.0.shape }
