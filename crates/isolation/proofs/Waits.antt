-- What ends a wait for a job, and that nothing else does. Assumes nothing.
use Rattle.std.specs.Prelude.{Err, None, Ok, Result}
use mathlib.Core.Path.{◌≡◌, refl, sym, ap, ◌∙◌}
use mathlib.Core.Bool.{true, false}
use mathlib.Core.List.{List, [], ◌∷◌}
use mathlib.Core.Logic.{◌⊎◌, ⊎_elim}
use Prim.Native.Nat.{ℕ}
use native.Mathlib.Omega.{arith}
use borrow.Author.Tests.{eqb-true, eqb-false, eq-eqb, ne_eqb}
use lib.ListN.{length}
use Rattle.laws.specs.Pick.{pick}
use Rattle.laws.proofs.Bools.{same?}
use Rattle.laws.proofs.Cases.{not_both}
use Rattle.cap.specs.Rights.{send_right, receive_right}
use Rattle.cap.specs.Slot.{holding}
use Rattle.cap.specs.declared.CapId.{CapId}
use Rattle.capslots.specs.Table.{slot_in}
use Rattle.ipc_rules.specs.State.{nobody, waiting, stamped}
use Rattle.ipc_rules.specs.Opening.{opening_of}
use Rattle.ipc_rules.specs.Create.{create_of}
use Rattle.ipc_rules.specs.Send.{send_of}
use Rattle.ipc_rules.specs.Receive.{recv_of, park_of}
use Rattle.ipc_rules.specs.Views.{waiter_of, OnlyMailbox}
use Rattle.ipc_rules.specs.declared.opening.Opening.TheVariants.{Opens}
use Rattle.ipc_rules.specs.declared.state.Message.{Message}
use Rattle.ipc_rules.specs.declared.state.Payload.{Payload}
use Rattle.ipc_rules.specs.declared.state.TaskId.{TaskId}
use Rattle.ipc_rules.specs.declared.state.Waiter.{Waiter}
use Rattle.ipc_rules.specs.declared.state.Table.{Table as Channels}
use Rattle.ipc_rules.specs.declared.answers.SendError.TheVariants as sending
use Rattle.ipc_rules.proofs.AfterSend.{SendWays, bad_row, bad_cap, full, sent, send_ways}
use Rattle.ipc_rules.proofs.AfterReceive as recv
use Rattle.ipc_rules.proofs.AfterPark as park
use Rattle.ipc_rules.proofs.AfterCounts.{authority_only, full_only, state_only}
use Rattle.history.specs.Traffic.{if_sent}
use Rattle.dispatcher_rules.specs.State.{row_of}
use Rattle.dispatcher_rules.specs.Open.{open_job_of}
use Rattle.dispatcher_rules.specs.Close.{close_job_of}
use Rattle.dispatcher_rules.specs.Answers.{slot_park_number}
use Rattle.dispatcher_rules.specs.Slots.{slot_sent, slot_parked, slot_send_of, slot_recv_of, slot_park_of}
use Rattle.dispatcher_rules.specs.Border.{slot_send_call}
use Rattle.dispatcher_rules.specs.declared.state.Desk.{Desk}
use Rattle.dispatcher_rules.specs.declared.state.Tag.{Tag}
use Rattle.dispatcher_rules.specs.declared.answers.JobOpening.{JobOpening}
use Rattle.dispatcher_rules.specs.declared.answers.JobClosing.{JobClosing}
use Rattle.dispatcher_rules.specs.declared.answers.SlotSending.{SlotSending}
use Rattle.dispatcher_rules.specs.declared.answers.BySlotError.TheVariants as toSend
use Rattle.dispatcher_rules.specs.declared.answers.SlotReceiving.{SlotReceiving}
use Rattle.dispatcher_rules.specs.declared.answers.SlotParking.{SlotParking}
use Rattle.dispatcher_rules.proofs.Ways.{open_ways, close_ways, all_slotted}
use Rattle.isolation.specs.Runs.{JobCall, open_for, close, send, receive, park, after, run, Reached, then}
use Rattle.isolation.specs.Jobs.{job_in, OpenIn, BoundTo, slot_holds, if_accepted, accepted, closes}
use Rattle.isolation.specs.Waits.{Waits, Named, by_sending, by_closing, WaitsOn, WaitEnds, ParkedWaits, none, more, WaitsThrough}
use Rattle.isolation.proofs.Added.{channel_added}
use Rattle.isolation.proofs.Closing.{closing_ends}
use Rattle.isolation.proofs.Ended.{channel_ended}
use Rattle.isolation.proofs.Flows.{pick_same, call_flows}
use Rattle.isolation.proofs.Ids.{one_box}
use Rattle.isolation.proofs.Kept.{Kept}
use Rattle.isolation.proofs.KeptOpen.{both_given_lem}
use Rattle.isolation.proofs.Reaches.{serves, all_kept}
use Rattle.isolation.proofs.Slots.{get_names}
use Rattle.isolation.proofs.Whose.{holds_send, receives_for}
use Rattle.ipc_rules.specs.declared.answers.SendError.{SendError}
use Rattle.dispatcher_rules.specs.declared.answers.BySlotError.{BySlotError}

none_one : {A : Type 0} {m : Message} → m ∷ [] ≡ [] → A
none_one e = let z = ap (length {A = Message}) e in absurd (omega arith)

module _ (w : Desk) (κ : Kept w) (p k : ℕ) (mine : OpenIn w p) (opens : opening_of w.channels (job_in w p).ends.send send_right ≡ Opens k) where
  abbrev t : Channels
  t = w.channels

  -- the waiter of mailbox k is as it was in u
  Same : Channels → Type 0
  Same u = waiter_of u k ≡ waiter_of t k

  -- where one mailbox was changed, and its waiter not
  same_box : (j : ℕ) (u : Channels) → OnlyMailbox t u j → waiter_of u j ≡ waiter_of t j → Same u
  unfolding Same
  same_box j u x e = ⊎_elim (λ i. rw (← i) e) (λ n. (x.others k (λ i. n (sym i))).waiter) (same? j k)

  open_same : (tag : Tag) (x : ℕ) → Same (open_job_of w.dispatcher w.rows t tag x).channels
  unfolding Same
  open_same tag x =
      open_ways w.dispatcher w.rows t (λ (o : JobOpening). Same o.channels) tag x (λ _ _. refl)
      (λ v i ends s q f.
      let b = both_given_lem (create_of t true).table w.rows ends x s (row_of w.dispatcher v) q f.first f.second in
      let n = channel_added t ends κ.ready.sound f.created in
      rw b.1 (n.is.others k (λ e. n.is.unopened (job_in w p).ends.send send_right (opens ∙ ap Opens e))).waiter)

  close_same : (i : ℕ) → (i ≡ p → ⊥) → Same (close_job_of w.dispatcher w.rows t i).channels
  unfolding Same
  close_same i ne =
      close_ways w.dispatcher w.rows t (λ (o : JobClosing). Same o.channels) i refl
      (λ l o.
      let a = κ.own i o in
      let e = (channel_ended t (job_in w i).ends.send a.box κ.ready.sound a.channel.sends).gone in
      (e.others k (λ h. ne (κ.apart i p o mine k (a.channel.sends ∙ ap Opens (sym h)) opens))).waiter)

  module _ (r s : ℕ) where
    receive_same : Same (slot_recv_of w.dispatcher w.rows t r s).channels
    unfolding slot_recv_of Same
    receive_same =
        all_slotted (λ (o : SlotReceiving). Same o.channels) _ _ _ _ (λ _ _ _. refl) (λ _ _. refl) (λ c _. by c (recv.recv_ways t c κ.ready.sound))
      where
        by : (c : CapId) → recv.RecvWays t c (recv_of t c) → Same (recv_of t c).table
        by c (recv.bad_cap _ q) = rw q ((authority_only t).mailboxes k).waiter
        by c (recv.empty _ _ _ q) = rw q
        by c (recv.received j m _ _ g) = same_box j (recv_of t c).table g.rest g.waiter

    -- a park leaves who waits
    park_same : (x task : TaskId) → waiter_of t k ≡ waiting x → Same (slot_park_of w.dispatcher w.rows t r s task).channels
    unfolding slot_park_of Same
    park_same x task waits =
        all_slotted (λ (o : SlotParking). Same o.channels) _ _ _ _ (λ _ _ _. refl) (λ _ _. refl) (λ c _. by c (park.park_ways t c task κ.ready.sound))
      where
        by : (c : CapId) → park.ParkWays t c task (park_of t c task) → Same (park_of t c task).table
        by c (park.bad_cap _ q) = rw q ((authority_only t).mailboxes k).waiter
        by c (park.given j m _ _ g) = same_box j (park_of t c task).table g.rest g.waiter
        by c (park.cancelled _ _ _ _ _ q) = rw q
        by c (park.busy _ _ _ _ _ q) = rw q ((state_only t).mailboxes k).waiter
        by c (park.parked j _ _ _ y) = ⊎_elim
            (λ i. let f = y.free in let g = y.waiter in (rw i at g) ∙ sym ((rw i at f) (ap (λ (z : Waiter). z.present) waits)))
            (λ n. (y.rest.others k (λ i. n (sym i))).waiter) (same? j k)

    -- a sending: it names who waits where it is accepted for the job, and leaves him where it is not
    data Sending (m : Message) (into : List Message) (a : Result (Result Waiter SendError) BySlotError) (u : Channels) : Type 0 where
      for_it : into ≡ m ∷ [] → a ≡ Ok (Ok (waiter_of t k)) → waiter_of u k ≡ nobody → Sending m into a u
      not_for_it : into ≡ [] → waiter_of u k ≡ waiter_of t k → Sending m into a u

    module _ (y : Payload) where
      abbrev m : Message
      m = stamped y r

      into : Result (Result Waiter SendError) BySlotError → List Message
      into a = pick (slot_holds w r s (job_in w p).ends.send) (if_accepted a m) []

      nothing : (a : Result (Result Waiter SendError) BySlotError) → if_accepted a m ≡ [] → into a ≡ []
      unfolding into
      nothing a e = rw (e, pick_same (slot_holds w r s (job_in w p).ends.send))

      sent_by : (c : CapId) → slot_in w.rows r s ≡ holding c → SendWays t c y r (send_of t c y r) →
          let a = Ok (send_of t c y r).answer in Sending m (into a) a (send_of t c y r).table
      unfolding into if_accepted if_sent pick
      sent_by c h (bad_row _ q) = rw q (not_for_it (nothing (Ok (Err sending.BadRow)) refl) refl)
      sent_by c h (bad_cap _ _ q) = rw q (not_for_it (nothing (Ok (Err sending.BadCap)) refl) ((authority_only t).mailboxes k).waiter)
      sent_by c h (full _ _ _ _ q) = rw q (not_for_it (nothing (Ok (Err sending.Full)) refl) ((full_only t).mailboxes k).waiter)
      sent_by c h (sent _ a x) =
          let b = holds_send w κ r s c h a.box p k mine opens a.opens in
          let e = x.answer in
          let z = x.waiter in
          ⊎_elim
          (λ i. for_it (rw (e, b, eq-eqb a.box k i)) (rw e (ap (λ (j : ℕ). Ok (Ok (waiter_of t j))) i)) (rw i at z))
          (λ n. not_for_it (rw (e, b, ne_eqb a.box k n)) (x.rest.others k (λ i. n (sym i))).waiter) (same? a.box k)

      send_does : let o = slot_send_of w.dispatcher w.rows t r s y in Sending m (into o.answer) o.answer o.channels
      unfolding slot_send_of if_accepted
      send_does =
          all_slotted (λ (o : SlotSending). Sending m (into o.answer) o.answer o.channels) _ _ _ _
          (λ i n _. not_for_it (nothing (Err (toSend.OutOfRange i n)) refl) refl) (λ i _. not_for_it (nothing (Err (toSend.Vacant i)) refl) refl)
          (λ c e. sent_by c (get_names w.rows r s c e) (send_ways t c y r κ.ready.sound))

-- ---- every call
module _ (w : Desk) (ρ : Reached w) (p k : ℕ) (x : TaskId) (y : Waits w p k x) where
  abbrev κ : Kept w
  κ = all_kept w ρ

  waiter_stays : (c : JobCall) → closes p c ≡ false → accepted w p c ≡ [] → waiter_of (after w c).channels k ≡ waiter_of w.channels k
  unfolding after closes accepted Same into
  waiter_stays (open_for tag i) e a = rw (serves w.dispatcher w.channels κ.ready) (open_same w κ p k y.job_open y.opens tag i)
  waiter_stays (close i) e a = rw (serves w.dispatcher w.channels κ.ready) (close_same w κ p k y.job_open y.opens i (eqb-false i p e))
  waiter_stays (send r s z) e a =
      rw (serves w.dispatcher w.channels κ.ready) (by (send_does w κ p k y.job_open y.opens r s z) (rw (serves w.dispatcher w.channels κ.ready) at a))
    where
      by : {l : List Message} {b : Result (Result Waiter SendError) BySlotError} {u : Channels} → Sending w κ p k y.job_open y.opens r s (stamped z r) l b u → l ≡ [] → waiter_of u k ≡ waiter_of w.channels k
      by (for_it i _ _) n = none_one (sym i ∙ n)
      by (not_for_it _ q) n = q
  waiter_stays (receive r s) e a = rw (serves w.dispatcher w.channels κ.ready) (receive_same w κ p k y.job_open y.opens r s)
  waiter_stays (park r s task) e a = rw (serves w.dispatcher w.channels κ.ready) (park_same w κ p k y.job_open y.opens r s x task y.waiter)

  stays : (c : JobCall) → closes p c ≡ false → accepted w p c ≡ [] → Waits (after w c) p k x
  stays c e a =
      let f = call_flows w κ p k y.job_open y.opens c e in
      record { job_open = rw f.job y.job_open; opens = rw f.job f.opens; waiter = waiter_stays c e a ∙ y.waiter }

  -- ---- a message accepted for the job, and a closing of its place
  Ended : JobCall → Type 0
  Ended c = Named w x c × (waiter_of (after w c).channels k ≡ nobody)

  sent_ends : (r s : ℕ) (z : Payload) (n : Message) → accepted w p (send r s z) ≡ n ∷ [] → Ended (send r s z)
  unfolding after accepted into Ended
  sent_ends r s z n e =
      let σ = serves w.dispatcher w.channels κ.ready (slot_sent (Err toSend.BadTable) w.dispatcher w.rows w.channels) (slot_send_of w.dispatcher w.rows w.channels r s z) in
      by σ (send_does w κ p k y.job_open y.opens r s z) (rw (serves w.dispatcher w.channels κ.ready) at e)
    where
      by : {o : SlotSending} {l : List Message} → slot_send_call w.dispatcher w.rows w.channels r s z ≡ o → Sending w κ p k y.job_open y.opens r s (stamped z r) l o.answer o.channels → l ≡ n ∷ [] → Ended (send r s z)
      by σ (for_it _ a q) _ =
          (by_sending (ap (λ (o : SlotSending). o.answer) σ ∙ a ∙ ap (λ (a : Waiter). Ok (Ok a)) y.waiter), ap (λ (o : SlotSending). waiter_of o.channels k) σ ∙ q)
      by σ (not_for_it i _) g = none_one (sym g ∙ i)

  closed_ends : (i : ℕ) → i ≡ p → Ended (close i)
  unfolding Ended
  closed_ends i e =
      let m = κ.own p y.job_open in
      let c = closing_ends w ρ p y.job_open m in
      let b : m.box ≡ k = one_box w.channels _ _ send_right m.box k refl m.channel.sends y.opens in
      rw e (by_closing (c.answers ∙ ap Ok (ap (waiter_of w.channels) b ∙ y.waiter)), ap (waiter_of (after w (close p)).channels) (sym b) ∙ c.nobody_waits)

  ends : (c : JobCall) → (closes p c ≡ true) ⊎ ((m : Message) × (accepted w p c ≡ m ∷ [])) → Ended c
  unfolding closes accepted
  ends (open_for tag i) = λ e. ⊎_elim (λ h. absurd (not_both false h refl)) (λ h. none_one (sym h.1)) e
  ends (close i) = λ e. ⊎_elim (λ h. closed_ends i (eqb-true i p h)) (λ h. none_one (sym h.1)) e
  ends (send r s z) = λ e. ⊎_elim (λ h. absurd (not_both false h refl)) (λ h. sent_ends r s z h.0 h.1) e
  ends (receive r s) = λ e. ⊎_elim (λ h. absurd (not_both false h refl)) (λ h. none_one (sym h.1)) e
  ends (park r s task) = λ e. ⊎_elim (λ h. absurd (not_both false h refl)) (λ h. none_one (sym h.1)) e

pub waits_on_lem : WaitsOn
waits_on_lem w ρ p k x y c = stays w ρ p k x y c

pub wait_ends : WaitEnds
unfolding Ended
wait_ends w ρ p k x y c = ends w ρ p k x y c

-- ---- a park that waits
module _ (w : Desk) (κ : Kept w) (r s : ℕ) (task : TaskId) where
  -- the job in place p, of mailbox k, is one of the row, and the task waits there in table u
  record WaitsIn (u : Channels) : Type 0 where
    pub whose : ℕ
    pub job_open : OpenIn w whose
    pub bound : BoundTo w.dispatcher (job_in w whose).tag r
    pub waits : waiter_of u (κ.own whose job_open).box ≡ waiting task

  Says : SlotParking → Type 0
  Says o = o.answer ≡ Ok (Ok None) → WaitsIn o.channels

  waits_by : (c : CapId) → slot_in w.rows r s ≡ holding c → park.ParkWays w.channels c task (park_of w.channels c task) →
      Says (slot_parked (Ok (park_of w.channels c task).answer) w.dispatcher w.rows (park_of w.channels c task).table)
  unfolding Says
  waits_by c h (park.bad_cap _ q) e = absurd (omega (arith, ap slot_park_number (rw q at e)))
  waits_by c h (park.given _ _ _ a _) e = let z : ◌≡◌ {A = ℕ} 0 1 = cc in absurd (omega arith)
  waits_by c h (park.cancelled _ _ _ _ _ q) e = absurd (omega (arith, ap slot_park_number (rw q at e)))
  waits_by c h (park.busy _ _ _ _ _ q) e = absurd (omega (arith, ap slot_park_number (rw q at e)))
  waits_by c h (park.parked k o _ _ x) e =
      let f = receives_for w κ r s c h k o in
      let m = κ.own f.place f.open_there in
      let b : m.box ≡ k = sym (one_box w.channels c _ receive_right k m.box f.is o m.channel.receives) in
      record { whose = f.place; job_open = f.open_there; bound = f.bound; waits = ap (waiter_of (park_of w.channels c task).table) b ∙ x.waiter }

  waits_so : Says (slot_park_of w.dispatcher w.rows w.channels r s task)
  unfolding slot_park_of Says
  waits_so =
      all_slotted Says _ _ _ _ (λ _ _ _ e. absurd (omega (arith, ap slot_park_number e))) (λ _ _ e. absurd (omega (arith, ap slot_park_number e)))
      (λ c g. waits_by c (get_names w.rows r s c g) (park.park_ways w.channels c task κ.ready.sound))

pub parked_waits : ParkedWaits
unfolding after Says closes
parked_waits w ρ r s x e =
    let κ = all_kept w ρ in
    let y = waits_so w κ r s x (rw (serves w.dispatcher w.channels κ.ready) at e) in
    let m = κ.own y.whose y.job_open in
    let f = call_flows w κ y.whose m.box y.job_open m.channel.sends (park r s x) refl in
    record {
      place = y.whose;
      box = m.box;
      bound = y.bound;
      waits = record { job_open = rw f.job y.job_open; opens = rw f.job f.opens; waiter = rw (serves w.dispatcher w.channels κ.ready) y.waits };
    }

-- ---- over a run
pub waits_through : WaitsThrough
unfolding run
waits_through w ρ p k x y [] none = (ρ, y)
waits_through w ρ p k x y (c ∷ cs) (more e a q) = waits_through (after w c) (then ρ c) p k x (waits_on_lem w ρ p k x y c e a) cs q
