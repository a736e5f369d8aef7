-- A call that does not close a place leaves the job there as it is, and what the call hands out from it and then what waits is what waited
-- and then what the call has accepted for it. Assumes nothing.
use Rattle.std.specs.Prelude.{Some, Err, Ok, Result}
use mathlib.Core.Path.{◌≡◌, refl, sym, ap, ◌∙◌}
use mathlib.Core.Bool.{Bool, true, false}
use mathlib.Core.List.{List, [], ◌∷◌, ◌++◌, append-nil}
use mathlib.Core.Logic.{⊎_elim}
use Prim.Native.Nat.{ℕ}
use lib.Dec.{eqb}
use borrow.Author.Tests.{eqb-false, eq-eqb, ne_eqb}
use Rattle.laws.specs.Pick.{pick}
use Rattle.laws.proofs.Bools.{same?}
use Rattle.laws.proofs.Cases.{not_both}
use Rattle.laws.proofs.Search.{lowest_at}
use Rattle.cap.specs.Rights.{send_right}
use Rattle.cap.specs.Slot.{holding}
use Rattle.cap.specs.declared.CapId.{CapId}
use Rattle.capslots.specs.Table.{slot_in}
use Rattle.ipc_rules.specs.State.{stamped}
use Rattle.ipc_rules.specs.Sound.{Sound}
use Rattle.ipc_rules.specs.Opening.{opening_of}
use Rattle.ipc_rules.specs.Create.{create_of}
use Rattle.ipc_rules.specs.Send.{send_of}
use Rattle.ipc_rules.specs.Receive.{recv_of, park_of}
use Rattle.ipc_rules.specs.Views.{queue_of, Steady, OnlyCounts}
use Rattle.ipc_rules.specs.declared.opening.Opening.TheVariants.{Opens}
use Rattle.ipc_rules.specs.declared.state.Message.{Message}
use Rattle.ipc_rules.specs.declared.state.Payload.{Payload}
use Rattle.ipc_rules.specs.declared.state.TaskId.{TaskId}
use Rattle.ipc_rules.specs.declared.state.Table.{Table as Channels}
use Rattle.ipc_rules.specs.declared.answers.SendError.TheVariants as sending
use Rattle.ipc_rules.proofs.AfterSend.{Sends, SendWays, bad_row, bad_cap, full, sent, send_ways}
use Rattle.ipc_rules.proofs.AfterReceive as recv
use Rattle.ipc_rules.proofs.AfterPark as park
use Rattle.ipc_rules.proofs.Changes.{counts_anew, alike_same, steady_same}
use Rattle.history.specs.Traffic.{if_sent, by_receive, by_park}
use Rattle.dispatcher_rules.specs.State.{row_of, job_at, no_job, open_job}
use Rattle.dispatcher_rules.specs.Open.{free_place, open_job_of}
use Rattle.dispatcher_rules.specs.Close.{close_job_of}
use Rattle.dispatcher_rules.specs.Slots.{slot_send_of, slot_recv_of, slot_park_of}
use Rattle.dispatcher_rules.specs.declared.state.Desk.{Desk}
use Rattle.dispatcher_rules.specs.declared.state.Tag.{Tag}
use Rattle.dispatcher_rules.specs.declared.answers.JobOpening.{JobOpening}
use Rattle.dispatcher_rules.specs.declared.answers.JobClosing.{JobClosing}
use Rattle.dispatcher_rules.specs.declared.answers.SlotSending.{SlotSending}
use Rattle.dispatcher_rules.specs.declared.answers.BySlotError.TheVariants as send
use Rattle.dispatcher_rules.specs.declared.answers.SlotReceiving.{SlotReceiving}
use Rattle.dispatcher_rules.specs.declared.answers.SlotParking.{SlotParking}
use Rattle.dispatcher_rules.proofs.Ways.{open_ways, close_ways, all_slotted}
use Rattle.isolation.specs.Runs.{JobCall, open_for, close, send, receive, park, opened, closed, sent as sentDesk, received as receivedDesk, parked as parkedDesk, after}
use Rattle.isolation.specs.Jobs.{job_in, OpenIn, slot_holds, if_accepted, if_received, if_given, accepted, handed, closes}
use Rattle.isolation.proofs.Added.{channel_added}
use Rattle.isolation.proofs.Ended.{channel_ended}
use Rattle.isolation.proofs.Kept.{Kept}
use Rattle.isolation.proofs.KeptSlots.{with_channels}
use Rattle.isolation.proofs.KeptOpen.{both_given_lem}
use Rattle.isolation.proofs.Places.{other_job}
use Rattle.isolation.proofs.Reaches.{serves}
use Rattle.isolation.proofs.Slots.{get_names}
use Rattle.isolation.proofs.Whose.{holds_send, holds_recv}
use Rattle.ipc_rules.specs.declared.state.Waiter.{Waiter}
use Rattle.ipc_rules.specs.declared.answers.SendError.{SendError}
use Rattle.shown.specs.declared.Answered.{Answered}
use Rattle.dispatcher_rules.specs.declared.answers.BySlotError.{BySlotError}

-- the job in place p, of mailbox k, is as it was on desk v, and its queue is so far on
pub record Flows (w : Desk) (p k : ℕ) (v : Desk) (out into : List Message) : Type 0 where
  pub job : job_in v p ≡ job_in w p
  pub opens : opening_of v.channels (job_in w p).ends.send send_right ≡ Opens k
  pub order : out ++ queue_of v.channels k ≡ queue_of w.channels k ++ into

-- a job that is open is in no free place
taken : (w : Desk) (p i : ℕ) → OpenIn w p → free_place w.dispatcher ≡ Some i → p ≡ i → ⊥
taken w p i o f e = not_both _ (rw e at o) (lowest_at (λ q. (job_at w.dispatcher q).«open») 0 16 i f).free

-- no counts anew
none_anew : (t : Channels) → OnlyCounts t t
none_anew t = record { steady = steady_same t; mailboxes = alike_same t }

pub pick_same : (b : Bool) → ◌≡◌ {A = List Message} (pick b [] []) []
unfolding pick
pick_same true = refl
pick_same false = refl

module _ (w : Desk) (κ : Kept w) (p k : ℕ) (mine : OpenIn w p) (opens : opening_of w.channels (job_in w p).ends.send send_right ≡ Opens k) where
  abbrev t : Channels
  t = w.channels

  abbrev σ : Sound t
  σ = κ.ready.sound

  -- nothing in, nothing out
  idle : (v : Desk) → job_in v p ≡ job_in w p → opening_of v.channels (job_in w p).ends.send send_right ≡ Opens k →
      queue_of v.channels k ≡ queue_of t k → Flows w p k v [] []
  idle v j o q = record { job = j; opens = o; order = q ∙ sym (append-nil _) }

  open_flows : (tag : Tag) (x : ℕ) → Flows w p k (opened (open_job_of w.dispatcher w.rows t tag x)) [] []
  open_flows tag x =
      open_ways w.dispatcher w.rows t (λ (o : JobOpening). Flows w p k (opened o) [] []) tag x (λ _ _. idle w refl opens refl)
      (λ v i ends s q f.
      let b = both_given_lem (create_of t true).table w.rows ends x s (row_of w.dispatcher v) q f.first f.second in
      let n = channel_added t ends σ f.created in
      let other : k ≡ n.box → ⊥ = λ e. n.is.unopened (job_in w p).ends.send send_right (opens ∙ ap Opens e) in
      rw b.1 (idle _ (other_job w.dispatcher i (open_job ends tag) p (taken w p i mine f.place))
      (n.is.same _ _ _ opens _ ∙ opens) (n.is.others k other).queue))

  close_flows : (i : ℕ) → (i ≡ p → ⊥) → Flows w p k (closed (close_job_of w.dispatcher w.rows t i)) [] []
  close_flows i ne =
      close_ways w.dispatcher w.rows t (λ (o : JobClosing). Flows w p k (closed o) [] []) i (idle w refl opens refl)
      (λ l o.
      let a = κ.own i o in
      let e = (channel_ended t (job_in w i).ends.send a.box σ a.channel.sends).gone in
      let other : k ≡ a.box → ⊥ = λ h. ne (κ.apart i p o mine k (a.channel.sends ∙ ap Opens (sym h)) opens) in
      idle _ (other_job w.dispatcher i no_job p (λ h. ne (sym h))) (e.still _ _ k other opens) (e.others k other).queue)

  -- a message put into mailbox j, and one taken out of it
  puts : (j : ℕ) (m : Message) (o : Answered (Result Waiter SendError) Channels) → Sends t m j o → Flows w p k (with_channels w o.table) [] (pick (eqb j k) (m ∷ []) [])
  unfolding pick
  puts j m o x =
      let q = x.queue in
      let still = x.rest.steady.opening (job_in w p).ends.send send_right ∙ opens in
      ⊎_elim (λ e. rw (eq-eqb j k e) (record { job = refl; opens = still; order = rw e at q }))
      (λ n. rw (ne_eqb j k n) (idle (with_channels w o.table) refl still (x.rest.others k (λ e. n (sym e))).queue)) (same? j k)

  takes : (j : ℕ) (m : Message) (u : Channels) → recv.Gives t j m u → Flows w p k (with_channels w u) (pick (eqb j k) (m ∷ []) []) []
  unfolding pick
  takes j m u g =
      let q = g.queue in
      let still = g.rest.steady.opening (job_in w p).ends.send send_right ∙ opens in
      ⊎_elim (λ e. rw (eq-eqb j k e) (record { job = refl; opens = still; order = sym (rw e at q) ∙ sym (append-nil _) }))
      (λ n. rw (ne_eqb j k n) (idle (with_channels w u) refl still (g.rest.others k (λ e. n (sym e))).queue)) (same? j k)

  module _ (r s : ℕ) where
    -- ---- a sending
    module _ (x : Payload) where
      abbrev m : Message
      m = stamped x r

      abbrev into : Result (Result Waiter SendError) BySlotError → List Message
      into a = pick (slot_holds w r s (job_in w p).ends.send) (if_accepted a m) []

      -- refused, it leaves the queue
      unsent : (a : Result (Result Waiter SendError) BySlotError) (u : Channels) → if_accepted a m ≡ [] → OnlyCounts t u → Flows w p k (with_channels w u) [] (into a)
      unsent a u e y = rw (e, pick_same (slot_holds w r s (job_in w p).ends.send)) (idle (with_channels w u) refl (y.steady.opening _ _ ∙ opens) (y.mailboxes k).queue)

      sent_by : (c : CapId) → slot_in w.rows r s ≡ holding c → SendWays t c x r (send_of t c x r) →
          Flows w p k (with_channels w (send_of t c x r).table) [] (into (Ok (send_of t c x r).answer))
      unfolding if_accepted if_sent
      sent_by c h (bad_row _ q) = rw q (unsent (Ok (Err sending.BadRow)) _ refl (none_anew t))
      sent_by c h (bad_cap _ _ q) = rw q (unsent (Ok (Err sending.BadCap)) _ refl (counts_anew t _))
      sent_by c h (full _ _ _ _ q) = rw q (unsent (Ok (Err sending.Full)) _ refl (counts_anew t _))
      sent_by c h (sent _ a y) = rw (y.answer, holds_send w κ r s c h a.box p k mine opens a.opens) (puts a.box m _ y)

      pub send_flows : let o = slot_send_of w.dispatcher w.rows t r s x in Flows w p k (sentDesk o) [] (into o.answer)
      unfolding slot_send_of if_accepted
      send_flows =
          all_slotted (λ (o : SlotSending). Flows w p k (sentDesk o) [] (into o.answer)) _ _ _ _
          (λ i n _. unsent (Err (send.OutOfRange i n)) t refl (none_anew t)) (λ i _. unsent (Err (send.Vacant i)) t refl (none_anew t))
          (λ c e. sent_by c (get_names w.rows r s c e) (send_ways t c x r σ))

    -- ---- a receiving
    abbrev out : List Message → List Message
    out ms = pick (slot_holds w r s (job_in w p).ends.recv) ms []

    -- nothing was handed out, and the queue is as it was
    unhanded : (u : Channels) (ms : List Message) → ms ≡ [] → Steady t u → queue_of u k ≡ queue_of t k → Flows w p k (with_channels w u) (out ms) []
    unhanded u ms e h q = rw (e, pick_same (slot_holds w r s (job_in w p).ends.recv)) (idle (with_channels w u) refl (h.opening _ _ ∙ opens) q)

    received_by : (c : CapId) → slot_in w.rows r s ≡ holding c → recv.RecvWays t c (recv_of t c) →
        Flows w p k (with_channels w (recv_of t c).table) (out (if_received (Ok (recv_of t c).answer))) []
    unfolding if_received by_receive
    received_by c h (recv.bad_cap _ q) = rw q (unhanded _ _ refl (counts_anew t _).steady ((counts_anew t _).mailboxes k).queue)
    received_by c h (recv.empty _ _ _ q) = rw q (unhanded _ _ refl (steady_same t) refl)
    received_by c h (recv.received j m o a g) = rw (a, holds_recv w κ r s c h j p k mine opens o) (takes j m _ g)

    pub receive_flows : let o = slot_recv_of w.dispatcher w.rows t r s in Flows w p k (receivedDesk o) (out (if_received o.answer)) []
    unfolding slot_recv_of if_received
    receive_flows =
        all_slotted (λ (o : SlotReceiving). Flows w p k (receivedDesk o) (out (if_received o.answer)) []) _ _ _ _
        (λ _ _ _. unhanded t _ refl (steady_same t) refl) (λ _ _. unhanded t _ refl (steady_same t) refl)
        (λ c e. received_by c (get_names w.rows r s c e) (recv.recv_ways t c σ))

    -- ---- a parking
    parked_by : (c : CapId) (task : TaskId) → slot_in w.rows r s ≡ holding c → park.ParkWays t c task (park_of t c task) →
        Flows w p k (with_channels w (park_of t c task).table) (out (if_given (Ok (park_of t c task).answer))) []
    unfolding if_given by_park
    parked_by c task h (park.bad_cap _ q) = rw q (unhanded _ _ refl (counts_anew t _).steady ((counts_anew t _).mailboxes k).queue)
    parked_by c task h (park.given j m o a g) = rw (a, holds_recv w κ r s c h j p k mine opens o) (takes j m _ g)
    parked_by c task h (park.cancelled _ _ _ _ _ q) = rw q (unhanded _ _ refl (steady_same t) refl)
    parked_by c task h (park.busy _ _ _ _ _ q) = rw q (unhanded _ _ refl (counts_anew t _).steady ((counts_anew t _).mailboxes k).queue)
    parked_by c task h (park.parked j _ _ a x) =
        let q = x.queue in
        rw a (unhanded _ _ refl x.rest.steady (⊎_elim (λ e. rw (← e) q) (λ n. (x.rest.others k (λ e. n (sym e))).queue) (same? j k)))

    pub park_flows : (task : TaskId) → let o = slot_park_of w.dispatcher w.rows t r s task in Flows w p k (parkedDesk o) (out (if_given o.answer)) []
    unfolding slot_park_of if_given
    park_flows task =
        all_slotted (λ (o : SlotParking). Flows w p k (parkedDesk o) (out (if_given o.answer)) []) _ _ _ _
        (λ _ _ _. unhanded t _ refl (steady_same t) refl) (λ _ _. unhanded t _ refl (steady_same t) refl)
        (λ c e. parked_by c task (get_names w.rows r s c e) (park.park_ways t c task σ))

  -- ---- every call
  pub call_flows : (c : JobCall) → closes p c ≡ false → Flows w p k (after w c) (handed w p c) (accepted w p c)
  unfolding after handed accepted closes
  call_flows (open_for tag x) e = rw (serves w.dispatcher t κ.ready) (open_flows tag x)
  call_flows (close i) e = rw (serves w.dispatcher t κ.ready) (close_flows i (eqb-false i p e))
  call_flows (send r s x) e = rw (serves w.dispatcher t κ.ready) (send_flows r s x)
  call_flows (receive r s) e = rw (serves w.dispatcher t κ.ready) (receive_flows r s)
  call_flows (park r s task) e = rw (serves w.dispatcher t κ.ready) (park_flows r s task)
