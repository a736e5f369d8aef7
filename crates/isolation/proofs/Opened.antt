-- Every job that is open has its opening in the run: what that opening left, and that no later call closed its place. Assumes nothing.
use Rattle.std.specs.Prelude.{Ok}
use mathlib.Core.Path.{◌≡◌, refl, sym, ap, subst, ◌∙◌}
use mathlib.Core.Bool.{true, false}
use mathlib.Core.List.{List, [], ◌∷◌, ◌++◌, append-nil, append_assoc}
use mathlib.Core.Logic.{◌⊎◌, inl, inr, ⊎_elim}
use Prim.Native.Nat.{ℕ, ◌<◌}
use borrow.Author.Tests.{lt-leb, ne_eqb, eqb-false}
use Rattle.laws.specs.Pick.{pick}
use Rattle.laws.proofs.Bools.{same?, either}
use Rattle.laws.proofs.Cases.{not_both}
use Rattle.laws.proofs.Search.{lowest_at}
use Rattle.cap.specs.Rights.{send_right}
use Rattle.cap.specs.Slot.{holding}
use Rattle.cap.specs.declared.CapId.{CapId}
use Rattle.capslots.specs.Table.{slot_in}
use Rattle.capslots.specs.declared.Table.{Table as Rows}
use Rattle.ipc_rules.specs.Opening.{opening_of}
use Rattle.ipc_rules.specs.Create.{create_of}
use Rattle.ipc_rules.specs.Views.{queue_of}
use Rattle.ipc_rules.specs.declared.opening.Opening.TheVariants.{Opens}
use Rattle.ipc_rules.specs.declared.state.Channel.{Channel}
use Rattle.ipc_rules.specs.declared.state.Payload.{Payload}
use Rattle.ipc_rules.specs.declared.state.TaskId.{TaskId}
use Rattle.dispatcher_rules.specs.Answers.{open_number}
use Rattle.dispatcher_rules.specs.State.{job_at, row_of, no_job, open_job}
use Rattle.dispatcher_rules.specs.Open.{open_job_of}
use Rattle.dispatcher_rules.specs.Close.{job_closed, close_job_of}
use Rattle.dispatcher_rules.specs.Slots.{slot_send_of, slot_recv_of, slot_park_of}
use Rattle.dispatcher_rules.specs.declared.state.Desk.{Desk}
use Rattle.dispatcher_rules.specs.declared.state.Job.{Job}
use Rattle.dispatcher_rules.specs.declared.state.Tag.{Tag}
use Rattle.dispatcher_rules.specs.declared.answers.JobOpening.{JobOpening}
use Rattle.dispatcher_rules.specs.declared.answers.JobClosing.{JobClosing}
use Rattle.dispatcher_rules.specs.declared.answers.OpenedJob.{OpenedJob}
use Rattle.dispatcher_rules.specs.declared.answers.SlotSending.{SlotSending}
use Rattle.dispatcher_rules.specs.declared.answers.SlotReceiving.{SlotReceiving}
use Rattle.dispatcher_rules.specs.declared.answers.SlotParking.{SlotParking}
use Rattle.dispatcher_rules.proofs.Ways.{open_ways, close_ways, all_slotted}
use Rattle.isolation.specs.Runs.{JobCall, open_for, close, send, receive, park, opening, opened, after, run}
use Rattle.isolation.specs.Jobs.{job_in, OpenIn, closes, none, JobOf}
use Rattle.isolation.proofs.Added.{channel_added}
use Rattle.isolation.proofs.Along.{run_more, spares_more}
use Rattle.isolation.proofs.Flows.{call_flows}
use Rattle.isolation.proofs.Ids.{unlike}
use Rattle.isolation.proofs.Kept.{Kept}
use Rattle.isolation.proofs.KeptOpen.{both_given_lem, send_there, stand_still}
use Rattle.isolation.proofs.Places.{other_job, new_job, open_inside}
use Rattle.isolation.proofs.Reaches.{serves, after_kept}
use Rattle.isolation.proofs.Slots.{still_standing}

-- an opening took place p, with these ids
pub record Took (w : Desk) (tag : Tag) (x p : ℕ) : Type 0 where
  pub send : CapId
  pub recv : CapId
  pub answer : (opening w tag x).answer ≡ Ok (record { place = p; send = send; recv = recv })

-- what became of place p, in which a job is open after the call: it was opened by it, or it is as it was and the call does not close it
pub data Since (w : Desk) (p : ℕ) : JobCall → Type 0 where
  by_it : {tag : Tag} {x : ℕ} → Took w tag x p → Since w p (open_for tag x)
  before : {c : JobCall} → OpenIn w p → closes p c ≡ false → Since w p c

module _ (w : Desk) (κ : Kept w) (p : ℕ) where
  opens_or_stays : (tag : Tag) (x : ℕ) → OpenIn (after w (open_for tag x)) p → Since w p (open_for tag x)
  unfolding after closes
  opens_or_stays tag x = by (open_job_of w.dispatcher w.rows w.channels tag x) (serves w.dispatcher w.channels κ.ready _ _)
      (open_ways w.dispatcher w.rows w.channels Says tag x (λ _ _ o. inr o)
      (λ v i ends s q f o. ⊎_elim (λ e. inl (ends, (rw e))) (λ n. inr (sym (ap (λ (j : Job). j.«open») (other_job w.dispatcher i (open_job ends tag) p n)) ∙ o)) (same? p i)))
    where
      Says : JobOpening → Type 0
      Says o = (job_at o.dispatcher p).«open» ≡ true → ((ends : Channel) × (o.answer ≡ Ok (record { place = p; send = ends.send; recv = ends.recv }))) ⊎ OpenIn w p

      by : (o : JobOpening) → opening w tag x ≡ o → Says o → OpenIn (opened (opening w tag x)) p → Since w p (open_for tag x)
      by o e h a = ⊎_elim (λ y. by_it (record { send = y.0.send; recv = y.0.recv; answer = ap (λ (z : JobOpening). z.answer) e ∙ y.1 }))
          (λ y. before y refl) (h (rw e at a))

  -- nothing is open in a place that a closing was called for
  pub close_done : p < 16 → OpenIn w p → close_job_of w.dispatcher w.rows w.channels p ≡ job_closed w.dispatcher w.rows w.channels p (job_in w p)
  unfolding close_job_of pick
  close_done l o = rw (lt-leb 16 p l, o)

  closed_free : (job_at (close_job_of w.dispatcher w.rows w.channels p).dispatcher p).«open» ≡ false
  closed_free = ⊎_elim
      (λ o. let l = open_inside w.dispatcher p κ.places o in rw (close_done l o, new_job w.dispatcher p no_job κ.places l))
      (λ n. close_ways w.dispatcher w.rows w.channels (λ (o : JobClosing). (job_at o.dispatcher p).«open» ≡ false) p n (λ _ o. absurd (not_both _ o n)))
      (either (job_in w p).«open»)

  was_open : (i : ℕ) → (i ≡ p → ⊥) → (job_at (close_job_of w.dispatcher w.rows w.channels i).dispatcher p).«open» ≡ true → OpenIn w p
  was_open i n =
      close_ways w.dispatcher w.rows w.channels (λ (o : JobClosing). (job_at o.dispatcher p).«open» ≡ true → OpenIn w p) i (λ o. o)
      (λ _ _ o. sym (ap (λ (j : Job). j.«open») (other_job w.dispatcher i no_job p (λ e. n (sym e)))) ∙ o)

  closes_or_stays : (i : ℕ) → OpenIn (after w (close i)) p → Since w p (close i)
  unfolding after closes
  closes_or_stays i a =
      let o : (job_at (close_job_of w.dispatcher w.rows w.channels i).dispatcher p).«open» ≡ true = rw (serves w.dispatcher w.channels κ.ready) at a in
      ⊎_elim (λ e. absurd (not_both _ (rw e at o) closed_free)) (λ n. before (was_open i n o) (ne_eqb i p n)) (same? i p)

  -- messages by row and slot leave the dispatcher
  stays : (r s : ℕ) (x : Payload) → (slot_send_of w.dispatcher w.rows w.channels r s x).dispatcher ≡ w.dispatcher
  unfolding slot_send_of
  stays r s x = all_slotted (λ (o : SlotSending). o.dispatcher ≡ w.dispatcher) _ _ _ _ (λ _ _ _. refl) (λ _ _. refl) (λ _ _. refl)

  stays_receiving : (r s : ℕ) → (slot_recv_of w.dispatcher w.rows w.channels r s).dispatcher ≡ w.dispatcher
  unfolding slot_recv_of
  stays_receiving r s = all_slotted (λ (o : SlotReceiving). o.dispatcher ≡ w.dispatcher) _ _ _ _ (λ _ _ _. refl) (λ _ _. refl) (λ _ _. refl)

  stays_parking : (r s : ℕ) (task : TaskId) → (slot_park_of w.dispatcher w.rows w.channels r s task).dispatcher ≡ w.dispatcher
  unfolding slot_park_of
  stays_parking r s task = all_slotted (λ (o : SlotParking). o.dispatcher ≡ w.dispatcher) _ _ _ _ (λ _ _ _. refl) (λ _ _. refl) (λ _ _. refl)

  since_call : (c : JobCall) → OpenIn (after w c) p → Since w p c
  unfolding after closes
  since_call (open_for tag x) o = opens_or_stays tag x o
  since_call (close i) o = closes_or_stays i o
  since_call (send r s x) o = before (rw (serves w.dispatcher w.channels κ.ready, stays r s x) at o) refl
  since_call (receive r s) o = before (rw (serves w.dispatcher w.channels κ.ready, stays_receiving r s) at o) refl
  since_call (park r s task) o = before (rw (serves w.dispatcher w.channels κ.ready, stays_parking r s task) at o) refl

-- ---- the desk as the opening left it: the job in its place, nothing waiting in its channel, its send id in the extractor's row
pub record Begins (tag : Tag) (x p : ℕ) (ends : Channel) (v : Desk) : Type 0 where
  pub job : job_in v p ≡ open_job ends tag
  pub box : ℕ
  pub opens : opening_of v.channels ends.send send_right ≡ Opens box
  pub empty : queue_of v.channels box ≡ []
  pub slot : ℕ
  pub sender : slot_in v.rows x slot ≡ holding ends.send

module _ (w : Desk) (κ : Kept w) (tag : Tag) (x p : ℕ) (a b : CapId) where
  abbrev new : OpenedJob
  new = record { place = p; send = a; recv = b }

  Says : JobOpening → Type 0
  Says o = o.answer ≡ Ok new → Begins tag x p (record { send = a; recv = b }) (opened o)

  begins_so : Says (open_job_of w.dispatcher w.rows w.channels tag x)
  unfolding Says
  begins_so =
      open_ways w.dispatcher w.rows w.channels Says tag x (λ _ n h. absurd (n (ap open_number h)))
      (λ v i ends s q f h.
      let t = w.channels in
      let g = both_given_lem (create_of t true).table w.rows ends x s (row_of w.dispatcher v) q f.first f.second in
      let n = channel_added t ends κ.ready.sound f.created in
      let l = (lowest_at (λ y. (job_at w.dispatcher y).«open») 0 16 i f.place).below in
      let same : ◌≡◌ {A = OpenedJob} (record { place = i; send = ends.send; recv = ends.recv }) new = cc in
      let here : i ≡ p = ap (λ (y : OpenedJob). y.place) same in
      let these : ends ≡ record { send = a; recv = b } = ap (λ (y : OpenedJob). let e : Channel = record { send = y.send; recv = y.recv } in e) same in
      rw (g.1, ← here, ← these) (record { job = new_job w.dispatcher i (open_job ends tag) κ.places l; box = n.box; opens = n.is.channel.sends; empty = n.is.queue; slot = s; sender = send_there w.rows κ.shape ends x s (row_of w.dispatcher v) q f.first g.0 }))

  pub begins : (opening w tag x).answer ≡ Ok new → Begins tag x p (record { send = a; recv = b }) (after w (open_for tag x))
  unfolding after Says
  begins e = rw (serves w.dispatcher w.channels κ.ready) (begins_so (rw (serves w.dispatcher w.channels κ.ready) at e))

-- ---- the send id of an open job stays where it stands, as long as its place is not closed
module _ (w : Desk) (κ : Kept w) (p : ℕ) (mine : OpenIn w p) (r s : ℕ) (h : slot_in w.rows r s ≡ holding (job_in w p).ends.send) where
  Stays : Rows → Type 0
  Stays rows = slot_in rows r s ≡ holding (job_in w p).ends.send

  open_stays : (tag : Tag) (x : ℕ) → Stays (open_job_of w.dispatcher w.rows w.channels tag x).rows
  unfolding Stays
  open_stays tag x =
      open_ways w.dispatcher w.rows w.channels (λ (o : JobOpening). Stays o.rows) tag x (λ _ _. h)
      (λ v i ends a q f.
      let g = both_given_lem (create_of w.channels true).table w.rows ends x a (row_of w.dispatcher v) q f.first f.second in
      rw g.1 (stand_still w.rows κ.shape ends x a (row_of w.dispatcher v) q f.first g.0 r s _ h))

  close_stays : (i : ℕ) → (i ≡ p → ⊥) → Stays (close_job_of w.dispatcher w.rows w.channels i).rows
  unfolding Stays
  close_stays i ne =
      close_ways w.dispatcher w.rows w.channels (λ (o : JobClosing). Stays o.rows) i h
      (λ l o.
      let a = κ.own p mine in
      let b = κ.own i o in
      still_standing w.rows _ _ r s _ h
      (λ e. ne (sym (κ.apart p i mine o b.box (ap (λ (c : CapId). opening_of w.channels c send_right) e ∙ b.channel.sends) b.channel.sends)))
      (unlike w.channels _ _ send_right _ a.channel.sends b.channel.receives_only))

  pub slot_stays : (c : JobCall) → closes p c ≡ false → slot_in (after w c).rows r s ≡ holding (job_in w p).ends.send
  unfolding after closes Stays slot_send_of slot_recv_of slot_park_of
  slot_stays (open_for tag x) e = rw (serves w.dispatcher w.channels κ.ready) (open_stays tag x)
  slot_stays (close i) e = rw (serves w.dispatcher w.channels κ.ready) (close_stays i (eqb-false i p e))
  slot_stays (send a b x) e =
      rw (serves w.dispatcher w.channels κ.ready) (all_slotted (λ (o : SlotSending). Stays o.rows) _ _ _ _ (λ _ _ _. h) (λ _ _. h) (λ _ _. h))
  slot_stays (receive a b) e =
      rw (serves w.dispatcher w.channels κ.ready) (all_slotted (λ (o : SlotReceiving). Stays o.rows) _ _ _ _ (λ _ _ _. h) (λ _ _. h) (λ _ _. h))
  slot_stays (park a b task) e =
      rw (serves w.dispatcher w.channels κ.ready) (all_slotted (λ (o : SlotParking). Stays o.rows) _ _ _ _ (λ _ _ _. h) (λ _ _. h) (λ _ _. h))

-- ---- each open job's opening, in the calls that came to the desk
-- the jobs that are open after the calls cs from w, of which each call is kept
AllOpened : Desk → List JobCall → Type 0
AllOpened w cs = (p : ℕ) → OpenIn (run w cs) p → JobOf w cs p

module _ (w : Desk) (cs : List JobCall) (κ : Kept (run w cs)) (was : AllOpened w cs) where
  abbrev v : Desk
  v = run w cs

  still_sends : (p : ℕ) (o : OpenIn v p) (x a : ℕ) (id : CapId) → (job_in v p).ends.send ≡ id → slot_in v.rows x a ≡ holding id →
      (c : JobCall) → closes p c ≡ false → slot_in (after v c).rows x a ≡ holding id
  still_sends p o x a id i h c e = slot_stays v κ p o x a (h ∙ ap holding (sym i)) c e ∙ ap holding i

  -- a call more: it opened the job, or left it as it was
  by_call : (p : ℕ) (c : JobCall) → Since v p c → JobOf w (cs ++ (c ∷ [])) p
  unfolding AllOpened
  by_call p (open_for tag x) (by_it t) =
      record {
        earlier = cs;
        tag = tag;
        extractor = x;
        later = [];
        split = refl;
        send = t.send;
        recv = t.recv;
        opened = t.answer;
        unclosed = none;
        stands = rw (run_more w cs (open_for tag x)) (begins v κ tag x p t.send t.recv t.answer).job;
        slot = (begins v κ tag x p t.send t.recv t.answer).slot;
        sender = rw (run_more w cs (open_for tag x)) (begins v κ tag x p t.send t.recv t.answer).sender;
      }
  by_call p c (before o e) =
      let j = was p o in
      record {
        earlier = j.earlier;
        tag = j.tag;
        extractor = j.extractor;
        later = j.later ++ (c ∷ []);
        split = ap (λ (l : List JobCall). l ++ (c ∷ [])) j.split ∙ append_assoc j.earlier (open_for j.tag j.extractor ∷ j.later) (c ∷ []);
        send = j.send;
        recv = j.recv;
        opened = j.opened;
        unclosed = spares_more p j.unclosed c e;
        stands = rw (run_more w cs c) ((call_flows v κ p (κ.own p o).box o (κ.own p o).channel.sends c e).job ∙ j.stands);
        slot = j.slot;
        sender = rw (run_more w cs c) (still_sends p o j.extractor j.slot j.send (ap (λ (b : Job). b.ends.send) j.stands) j.sender c e);
      }

  one_more : (c : JobCall) → AllOpened w (cs ++ (c ∷ []))
  unfolding AllOpened
  one_more c p o = by_call p c (since_call v κ p c (rw (run_more w cs c) at o))

more_kept : (w : Desk) (cs : List JobCall) (c : JobCall) → Kept (run w cs) → Kept (run w (cs ++ (c ∷ [])))
more_kept w cs c κ = subst Kept (sym (run_more w cs c)) (after_kept (run w cs) κ c)

-- from the calls cs, over the calls ds
all_more : (w : Desk) (cs ds : List JobCall) → Kept (run w cs) → AllOpened w cs → AllOpened w (cs ++ ds)
all_more w cs [] κ was = subst (AllOpened w) (sym (append-nil cs)) was
all_more w cs (c ∷ ds) κ was =
    subst (AllOpened w) (append_assoc cs (c ∷ []) ds) (all_more w (cs ++ (c ∷ [])) ds (more_kept w cs c κ) (one_more w cs κ was c))

pub each_opened : (w : Desk) → Kept w → ((p : ℕ) → (job_in w p).«open» ≡ false) → (cs : List JobCall) (p : ℕ) → OpenIn (run w cs) p → JobOf w cs p
unfolding run AllOpened
each_opened w κ free cs = all_more w [] cs κ (λ p o. absurd (not_both _ o (free p)))
