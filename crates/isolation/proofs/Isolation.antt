-- The customer's sentence: a message is handed out only to the row that its job's tag is bound to. Assumes nothing.
use Rattle.std.specs.Prelude.{Ok}
use mathlib.Core.Path.{◌≡◌, refl, sym, ap, subst, ◌∙◌}
use mathlib.Core.Bool.{true, false}
use mathlib.Core.List.Memᴰ
use mathlib.Core.List.{List, [], ◌∷◌, ◌++◌, Memᴰ}
use Prim.Native.Nat.{ℕ}
use native.Mathlib.Omega.{arith}
use borrow.Author.Tests.{eqb-true}
use lib.Dec.{eqb}
use lib.ListN.{length}
use Rattle.laws.specs.Pick.{pick}
use Rattle.laws.proofs.Cases.{all_pick}
use Rattle.cap.specs.Rights.{send_right, receive_right}
use Rattle.cap.specs.Slot.{holding}
use Rattle.cap.specs.declared.CapId.{CapId}
use Rattle.capslots.specs.Table.{slot_in}
use Rattle.capslots.specs.Rows.{names_id}
use Rattle.ipc_rules.specs.Opening.{opening_of}
use Rattle.ipc_rules.specs.Receive.{recv_of, park_of}
use Rattle.ipc_rules.specs.Views.{queue_of}
use Rattle.ipc_rules.specs.declared.opening.Opening.TheVariants.{Opens}
use Rattle.ipc_rules.specs.declared.state.Message.{Message}
use Rattle.ipc_rules.specs.declared.state.TaskId.{TaskId}
use Rattle.ipc_rules.proofs.AfterReceive as recv
use Rattle.ipc_rules.proofs.AfterPark as park
use Rattle.history.specs.Traffic.{by_receive, by_park}
use Rattle.dispatcher_rules.specs.Slots.{slot_recv_of, slot_park_of}
use Rattle.dispatcher_rules.specs.declared.state.Desk.{Desk}
use Rattle.dispatcher_rules.specs.declared.state.Job.{Job}
use Rattle.dispatcher_rules.specs.declared.state.Tag.{Tag}
use Rattle.dispatcher_rules.specs.declared.answers.SlotReceiving.{SlotReceiving}
use Rattle.dispatcher_rules.specs.declared.answers.SlotParking.{SlotParking}
use Rattle.dispatcher_rules.proofs.Promises.{made_closed}
use Rattle.dispatcher_rules.proofs.Ways.{all_slotted}
use Rattle.isolation.specs.Runs.{JobCall, open_for, close, send, receive, park, receiving, parking, run, start}
use Rattle.isolation.specs.Jobs.{job_in, BoundTo, slot_holds, if_received, if_given, handed, handed_to, all_accepted, all_handed, JobOf, since}
use Rattle.isolation.specs.Isolation.{FromItsJob, Isolation}
use Rattle.isolation.proofs.Along.{along, run_from}
use Rattle.isolation.proofs.Flows.{Flows}
use Rattle.isolation.proofs.Ids.{one_box}
use Rattle.isolation.proofs.Kept.{Kept}
use Rattle.isolation.proofs.Opened.{each_opened, Begins, begins}
use Rattle.isolation.proofs.Reaches.{serves, start_kept, after_kept, run_kept}
use Rattle.isolation.proofs.Bindings.{bound_first}
use Rattle.isolation.proofs.Slots.{get_names, names_itself}
use Rattle.isolation.proofs.Whose.{ReceivesFor, receives_for}
use Rattle.isolation.proofs.Written.{all_written}

-- slot s of row r holds an id that opens a mailbox for receive, where m is the oldest
pub record Hands (w : Desk) (r s : ℕ) (m : Message) : Type 0 where
  pub id : CapId
  pub there : slot_in w.rows r s ≡ holding id
  pub box : ℕ
  pub opens : opening_of w.channels id receive_right ≡ Opens box
  pub rest : List Message
  pub queue : queue_of w.channels box ≡ m ∷ rest

none_one : {A : Type 0} {m : Message} → [] ≡ m ∷ [] → A
none_one e = let z = ap (length {A = Message}) e in absurd (omega arith)

first_same : {a b : Message} → a ∷ [] ≡ b ∷ [] → a ≡ b
first_same e = cc

module _ (w : Desk) (κ : Kept w) (r s : ℕ) (m : Message) where
  received_hands : if_received (slot_recv_of w.dispatcher w.rows w.channels r s).answer ≡ m ∷ [] → Hands w r s m
  unfolding slot_recv_of if_received by_receive
  received_hands =
      all_slotted (λ (o : SlotReceiving). if_received o.answer ≡ m ∷ [] → Hands w r s m) _ _ _ _ (λ _ _ _ e. none_one e) (λ _ _ e. none_one e)
      (λ c g. by c (get_names w.rows r s c g) (recv.recv_ways w.channels c κ.ready.sound))
    where
      by : (c : CapId) → slot_in w.rows r s ≡ holding c → recv.RecvWays w.channels c (recv_of w.channels c) →
          if_received (Ok (recv_of w.channels c).answer) ≡ m ∷ [] → Hands w r s m
      by c h (recv.bad_cap _ q) e = none_one (rw q at e)
      by c h (recv.empty _ _ _ q) e = none_one (rw q at e)
      by c h (recv.received k n o a g) e =
          let f : n ≡ m = first_same (rw a at e) in
          record { id = c; there = h; box = k; opens = o; rest = _; queue = g.queue ∙ ap (λ (x : Message). x ∷ queue_of (recv_of w.channels c).table k) f }

  given_hands : (task : TaskId) → if_given (slot_park_of w.dispatcher w.rows w.channels r s task).answer ≡ m ∷ [] → Hands w r s m
  unfolding slot_park_of if_given by_park
  given_hands task =
      all_slotted (λ (o : SlotParking). if_given o.answer ≡ m ∷ [] → Hands w r s m) _ _ _ _ (λ _ _ _ e. none_one e) (λ _ _ e. none_one e)
      (λ c g. by c (get_names w.rows r s c g) (park.park_ways w.channels c task κ.ready.sound))
    where
      by : (c : CapId) → slot_in w.rows r s ≡ holding c → park.ParkWays w.channels c task (park_of w.channels c task) →
          if_given (Ok (park_of w.channels c task).answer) ≡ m ∷ [] → Hands w r s m
      by c h (park.bad_cap _ q) e = none_one (rw q at e)
      by c h (park.given k n o a g) e =
          let f : n ≡ m = first_same (rw a at e) in
          record { id = c; there = h; box = k; opens = o; rest = _; queue = g.queue ∙ ap (λ (x : Message). x ∷ queue_of (park_of w.channels c task).table k) f }
      by c h (park.cancelled _ _ _ _ _ q) e = none_one (rw q at e)
      by c h (park.busy _ _ _ _ _ q) e = none_one (rw q at e)
      by c h (park.parked _ _ _ a _) e = none_one (rw a at e)

-- ---- and so the call hands m out from the job whose id that is
module _ (w : Desk) (κ₀ : Kept w) (free : (p : ℕ) → (job_in w p).«open» ≡ false) (cs : List JobCall) (r s : ℕ) (m : Message) (h : Hands (run w cs) r s m) where
  abbrev v : Desk
  v = run w cs

  κ : Kept v
  κ = run_kept w κ₀ cs

  whose : ReceivesFor v r h.id
  whose = receives_for v κ r s h.id h.there h.box h.opens

  abbrev p : ℕ
  p = whose.place

  job : JobOf w cs p
  job = each_opened w κ₀ free cs p whose.open_there

  κ₁ : Kept (run w job.earlier)
  κ₁ = run_kept w κ₀ job.earlier

  began : Begins job.tag job.extractor p (record { send = job.send; recv = job.recv }) (since job)
  began = begins (run w job.earlier) κ₁ job.tag job.extractor p job.send job.recv job.opened

  held : slot_holds v r s (job_in v p).ends.recv ≡ true
  held = ap (names_id (job_in v p).ends.recv) (h.there ∙ ap holding whose.is) ∙ names_itself (job_in v p).ends.recv

  -- from its opening on
  flowed : Flows (since job) p began.box (run (since job) job.later) (all_handed (since job) p job.later) (all_accepted (since job) p job.later)
  flowed =
      along (since job) (after_kept (run w job.earlier) κ₁ (open_for job.tag job.extractor)) p began.box
      (rw began.job) (rw began.job began.opens) job.unclosed

  comes : v ≡ run (since job) job.later
  comes = ap (run w) job.split ∙ run_from w job.earlier (open_for job.tag job.extractor) job.later

  its_box : h.box ≡ began.box
  its_box =
      let n = κ.own p whose.open_there in
      one_box v.channels h.id (job_in v p).ends.recv receive_right h.box n.box whose.is h.opens n.channel.receives
      ∙ one_box v.channels (job_in v p).ends.send (job_in (since job) p).ends.send send_right n.box began.box (ap (λ (j : Job). j.ends.send) (job.stands ∙ sym began.job)) n.channel.sends
      (ap (λ (x : Desk). opening_of x.channels (job_in (since job) p).ends.send send_right) comes ∙ flowed.opens)

  waits : queue_of (run (since job) job.later).channels began.box ≡ m ∷ h.rest
  waits = ap (λ (x : Desk). queue_of x.channels began.box) (sym comes) ∙ ap (queue_of v.channels) (sym its_box) ∙ h.queue

  next : all_accepted (since job) p job.later ≡ all_handed (since job) p job.later ++ (m ∷ h.rest)
  next =
      sym (ap (λ (l : List Message). l ++ all_accepted (since job) p job.later) began.empty)
      ∙ sym flowed.order
      ∙ ap (λ (l : List Message). all_handed (since job) p job.later ++ l) waits

  -- the id that it was accepted by stands in the extractor's row
  written : m.row ≡ job.extractor
  written =
      all_written (since job) (after_kept (run w job.earlier) κ₁ (open_for job.tag job.extractor)) p
      (rw began.job) job.extractor began.slot (rw began.job began.sender) job.unclosed m
      (subst (Memᴰ m) (sym next) (Memᴰ.append_right (all_handed (since job) p job.later) (Memᴰ.head refl)))

  from_it : (call : JobCall) → handed v p call ≡ m ∷ [] → FromItsJob w cs call r m
  from_it call e =
      record {
        place = p;
        job = job;
        bound = bound_first w cs job.tag r (subst (λ (g : Tag). BoundTo v.dispatcher g r) (ap (λ (j : Job). j.tag) job.stands) whose.bound);
        from = e;
        rest = h.rest;
        next = next;
        writer = written;
      }

-- ---- the theorem
module _ (w : Desk) (κ₀ : Kept w) (free : (p : ℕ) → (job_in w p).«open» ≡ false) (cs : List JobCall) (r s : ℕ) (m : Message) where
  abbrev u : Desk
  u = run w cs

  by_receive_lem : if_received (receiving u r s).answer ≡ m ∷ [] → FromItsJob w cs (receive r s) r m
  unfolding handed pick
  by_receive_lem e =
      let κ = run_kept w κ₀ cs in
      let h = received_hands u κ r s m (rw (serves u.dispatcher u.channels κ.ready) at e) in
      from_it w κ₀ free cs r s m h (receive r s) (rw (held w κ₀ free cs r s m h) e)

  by_park_lem : (task : TaskId) → if_given (parking u r s task).answer ≡ m ∷ [] → FromItsJob w cs (park r s task) r m
  unfolding handed pick
  by_park_lem task e =
      let κ = run_kept w κ₀ cs in
      let h = given_hands u κ r s m task (rw (serves u.dispatcher u.channels κ.ready) at e) in
      from_it w κ₀ free cs r s m h (park r s task) (rw (held w κ₀ free cs r s m h) e)

isolated : (w : Desk) → Kept w → ((p : ℕ) → (job_in w p).«open» ≡ false) → (cs : List JobCall) (call : JobCall) (r : ℕ) (m : Message) →
    handed_to (run w cs) r call ≡ m ∷ [] → FromItsJob w cs call r m
unfolding handed_to
isolated w κ₀ free cs (open_for tag x) r m = λ e. none_one e
isolated w κ₀ free cs (close i) r m = λ e. none_one e
isolated w κ₀ free cs (send r' s x) r m = λ e. none_one e
isolated w κ₀ free cs (receive r' s) r m =
    all_pick (λ (l : List Message). l ≡ m ∷ [] → FromItsJob w cs (receive r' s) r m) (eqb r' r) _ _ (λ i e. rw (← eqb-true r' r i) (by_receive_lem w κ₀ free cs r' s m e)) (λ _ e. none_one e)
isolated w κ₀ free cs (park r' s task) r m =
    all_pick (λ (l : List Message). l ≡ m ∷ [] → FromItsJob w cs (park r' s task) r m) (eqb r' r) _ _ (λ i e. rw (← eqb-true r' r i) (by_park_lem w κ₀ free cs r' s m task e)) (λ _ e. none_one e)

pub isolation : Isolation
isolation z i n vs made cs = isolated (start z n vs) (start_kept z i n vs made) (made_closed n vs) cs
