-- Dispatcher calls are runs of the channel table's calls, and answer as these do. Assumes nothing.
use Rattle.std.specs.Prelude.{Err, Ok, Result}
use mathlib.Core.Path.{◌≡◌, refl, sym, ap, ◌∙◌}
use mathlib.Core.Bool.{true}
use mathlib.Core.List.{List, [], ◌∷◌}
use Prim.Native.Nat.{ℕ}
use Rattle.cap.specs.Slot.{holding}
use Rattle.cap.specs.declared.CapId.{CapId}
use Rattle.cap.specs.declared.slot.SlotError.TheVariants.{OutOfRange, Vacant}
use Rattle.capslots.specs.Rows.{get_of}
use Rattle.ipc_rules.specs.Create.{create_of}
use Rattle.ipc_rules.specs.Holds.{registered}
use Rattle.ipc_rules.specs.Opening.{opened as onOpening}
use Rattle.ipc_rules.specs.Revoke.{revoke_of}
use Rattle.ipc_rules.specs.declared.state.Table.{Table as Channels}
use Rattle.history.specs.Calls as calls
use Rattle.history.specs.Joined.{registering}
use Rattle.history.specs.World as world
use Rattle.history.proofs.Kept.{step_table, run_on, reached_run}
use Rattle.history.proofs.Joined.{id_registered}
use Rattle.joined.specs.declared.answers.Giving.{Giving}
use Rattle.dispatcher_rules.specs.Answers.{open_number}
use Rattle.dispatcher_rules.specs.State.{row_of}
use Rattle.dispatcher_rules.specs.Open.{open_job_of}
use Rattle.dispatcher_rules.specs.Close.{close_job_of}
use Rattle.dispatcher_rules.specs.Slots.{slotted, slot_send_of, slot_recv_of, slot_park_of}
use Rattle.dispatcher_rules.specs.declared.state.Desk.{Desk}
use Rattle.dispatcher_rules.specs.declared.state.Tag.{Tag}
use Rattle.dispatcher_rules.specs.declared.answers.JobOpening.{JobOpening}
use Rattle.dispatcher_rules.specs.declared.answers.JobClosing.{JobClosing}
use Rattle.dispatcher_rules.specs.declared.answers.Ending.{Ending}
use Rattle.dispatcher_rules.specs.declared.answers.SlotSending.{SlotSending}
use Rattle.dispatcher_rules.specs.declared.answers.SlotReceiving.{SlotReceiving}
use Rattle.dispatcher_rules.specs.declared.answers.SlotParking.{SlotParking}
use Rattle.dispatcher_rules.specs.declared.answers.OpenError.TheVariants as opening
use Rattle.dispatcher_rules.proofs.Ways.{open_ways, close_ways}
use Rattle.isolation.specs.Runs.{JobCall, open_for, close, send, receive, park, after, run, start}
use Rattle.isolation.specs.Jobs.{job_in}
use Rattle.isolation.specs.AsCalls.{open_calls, close_calls, slot_calls, calls_of, all_calls, JobsRun}
use Rattle.isolation.proofs.Added.{channel_made}
use Rattle.isolation.proofs.Ended.{end_is}
use Rattle.isolation.proofs.Kept.{Kept}
use Rattle.isolation.proofs.KeptOpen.{both_given_lem}
use Rattle.isolation.proofs.Reaches.{serves, after_kept, start_kept}
use Rattle.cap.specs.declared.slot.SlotError.{SlotError}
use Rattle.dispatcher_rules.specs.declared.answers.OpenedJob.{OpenedJob}
use Rattle.dispatcher_rules.specs.declared.answers.OpenError.{OpenError}

no_calls : (a : Result OpenedJob OpenError) → (open_number a ≡ 0 → ⊥) → open_calls a ≡ []
unfolding open_calls
no_calls (Ok j) n = absurd (n refl)
no_calls (Err opening.NoVariant) n = refl
no_calls (Err opening.BadRow) n = refl
no_calls (Err opening.JobsFull) n = refl
no_calls (Err opening.NoMailbox) n = refl
no_calls (Err opening.NoEndpoint) n = refl
no_calls (Err opening.BadSlot) n = refl
no_calls (Err opening.BadTable) n = refl

-- ---- the world beside the desk
module _ (v : world.World) (reached : world.Reached v) where
  -- a creation and two registers
  three : (a b : CapId) → (world.run v (calls.create true ∷ registering a ∷ registering b ∷ [])).table ≡ registered (registered (create_of v.table true).table (holding a)) (holding b)
  unfolding world.run calls.after
  three a b =
      let x = world.step v (calls.create true) in
      let p = world.then reached (calls.create true) in
      let y = world.step x (registering a) in
      let q = world.then p (registering a) in
      step_table y (registering b) ∙ id_registered y q b
      ∙ ap (λ (t : Channels). registered t (holding b)) (step_table x (registering a) ∙ id_registered x p a)
      ∙ ap (λ (t : Channels). registered (registered t (holding a)) (holding b)) (step_table v (calls.create true))

  -- the calls by a slot: none, or one
  by_slot : {A : Type 0} (t : Channels) → v.table ≡ t → (a : Result CapId SlotError) (call : CapId → calls.Call) (left : A → Channels) (out : ℕ → ℕ → A) (vacant : ℕ → A) (named : CapId → A) →
      ((i n : ℕ) → left (out i n) ≡ t) → ((i : ℕ) → left (vacant i) ≡ t) → ((c : CapId) → left (named c) ≡ calls.after t (call c)) →
      (world.run v (slotted a (λ _ _. []) (λ _. []) (λ c. call c ∷ []))).table ≡ left (slotted a out vacant named)
  unfolding slotted world.run
  by_slot t e (Err (OutOfRange i n)) call left out vacant named x y z = e ∙ sym (x i n)
  by_slot t e (Err (Vacant i)) call left out vacant named x y z = e ∙ sym (y i)
  by_slot t e (Ok c) call left out vacant named x y z = step_table v (call c) ∙ ap (λ (u : Channels). calls.after u (call c)) e ∙ sym (z c)

  module _ (w : Desk) (κ : Kept w) (e : v.table ≡ w.channels) where
    abbrev t : Channels
    t = w.channels

    opens_run : (tag : Tag) (x : ℕ) → let o = open_job_of w.dispatcher w.rows t tag x in (world.run v (open_calls o.answer)).table ≡ o.channels
    unfolding world.run open_calls
    opens_run tag x =
        open_ways w.dispatcher w.rows t (λ (o : JobOpening). (world.run v (open_calls o.answer)).table ≡ o.channels) tag x
        (λ a n. rw (no_calls a n) e)
        (λ i p ends s q f.
        let b = both_given_lem (create_of t true).table w.rows ends x s (row_of w.dispatcher i) q f.first f.second in
        three ends.send ends.recv ∙ ap (λ (u : Channels). channel_made u ends) e ∙ sym (ap (λ (g : Giving). g.channels) b.1))

    closes_run : (p : ℕ) → let o = close_job_of w.dispatcher w.rows t p in (world.run v (close_calls t (job_in w p).ends.send o.answer)).table ≡ o.channels
    unfolding world.run close_calls onOpening calls.after
    closes_run p =
        close_ways w.dispatcher w.rows t (λ (o : JobClosing). (world.run v (close_calls t (job_in w p).ends.send o.answer)).table ≡ o.channels) p e
        (λ l o.
        let c = (job_in w p).ends.send in
        let s = (κ.own p o).channel.sends in
        rw s (step_table v (calls.revoke c) ∙ ap (λ (u : Channels). (revoke_of u c).table) e ∙ sym (ap (λ (x : Ending). x.channels) (end_is t c _ s))))

    call_run : (c : JobCall) → (world.run v (calls_of w c)).table ≡ (after w c).channels
    unfolding calls_of after slot_calls slot_send_of slot_recv_of slot_park_of calls.after
    call_run (open_for tag x) = rw (serves w.dispatcher t κ.ready) (opens_run tag x)
    call_run (close p) = rw (serves w.dispatcher t κ.ready) (closes_run p)
    call_run (send r s x) =
        rw (serves w.dispatcher t κ.ready) (by_slot t e (get_of w.rows r s) (λ c. calls.send c x r) (λ (o : SlotSending). o.channels) _ _ _ (λ _ _. refl) (λ _. refl) (λ _. refl))
    call_run (receive r s) =
        rw (serves w.dispatcher t κ.ready) (by_slot t e (get_of w.rows r s) (λ c. calls.receive c) (λ (o : SlotReceiving). o.channels) _ _ _ (λ _ _. refl) (λ _. refl) (λ _. refl))
    call_run (park r s task) =
        rw (serves w.dispatcher t κ.ready) (by_slot t e (get_of w.rows r s) (λ c. calls.park c task) (λ (o : SlotParking). o.channels) _ _ _ (λ _ _. refl) (λ _. refl) (λ _. refl))

-- ---- over a run
all_run : (v : world.World) → world.Reached v → (w : Desk) → Kept w → v.table ≡ w.channels → (cs : List JobCall) → (world.run v (all_calls w cs)).table ≡ (run w cs).channels
unfolding all_calls run world.run
all_run v ρ w κ e [] = e
all_run v ρ w κ e (c ∷ cs) =
    ap (λ (u : world.World). u.table) (run_on v (calls_of w c) (all_calls (after w c) cs))
    ∙ all_run (world.run v (calls_of w c)) (reached_run ρ (calls_of w c)) (after w c) (after_kept w κ c) (call_run v ρ w κ e c) cs

pub jobs_run : JobsRun
jobs_run z i n vs made cs = all_run (world.start z) (world.fresh z i) (start z n vs) (start_kept z i n vs made) refl cs
