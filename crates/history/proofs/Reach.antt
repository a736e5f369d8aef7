-- Where an id opens one channel or nothing, each call with it is answered by that channel's mailbox or refused. Assumes nothing.
use Rattle.std.specs.Prelude.{Err, None, Ok, Option, Result, Some}
use mathlib.Core.Path.{◌≡◌, refl, sym, ap, subst, ◌∙◌}
use mathlib.Core.Bool.{Bool, true, false, ◌&&◌}
use Prim.Native.Nat.{ℕ, zero, suc, ◌<◌}
use native.Mathlib.Omega.{arith}
use borrow.Author.Tests.{eq-eqb, ne_eqb, lt-ltb}
use lib.Dec.{eqb, ltb}
use lib.ListN.{length}
use Rattle.laws.specs.Pick.{pick}
use Rattle.laws.proofs.Cases.{yes, no}
use Rattle.cap.specs.Rights.{send_right, receive_right}
use Rattle.cap.specs.declared.CapId.{CapId}
use Rattle.ipc_rules.specs.State.{mailbox_at, message_in}
use Rattle.ipc_rules.specs.Sound.{Sound}
use Rattle.ipc_rules.specs.Answers.{send_number, send_values, recv_number, recv_values, park_number, park_values, queued_number, queued_values, revoke_number, revoke_values, holders_number, holders_values}
use Rattle.ipc_rules.specs.Counts.{authority_raised, state_raised}
use Rattle.ipc_rules.specs.Opening.{opening_of, either_of, opened}
use Rattle.ipc_rules.specs.Send.{send_of}
use Rattle.ipc_rules.specs.Receive.{recv_of, park_of, other_waits, oldest, taken_from, parked_in}
use Rattle.ipc_rules.specs.Revoke.{revoke_of}
use Rattle.ring.specs.Ring.{ring_from}
use Rattle.ipc_rules.specs.Views.{queue_of, waiter_of, hold_count, ephemeral_of, Alike, OnlyCounts}
use Rattle.ipc_rules.specs.declared.state.Payload.{Payload}
use Rattle.ipc_rules.specs.declared.state.TaskId.{TaskId}
use Rattle.ipc_rules.specs.declared.state.Table.{Table}
use Rattle.ipc_rules.specs.declared.answers.ParkError.TheVariants.{BadCap, Busy, Cancelled}
use Rattle.ipc_rules.specs.declared.opening.Opening.{Opening}
use Rattle.ipc_rules.specs.declared.opening.Opening.TheVariants.{Opens, Shut}
use Rattle.ipc_rules.proofs.Changes.{alike_same, steady_same}
use Rattle.ipc_rules.proofs.Looks.{queued_says, queued_refused, holders_says, holders_refused}
use Rattle.ipc_rules.proofs.AfterCounts.{authority_only}
use Rattle.ipc_rules.proofs.AfterSend as sends
use Rattle.ipc_rules.proofs.AfterReceive as receives
use Rattle.ipc_rules.proofs.AfterPark.{park_others}
use Rattle.ipc_rules.proofs.AfterRevoke as revokes
use Rattle.history.specs.Calls.{send, receive, park, queued, revoke, holders, sent, received, parked, measured, revoked, held, answer, after}
use Rattle.history.specs.World.{World}
use Rattle.history.specs.Reach.{Reaches, nothing, channel, Reach, oldest_of, park_by, send_at, receive_at, park_at, queued_at, revoke_at, holders_at}
use Rattle.history.specs.Ids.{OpensOnly}
use Rattle.history.proofs.Refusals.{rows_refused}
use Rattle.history.proofs.ReachLists.{touch_register, touch_release, alike_register, alike_release}
use Rattle.ipc_rules.specs.declared.state.Waiter.{Waiter}
use Rattle.ipc_rules.specs.declared.answers.SendError.{SendError}
use Rattle.shown.specs.declared.Answered.{Answered}
use Rattle.ipc_rules.specs.declared.state.Message.{Message}
use Rattle.ipc_rules.specs.declared.answers.RecvError.{RecvError}
use Rattle.ipc_rules.specs.declared.answers.ParkError.{ParkError}
use Rattle.ipc_rules.specs.declared.answers.CapError.{CapError}

-- an opening opens one mailbox
one_opens : {o : Opening} {j k : ℕ} → o ≡ Opens j → o ≡ Opens k → j ≡ k
one_opens p q = cc

-- what looks, changes nothing
pub same_counts : (t : Table) → OnlyCounts t t
same_counts t = record { steady = steady_same t; mailboxes = alike_same t }

-- ---- a park's answer
-- the choices of the rule, by the answer alone
park_choice : (a b : Bool) (x y z : Answered (Result (Option Message) ParkError) Table) → (pick {A = Answered (Result (Option Message) ParkError) Table} a x (pick b y z)).answer ≡ pick a x.answer (pick b y.answer z.answer)
unfolding pick
park_choice true b x y z = refl
park_choice false true x y z = refl
park_choice false false x y z = refl

module _ (t : Table) (c : CapId) (task : TaskId) (k : ℕ) where
  abbrev unsaid : Answered (Result (Option Message) ParkError) Table
  unsaid =
      pick (ephemeral_of t k && eqb (hold_count t k) 0) (record { answer = Err Cancelled; table = t })
      (pick (other_waits (waiter_of t k) task) (record { answer = Err Busy; table = state_raised t })
      (record { answer = Ok None; table = parked_in t k task }))

  -- n messages wait
  by_length : (n : ℕ) →
      (pick {A = Answered (Result (Option Message) ParkError) Table} (ltb 0 n) (record { answer = Ok (Some (oldest t k)); table = taken_from t k }) unsaid).answer
      ≡ park_by task (ring_from (message_in t k) t.sizes.depth (mailbox_at t k).ring.tail n) (ephemeral_of t k) (hold_count t k) (waiter_of t k)
  unfolding park_by ring_from pick
  by_length zero = park_choice (ephemeral_of t k && eqb (hold_count t k) 0) (other_waits (waiter_of t k) task) _ _ _
  by_length (suc n) = rw (lt-ltb 0 (suc n) (omega arith))

  park_answers : opening_of t c receive_right ≡ Opens k → (park_of t c task).answer ≡ park_by task (queue_of t k) (ephemeral_of t k) (hold_count t k) (waiter_of t k)
  unfolding park_of queue_of opened
  park_answers o = rw o (by_length (mailbox_at t k).ring.len)

park_shut : (t : Table) (c : CapId) (task : TaskId) → opening_of t c receive_right ≡ Shut → park_of t c task ≡ record { answer = Err BadCap; table = authority_raised t }
unfolding park_of opened
park_shut t c task o = rw o

-- ---- the calls
module _ (w : World) (n : ℕ) (c : CapId) (σ : Sound w.table) (only : OpensOnly w n c) where
  abbrev t : Table
  t = w.table

  reach_send : (p : Payload) (row : ℕ) → row < 54 → Reaches w n (send c p row) (send_at t)
  unfolding answer after
  reach_send p row sender = by (sends.send_ways t c p row σ)
    where
      others : (k : ℕ) → opening_of t c send_right ≡ Opens k → (j : ℕ) → (j ≡ k → ⊥) → Alike t (send_of t c p row).table j
      others k o j ne = sends.send_others t c p row σ j (λ e. ne (one_opens e o))

      by : sends.SendWays t c p row (send_of t c p row) → Reaches w n (send c p row) (send_at t)
      by (sends.bad_row h _) = absurd (omega arith)
      by (sends.bad_cap _ _ q) =
          nothing (ap (λ (r : Answered (Result Waiter SendError) Table). send_number r.answer) q) (ap (λ (r : Answered (Result Waiter SendError) Table). send_values r.answer) q) (subst (λ (r : Answered (Result Waiter SendError) Table). OnlyCounts t r.table) (sym q) (authority_only t))
      by (sends.full _ k o f q) = channel k (only.by send_right k o) (ap sent (yes _ (eq-eqb _ _ f) (ap (λ (r : Answered (Result Waiter SendError) Table). r.answer) q))) (others k o)
      by (sends.sent _ a x) =
          let room : length (queue_of t a.box) ≡ t.sizes.depth → ⊥ = λ e. let l = a.below in omega arith in
          channel a.box (only.by send_right a.box a.opens) (ap sent (no _ (ne_eqb _ _ room) x.answer)) (others a.box a.opens)

  reach_receive : Reaches w n (receive c) (receive_at t)
  unfolding answer after oldest_of
  reach_receive = by (receives.recv_ways t c σ)
    where
      others : (k : ℕ) → opening_of t c receive_right ≡ Opens k → (j : ℕ) → (j ≡ k → ⊥) → Alike t (recv_of t c).table j
      others k o j ne = receives.recv_others t c σ j (λ e. ne (one_opens e o))

      by : receives.RecvWays t c (recv_of t c) → Reaches w n (receive c) (receive_at t)
      by (receives.bad_cap _ q) =
          nothing (ap (λ (r : Answered (Result Message RecvError) Table). recv_number r.answer) q) (ap (λ (r : Answered (Result Message RecvError) Table). recv_values r.answer) q) (subst (λ (r : Answered (Result Message RecvError) Table). OnlyCounts t r.table) (sym q) (authority_only t))
      by (receives.empty k o e q) =
          channel k (only.by receive_right k o) (ap received (ap (λ (r : Answered (Result Message RecvError) Table). r.answer) q ∙ sym (ap oldest_of e))) (others k o)
      by (receives.received k m o a g) = channel k (only.by receive_right k o) (ap received (a ∙ sym (ap oldest_of g.queue))) (others k o)

  reach_park : (task : TaskId) → Reaches w n (park c task) (park_at t task)
  unfolding answer after
  reach_park task = by (opening_of t c receive_right) refl
    where
      by : (o : Opening) → opening_of t c receive_right ≡ o → Reaches w n (park c task) (park_at t task)
      by (Opens k) o =
          channel k (only.by receive_right k o) (ap parked (park_answers t c task k o)) (λ j ne. park_others t c task σ j (λ e. ne (one_opens e o)))
      by Shut o =
          let q = park_shut t c task o in
          nothing (ap (λ (r : Answered (Result (Option Message) ParkError) Table). park_number r.answer) q) (ap (λ (r : Answered (Result (Option Message) ParkError) Table). park_values r.answer) q) (subst (λ (r : Answered (Result (Option Message) ParkError) Table). OnlyCounts t r.table) (sym q) (authority_only t))

  reach_queued : Reaches w n (queued c) (queued_at t)
  unfolding answer after
  reach_queued = by (either_of t c) refl
    where
      by : (o : Opening) → either_of t c ≡ o → Reaches w n (queued c) (queued_at t)
      by (Opens k) o = channel k (only.either k o) (ap measured (queued_says t c k o)) (λ j _. alike_same t j)
      by Shut o = nothing (ap queued_number (queued_refused t c o)) (ap queued_values (queued_refused t c o)) (same_counts t)

  reach_revoke : Reaches w n (revoke c) (revoke_at t)
  unfolding answer after
  reach_revoke = by (revokes.revoke_ways t c σ)
    where
      by : revokes.RevokeWays t c (revoke_of t c) → Reaches w n (revoke c) (revoke_at t)
      by (revokes.bad_cap _ q) =
          nothing (ap (λ (r : Answered (Result Waiter CapError) Table). revoke_number r.answer) q) (ap (λ (r : Answered (Result Waiter CapError) Table). revoke_values r.answer) q) (subst (λ (r : Answered (Result Waiter CapError) Table). OnlyCounts t r.table) (sym q) (authority_only t))
      by (revokes.revoked k o _ a x) = channel k (only.any k o) (ap revoked a) x.others

  reach_holders : Reaches w n (holders c) (holders_at t)
  unfolding answer after
  reach_holders = by (opening_of t c send_right) refl
    where
      by : (o : Opening) → opening_of t c send_right ≡ o → Reaches w n (holders c) (holders_at t)
      by (Opens k) o = channel k (only.by send_right k o) (ap held (holders_says t c k o)) (λ j _. alike_same t j)
      by Shut o = nothing (ap holders_number (holders_refused t c o)) (ap holders_values (holders_refused t c o)) (same_counts t)

  pub reaches : Reach w n c
  reaches =
      record {
        send = reach_send;
        send_refused = λ p row h. (rows_refused t c p row).0 h;
        receive = reach_receive;
        park = reach_park;
        queued = reach_queued;
        revoke = reach_revoke;
        holders = reach_holders;
        registers = touch_register w n c σ only;
        releases = touch_release w n c σ only;
        register = alike_register w n c σ only;
        release = alike_release w n c σ only;
      }
