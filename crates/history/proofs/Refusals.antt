-- What a refusal of a run changes, `refusals_count`, and what every call does to the counts, `counts_told`. Assumes nothing.
use Rattle.std.specs.Prelude.{Err, Option, Result, ⊤}
use mathlib.Core.Path.{◌≡◌, refl, sym, ap, subst, ◌∙◌}
use mathlib.Core.Bool.{Bool, true}
use mathlib.Core.List.{List}
use mathlib.Core.Logic.{⊎_elim}
use Prim.Native.Nat.{ℕ, ◌≤◌}
use borrow.Author.Tests.{le-leb}
use Rattle.laws.specs.Pick.{pick}
use Rattle.laws.specs.Refusals as no
use Rattle.laws.proofs.Bools.{below?}
use Rattle.cap.specs.Rights.{send_right}
use Rattle.cap.specs.declared.CapId.{CapId}
use Rattle.ipc_rules.specs.State.{with_refusals}
use Rattle.ipc_rules.specs.Sound.{Sound}
use Rattle.ipc_rules.specs.Answers.{create_number, send_number, recv_number, park_number, queued_number, revoke_number, register_number, holders_number}
use Rattle.ipc_rules.specs.Create.{create_of}
use Rattle.ipc_rules.specs.Send.{send_of}
use Rattle.ipc_rules.specs.Receive.{recv_of, park_of}
use Rattle.ipc_rules.specs.Observe.{queued_of, holders_of}
use Rattle.ipc_rules.specs.Opening.{opening_of, either_of}
use Rattle.ipc_rules.specs.Holds.{register_of, release_of}
use Rattle.ipc_rules.specs.Revoke.{revoke_of}
use Rattle.ipc_rules.specs.Views.{counts_by}
use Rattle.ipc_rules.specs.Waiters.{clear_of}
use Rattle.ipc_rules.specs.declared.state.Payload.{Payload}
use Rattle.ipc_rules.specs.declared.state.TaskId.{TaskId}
use Rattle.ipc_rules.specs.declared.state.Table.{Table}
use Rattle.ipc_rules.specs.declared.answers.SendError.TheVariants.{BadRow}
use Rattle.ipc_rules.specs.declared.opening.Opening.{Opening}
use Rattle.ipc_rules.specs.declared.opening.Opening.TheVariants.{Opens, Shut}
use Rattle.ipc_rules.proofs.Looks.{queued_says, queued_refused, holders_says, holders_refused}
use Rattle.ipc_rules.proofs.AfterCreate as creates
use Rattle.ipc_rules.proofs.AfterSend as sends
use Rattle.ipc_rules.proofs.AfterReceive as receives
use Rattle.ipc_rules.proofs.AfterPark as parks
use Rattle.ipc_rules.proofs.AfterRegister as registers
use Rattle.ipc_rules.proofs.AfterReleaseAll.{released_in}
use Rattle.ipc_rules.proofs.AfterRevoke as revokes
use Rattle.ipc_rules.proofs.AfterClear.{clear_clears}
use Rattle.ipc_rules.proofs.AfterCounts.{send_counts, recv_counts, park_counts, revoke_counts}
use Rattle.history.specs.Calls.{Call, create, send, receive, park, queued, revoke, register, release, holders, clear, note_authority, note_state, counts, four_slots, sent, answer, after}
use Rattle.history.specs.Numbers.{number_of}
use Rattle.history.specs.World.{World, if_created, on_creation, settled, step}
use Rattle.history.specs.Refusals.{listed, counts_after, Refused, RefusalsCount, CountsTold, RowsRefused}
use Rattle.history.proofs.Kept.{step_table, reached_sound}
use Rattle.history.proofs.Steps.{numbered}
use Rattle.ipc_rules.specs.declared.state.Channel.{Channel}
use Rattle.ipc_rules.specs.declared.answers.CreateError.{CreateError}
use Rattle.shown.specs.declared.Answered.{Answered}
use Rattle.ipc_rules.specs.declared.state.Waiter.{Waiter}
use Rattle.ipc_rules.specs.declared.answers.SendError.{SendError}
use Rattle.ipc_rules.specs.declared.state.Message.{Message}
use Rattle.ipc_rules.specs.declared.answers.RecvError.{RecvError}
use Rattle.ipc_rules.specs.declared.answers.ParkError.{ParkError}
use Rattle.ipc_rules.specs.declared.answers.RegisterError.{RegisterError}
use Rattle.ipc_rules.specs.declared.answers.CapError.{CapError}

-- ---- by call: a refusal's number is listed, and its table is the one before but for the counts
record Refuses (t : Table) (call : Call) (n : ℕ) (u : Table) : Type 0 where
  given : listed call n ≡ true
  only : u ≡ with_refusals t (counts_after call n t.counters.refusals)

module _ (t : Table) (σ : Sound t) where
  send_refuses : (c : CapId) (p : Payload) (row : ℕ) → (send_number (send_of t c p row).answer ≡ no.none → ⊥) →
      Refuses t (send c p row) (send_number (send_of t c p row).answer) (send_of t c p row).table
  unfolding listed counts_after counts_by pick
  send_refuses c p row = by (sends.send_ways t c p row σ)
    where
      by : {r : Answered (Result Waiter SendError) Table} → sends.SendWays t c p row r → (send_number r.answer ≡ no.none → ⊥) → Refuses t (send c p row) (send_number r.answer) r.table
      by (sends.bad_row _ q) h = rw q (record { given = refl; only = refl })
      by (sends.bad_cap _ _ q) h = rw q (record { given = refl; only = refl })
      by (sends.full _ _ _ _ q) h = rw q (record { given = refl; only = refl })
      by (sends.sent _ _ x) h = absurd (h (ap send_number x.answer))

  recv_refuses : (c : CapId) → (recv_number (recv_of t c).answer ≡ no.none → ⊥) → Refuses t (receive c) (recv_number (recv_of t c).answer) (recv_of t c).table
  unfolding listed counts_after counts_by pick
  recv_refuses c = by (receives.recv_ways t c σ)
    where
      by : {r : Answered (Result Message RecvError) Table} → receives.RecvWays t c r → (recv_number r.answer ≡ no.none → ⊥) → Refuses t (receive c) (recv_number r.answer) r.table
      by (receives.bad_cap _ q) h = rw q (record { given = refl; only = refl })
      by (receives.empty _ _ _ q) h = rw q (record { given = refl; only = refl })
      by (receives.received _ _ _ a _) h = absurd (h (ap recv_number a))

  park_refuses : (c : CapId) (task : TaskId) → (park_number (park_of t c task).answer ≡ no.none → ⊥) → Refuses t (park c task) (park_number (park_of t c task).answer) (park_of t c task).table
  unfolding listed counts_after counts_by pick
  park_refuses c task = by (parks.park_ways t c task σ)
    where
      by : {r : Answered (Result (Option Message) ParkError) Table} → parks.ParkWays t c task r → (park_number r.answer ≡ no.none → ⊥) → Refuses t (park c task) (park_number r.answer) r.table
      by (parks.bad_cap _ q) h = rw q (record { given = refl; only = refl })
      by (parks.given _ _ _ a _) h = absurd (h (ap park_number a))
      by (parks.cancelled _ _ _ _ _ q) h = rw q (record { given = refl; only = refl })
      by (parks.busy _ _ _ _ _ q) h = rw q (record { given = refl; only = refl })
      by (parks.parked _ _ _ a _) h = absurd (h (ap park_number a))

  revoke_refuses : (c : CapId) → (revoke_number (revoke_of t c).answer ≡ no.none → ⊥) → Refuses t (revoke c) (revoke_number (revoke_of t c).answer) (revoke_of t c).table
  unfolding listed counts_after counts_by pick
  revoke_refuses c = by (revokes.revoke_ways t c σ)
    where
      by : {r : Answered (Result Waiter CapError) Table} → revokes.RevokeWays t c r → (revoke_number r.answer ≡ no.none → ⊥) → Refuses t (revoke c) (revoke_number r.answer) r.table
      by (revokes.bad_cap _ q) h = rw q (record { given = refl; only = refl })
      by (revokes.revoked _ _ _ a _) h = absurd (h (ap revoke_number a))

  register_refuses : (words : List ℕ) → (register_number (register_of t words).answer ≡ no.none → ⊥) → Refuses t (register words) (register_number (register_of t words).answer) (register_of t words).table
  unfolding listed counts_after counts_by pick
  register_refuses words = by (registers.register_call_ways t words σ)
    where
      by : {r : Answered (Result ⊤ RegisterError) Table} → registers.RegisterCallWays t words r → (register_number r.answer ≡ no.none → ⊥) → Refuses t (register words) (register_number r.answer) r.table
      by (registers.bad_word _ q) h = rw q (record { given = refl; only = refl })
      by (registers.all _ a _) h = absurd (h (ap register_number a))

  queued_refuses : (c : CapId) → (queued_number (queued_of t c) ≡ no.none → ⊥) → Refuses t (queued c) (queued_number (queued_of t c)) t
  unfolding listed counts_after
  queued_refuses c h = by (either_of t c) refl
    where
      by : (o : Opening) → either_of t c ≡ o → Refuses t (queued c) (queued_number (queued_of t c)) t
      by Shut o = rw (queued_refused t c o) (record { given = refl; only = refl })
      by (Opens k) o = absurd (h (ap queued_number (queued_says t c k o)))

  holders_refuses : (c : CapId) → (holders_number (holders_of t c) ≡ no.none → ⊥) → Refuses t (holders c) (holders_number (holders_of t c)) t
  unfolding listed counts_after
  holders_refuses c h = by (opening_of t c send_right) refl
    where
      by : (o : Opening) → opening_of t c send_right ≡ o → Refuses t (holders c) (holders_number (holders_of t c)) t
      by Shut o = rw (holders_refused t c o) (record { given = refl; only = refl })
      by (Opens k) o = absurd (h (ap holders_number (holders_says t c k o)))

-- ---- a step that is refused
settles : (w : World) (call : Call) (n : ℕ) (u : Table) → step w call ≡ settled w u → Refuses w.table call n u → Refused w call n
settles w call n u q x = record { given = x.given; only = q ∙ ap (settled w) x.only }

create_refused : (w : World) (b : Bool) → Sound w.table → (create_number (create_of w.table b).answer ≡ no.none → ⊥) → Refused w (create b) (create_number (create_of w.table b).answer)
unfolding step answer after on_creation if_created listed counts_after counts_by pick
create_refused w b σ = by (creates.create_ways w.table b σ)
  where
    same : (x : Answered (Result Channel CreateError) Table) → create_of w.table b ≡ x → numbered w x ≡ settled w w.table → step w (create b) ≡ settled w w.table
    same x q e = subst (λ (y : Answered (Result Channel CreateError) Table). numbered w y ≡ settled w w.table) (sym q) e

    by : creates.CreateWays w.table b (create_of w.table b) → (create_number (create_of w.table b).answer ≡ no.none → ⊥) → Refused w (create b) (create_number (create_of w.table b).answer)
    by (creates.no_mailbox _ q) h = rw q (record { given = refl; only = same _ q refl })
    by (creates.no_endpoint _ _ _ q) h = rw q (record { given = refl; only = same _ q refl })
    by (creates.created _ _ _ x) h = absurd (h (ap create_number x.answer))

pub refusals_count : RefusalsCount
unfolding step answer after on_creation release_of clear_of
refusals_count w reached (create b) h = create_refused w b (reached_sound reached) h
refusals_count w reached (send c p row) h = settles w (send c p row) _ _ refl (send_refuses w.table (reached_sound reached) c p row h)
refusals_count w reached (receive c) h = settles w (receive c) _ _ refl (recv_refuses w.table (reached_sound reached) c h)
refusals_count w reached (park c task) h = settles w (park c task) _ _ refl (park_refuses w.table (reached_sound reached) c task h)
refusals_count w reached (queued c) h = settles w (queued c) _ _ refl (queued_refuses w.table (reached_sound reached) c h)
refusals_count w reached (revoke c) h = settles w (revoke c) _ _ refl (revoke_refuses w.table (reached_sound reached) c h)
refusals_count w reached (register words) h = settles w (register words) _ _ refl (register_refuses w.table (reached_sound reached) words h)
refusals_count w reached (release x y z v) h = absurd (h refl)
refusals_count w reached (holders c) h = settles w (holders c) _ _ refl (holders_refuses w.table (reached_sound reached) c h)
refusals_count w reached (clear task) h = absurd (h refl)
refusals_count w reached note_authority h = absurd (h refl)
refusals_count w reached note_state h = absurd (h refl)
refusals_count w reached counts h = absurd (h refl)

-- ---- the counts after every call
create_counts : (t : Table) (b : Bool) → Sound t → (create_of t b).table.counters.refusals ≡ counts_by (create_number (create_of t b).answer) t.counters.refusals
unfolding counts_by pick
create_counts t b σ = by (creates.create_ways t b σ)
  where
    by : {r : Answered (Result Channel CreateError) Table} → creates.CreateWays t b r → r.table.counters.refusals ≡ counts_by (create_number r.answer) t.counters.refusals
    by (creates.no_mailbox _ q) = rw q
    by (creates.no_endpoint _ _ _ q) = rw q
    by (creates.created _ _ _ x) = rw x.answer x.counts

register_counts : (t : Table) (words : List ℕ) → Sound t → (register_of t words).table.counters.refusals ≡ counts_by (register_number (register_of t words).answer) t.counters.refusals
unfolding counts_by pick
register_counts t words σ = by (registers.register_call_ways t words σ)
  where
    by : {r : Answered (Result ⊤ RegisterError) Table} → registers.RegisterCallWays t words r → r.table.counters.refusals ≡ counts_by (register_number r.answer) t.counters.refusals
    by (registers.bad_word _ q) = rw q
    by (registers.all _ a x) = rw a x.counts

pub after_counts : (t : Table) (call : Call) → Sound t → (after t call).counters.refusals ≡ counts_after call (number_of (answer t call)) t.counters.refusals
unfolding answer after counts_after counts_by pick release_of clear_of
after_counts t (create b) σ = create_counts t b σ
after_counts t (send c p row) σ = send_counts t σ c p row
after_counts t (receive c) σ = recv_counts t σ c
after_counts t (park c task) σ = park_counts t σ c task
after_counts t (queued c) σ = refl
after_counts t (revoke c) σ = revoke_counts t σ c
after_counts t (register words) σ = register_counts t words σ
after_counts t (release x y z v) σ = (released_in t (four_slots x y z v) σ).counts
after_counts t (holders c) σ = refl
after_counts t (clear task) σ = (clear_clears t task).counts
after_counts t note_authority σ = refl
after_counts t note_state σ = refl
after_counts t counts σ = refl

pub counts_told : CountsTold
counts_told w reached call = ap (λ (u : Table). u.counters.refusals) (step_table w call) ∙ after_counts w.table call (reached_sound reached)

-- ---- a row from 54 up
row_refused : (t : Table) (c : CapId) (p : Payload) (row : ℕ) → 54 ≤ row → send_of t c p row ≡ record { answer = Err BadRow; table = t }
unfolding send_of pick
row_refused t c p row h = rw (le-leb 54 row h)

pub rows_refused : RowsRefused
unfolding answer after
rows_refused t c p row = (
  λ h. record { answers = ap (λ (r : Answered (Result Waiter SendError) Table). sent r.answer) (row_refused t c p row h); leaves = ap (λ (r : Answered (Result Waiter SendError) Table). r.table) (row_refused t c p row h) },
  λ e. ⊎_elim (λ l. absurd (sends.row_passes t c p row l (ap number_of e))) (λ h. h) (below? row 54),
)
