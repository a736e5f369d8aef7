-- The counts: each call raises the one that its answer's number has, and a note call or a refusal leaves all else as it was. Assumes nothing.
use Rattle.std.specs.Prelude.{Option, Result}
use mathlib.Core.Path.{◌≡◌, refl}
use Prim.Native.Nat.{ℕ}
use Rattle.laws.specs.Pick.{pick}
use Rattle.laws.specs.Refusals as no
use Rattle.cap.specs.declared.CapId.{CapId}
use Rattle.ipc_rules.specs.Sound.{Sound}
use Rattle.ipc_rules.specs.Counts.{authority_raised, full_raised, state_raised, note_authority_of, note_state_of}
use Rattle.ipc_rules.specs.Answers.{send_number, recv_number, park_number, revoke_number}
use Rattle.ipc_rules.specs.Send.{send_of}
use Rattle.ipc_rules.specs.Receive.{recv_of, park_of}
use Rattle.ipc_rules.specs.Revoke.{revoke_of}
use Rattle.ipc_rules.specs.Views.{counts_by, OnlyCounts}
use Rattle.ipc_rules.specs.declared.state.Payload.{Payload}
use Rattle.ipc_rules.specs.declared.state.TaskId.{TaskId}
use Rattle.ipc_rules.specs.declared.state.Table.{Table}
use Rattle.ipc_rules.proofs.Changes.{counts_anew}
use Rattle.ipc_rules.proofs.AfterSend as send
use Rattle.ipc_rules.proofs.AfterReceive as recv
use Rattle.ipc_rules.proofs.AfterPark as park
use Rattle.ipc_rules.proofs.AfterRevoke as revoke
use Rattle.ipc_rules.specs.declared.state.Waiter.{Waiter}
use Rattle.ipc_rules.specs.declared.answers.SendError.{SendError}
use Rattle.shown.specs.declared.Answered.{Answered}
use Rattle.ipc_rules.specs.declared.state.Message.{Message}
use Rattle.ipc_rules.specs.declared.answers.RecvError.{RecvError}
use Rattle.ipc_rules.specs.declared.answers.ParkError.{ParkError}
use Rattle.ipc_rules.specs.declared.answers.CapError.{CapError}

-- ---- a count alone
module _ (t : Table) where
  pub authority_only : OnlyCounts t (authority_raised t)
  authority_only = counts_anew t (authority_raised t).counters.refusals

  pub full_only : OnlyCounts t (full_raised t)
  full_only = counts_anew t (full_raised t).counters.refusals

  pub state_only : OnlyCounts t (state_raised t)
  state_only = counts_anew t (state_raised t).counters.refusals

  -- the note calls raise the counts that BadCap and Busy raise
  pub note_authority_only : OnlyCounts t (note_authority_of t).table
  note_authority_only = authority_only

  pub note_authority_counts : (note_authority_of t).table.counters.refusals ≡ counts_by no.bad_cap t.counters.refusals
  unfolding counts_by pick
  note_authority_counts = refl

  pub note_state_only : OnlyCounts t (note_state_of t).table
  note_state_only = state_only

  pub note_state_counts : (note_state_of t).table.counters.refusals ≡ counts_by no.busy t.counters.refusals
  unfolding counts_by pick
  note_state_counts = refl

-- ---- by answer
module _ (t : Table) (σ : Sound t) where
  pub send_counts : (c : CapId) (p : Payload) (row : ℕ) → (send_of t c p row).table.counters.refusals ≡ counts_by (send_number (send_of t c p row).answer) t.counters.refusals
  unfolding counts_by pick
  send_counts c p row = by (send.send_ways t c p row σ)
    where
      by : {r : Answered (Result Waiter SendError) Table} → send.SendWays t c p row r → r.table.counters.refusals ≡ counts_by (send_number r.answer) t.counters.refusals
      by (send.bad_row _ q) = rw q
      by (send.bad_cap _ _ q) = rw q
      by (send.full _ _ _ _ q) = rw q
      by (send.sent _ _ x) = rw x.answer x.rest.counts

  pub recv_counts : (c : CapId) → (recv_of t c).table.counters.refusals ≡ counts_by (recv_number (recv_of t c).answer) t.counters.refusals
  unfolding counts_by pick
  recv_counts c = by (recv.recv_ways t c σ)
    where
      by : {r : Answered (Result Message RecvError) Table} → recv.RecvWays t c r → r.table.counters.refusals ≡ counts_by (recv_number r.answer) t.counters.refusals
      by (recv.bad_cap _ q) = rw q
      by (recv.empty _ _ _ q) = rw q
      by (recv.received _ _ _ a g) = rw a g.rest.counts

  pub park_counts : (c : CapId) (task : TaskId) → (park_of t c task).table.counters.refusals ≡ counts_by (park_number (park_of t c task).answer) t.counters.refusals
  unfolding counts_by pick
  park_counts c task = by (park.park_ways t c task σ)
    where
      by : {r : Answered (Result (Option Message) ParkError) Table} → park.ParkWays t c task r → r.table.counters.refusals ≡ counts_by (park_number r.answer) t.counters.refusals
      by (park.bad_cap _ q) = rw q
      by (park.given _ _ _ a g) = rw a g.rest.counts
      by (park.cancelled _ _ _ _ _ q) = rw q
      by (park.busy _ _ _ _ _ q) = rw q
      by (park.parked _ _ _ a p) = rw a p.rest.counts

  pub revoke_counts : (c : CapId) → (revoke_of t c).table.counters.refusals ≡ counts_by (revoke_number (revoke_of t c).answer) t.counters.refusals
  unfolding counts_by pick
  revoke_counts c = by (revoke.revoke_ways t c σ)
    where
      by : {r : Answered (Result Waiter CapError) Table} → revoke.RevokeWays t c r → r.table.counters.refusals ≡ counts_by (revoke_number r.answer) t.counters.refusals
      by (revoke.bad_cap _ q) = rw q
      by (revoke.revoked _ _ _ a x) = rw a x.counts
