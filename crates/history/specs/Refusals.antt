-- Demand 1, over runs: "A refusal carries its listed number, raises only its listed count, and changes no other table or lent byte."
-- Document 01, "Every no, by number": which numbers each call gives, and which count each raises. 27 is given to no call of a run.
use Rattle.std.specs.Prelude.{◌≡◌, Bool, true, false, ◌||◌, ℕ, ◌≤◌, eqb, Err}
use Rattle.laws.specs.Refusals as no
use Rattle.cap.specs.declared.CapId.{CapId}
use Rattle.ipc_rules.specs.State.{with_refusals}
use Rattle.ipc_rules.specs.Views.{counts_by}
use Rattle.ipc_rules.specs.declared.state.Payload.{Payload}
use Rattle.ipc_rules.specs.declared.state.Refusals.{Refusals}
use Rattle.ipc_rules.specs.declared.state.Table.{Table}
use Rattle.ipc_rules.specs.declared.answers.SendError.TheVariants.{BadRow}
use Rattle.history.specs.Calls.{Call, create, send, receive, park, queued, revoke, register, release, holders, clear, note_authority, note_state, counts, sent, answer, after}
use Rattle.history.specs.Numbers.{number_of}
use Rattle.history.specs.World.{World, settled, step, Reached}

-- n is a refusal that the call gives
unfoldable pub listed : Call → ℕ → Bool
listed (create ephemeral) n = eqb n no.no_mailbox || eqb n no.no_endpoint
listed (send c p row) n = eqb n no.bad_row || eqb n no.bad_cap || eqb n no.full
listed (receive c) n = eqb n no.bad_cap || eqb n no.empty
listed (park c task) n = eqb n no.bad_cap || eqb n no.busy || eqb n no.cancelled
listed (queued c) n = eqb n no.bad_cap
listed (revoke c) n = eqb n no.bad_cap
listed (register words) n = eqb n no.bad_word
listed (release x y z v) n = false
listed (holders c) n = eqb n no.bad_cap
listed (clear task) n = false
listed note_authority n = false
listed note_state n = false
listed counts n = false

-- the counts after the call answers n: the calls that look raise none, and the two note calls the counts of BadCap and of Busy
unfoldable pub counts_after : Call → ℕ → Refusals → Refusals
counts_after (create ephemeral) n x = counts_by n x
counts_after (send c p row) n x = counts_by n x
counts_after (receive c) n x = counts_by n x
counts_after (park c task) n x = counts_by n x
counts_after (queued c) n x = x
counts_after (revoke c) n x = counts_by n x
counts_after (register words) n x = counts_by n x
counts_after (release x y z v) n r = counts_by n r
counts_after (holders c) n x = x
counts_after (clear task) n x = counts_by n x
counts_after note_authority n x = counts_by no.bad_cap x
counts_after note_state n x = counts_by no.busy x
counts_after counts n x = x

-- the call is refused with n, a listed number, and the world is as it was but for the counts
pub record Refused (w : World) (call : Call) (n : ℕ) : Type 0 where
  pub given : listed call n ≡ true
  pub only : step w call ≡ settled w (with_refusals w.table (counts_after call n w.table.counters.refusals))

abbrev pub RefusalsCount : Type 0
RefusalsCount = (w : World) → Reached w → (call : Call) → (number_of (answer w.table call) ≡ no.none → ⊥) → Refused w call (number_of (answer w.table call))

-- and no call invents a count: after each, refused or not, they are what its number makes them
abbrev pub CountsTold : Type 0
CountsTold = (w : World) → Reached w → (call : Call) → (step w call).table.counters.refusals ≡ counts_after call (number_of (answer w.table call)) w.table.counters.refusals

-- ---- request No. 10: "for a row from 54 up, .. 19 in the send call, before BadCap and without a count"
-- the send answers 19, whatever its id opens, and nothing changes
pub record RowRefused (t : Table) (c : CapId) (p : Payload) (row : ℕ) : Type 0 where
  pub answers : answer t (send c p row) ≡ sent (Err BadRow)
  pub leaves : after t (send c p row) ≡ t

-- exactly so
abbrev pub RowsRefused : Type 0
RowsRefused = (t : Table) (c : CapId) (p : Payload) (row : ℕ) → (54 ≤ row → RowRefused t c p row) × (answer t (send c p row) ≡ sent (Err BadRow) → 54 ≤ row)
