-- In a run the public functions are their rules, `public_calls`. Assumes nothing.
use Rattle.std.specs.Prelude.{Option, Result, ℕ, ⊤}
use mathlib.Core.Path.{◌≡◌, refl, ap}
use Rattle.laws.specs.Pick.{pick}
use Rattle.ipc_sound.specs.Border.{guarded}
use Rattle.ipc_rules.specs.Why.{why_of}
use Rattle.ipc_rules.specs.Sound.{Sound}
use Rattle.ipc_rules.specs.Counts.{note_authority_of, note_state_of}
use Rattle.ipc_rules.specs.Create.{create_of}
use Rattle.ipc_rules.specs.Send.{send_of}
use Rattle.ipc_rules.specs.Receive.{recv_of, park_of}
use Rattle.ipc_rules.specs.Holds.{register_of, release_of}
use Rattle.ipc_rules.specs.Revoke.{revoke_of}
use Rattle.ipc_rules.specs.Waiters.{clear_of}
use Rattle.ipc_rules.specs.declared.state.Table.{Table}
use Rattle.ipc_rules.specs.declared.answers.Releasing.{Releasing}
use Rattle.ipc_sound.proofs.Decide.{test_of}
use Rattle.history.specs.Calls.{Call, create, send, receive, park, queued, revoke, register, release, holders, clear, note_authority, note_state, counts, four_slots, answer, after}
use Rattle.history.specs.Public.{public_answer, public_after, PublicCalls, WhyServed}
use Rattle.history.proofs.Kept.{reached_sound}
use Rattle.ipc_rules.specs.declared.state.Channel.{Channel}
use Rattle.ipc_rules.specs.declared.answers.CreateError.{CreateError}
use Rattle.shown.specs.declared.Answered.{Answered}
use Rattle.ipc_rules.specs.declared.state.Waiter.{Waiter}
use Rattle.ipc_rules.specs.declared.answers.SendError.{SendError}
use Rattle.ipc_rules.specs.declared.state.Message.{Message}
use Rattle.ipc_rules.specs.declared.answers.RecvError.{RecvError}
use Rattle.ipc_rules.specs.declared.answers.ParkError.{ParkError}
use Rattle.ipc_rules.specs.declared.answers.RegisterError.{RegisterError}
use Rattle.ipc_rules.specs.declared.answers.CapError.{CapError}
use Rattle.ipc_rules.specs.declared.answers.TableError.{TableError}

-- on a sound table the border serves the rule
pub served : {A : Type 0} (t : Table) (refused rule : A) → Sound t → guarded t refused rule ≡ rule
unfolding guarded pick
served t refused rule s = rw (test_of t s)

answers : (t : Table) (call : Call) → Sound t → public_answer t call ≡ answer t call
unfolding public_answer answer
answers t (create ephemeral) s = rw (served t _ _ s)
answers t (send c p row) s = rw (served t _ _ s)
answers t (receive c) s = rw (served t _ _ s)
answers t (park c task) s = rw (served t _ _ s)
answers t (queued c) s = rw (served t _ _ s)
answers t (revoke c) s = rw (served t _ _ s)
answers t (register words) s = rw (served t _ _ s)
answers t (release x y z v) s = rw (served t _ _ s)
answers t (holders c) s = rw (served t _ _ s)
answers t (clear task) s = rw (served t _ _ s)
answers t note_authority s = rw (served t _ _ s)
answers t note_state s = rw (served t _ _ s)
answers t counts s = rw (served t _ _ s)

tables : (t : Table) (call : Call) → Sound t → public_after t call ≡ after t call
unfolding public_after after
tables t (create ephemeral) s = ap (λ (r : Answered (Result Channel CreateError) Table). r.table) (served t _ (create_of t ephemeral) s)
tables t (send c p row) s = ap (λ (r : Answered (Result Waiter SendError) Table). r.table) (served t _ (send_of t c p row) s)
tables t (receive c) s = ap (λ (r : Answered (Result Message RecvError) Table). r.table) (served t _ (recv_of t c) s)
tables t (park c task) s = ap (λ (r : Answered (Result (Option Message) ParkError) Table). r.table) (served t _ (park_of t c task) s)
tables t (queued c) s = refl
tables t (revoke c) s = ap (λ (r : Answered (Result Waiter CapError) Table). r.table) (served t _ (revoke_of t c) s)
tables t (register words) s = ap (λ (r : Answered (Result ⊤ RegisterError) Table). r.table) (served t _ (register_of t words) s)
tables t (release x y z v) s = ap (λ (r : Releasing). r.table) (served t _ (release_of t (four_slots x y z v)) s)
tables t (holders c) s = refl
tables t (clear task) s = ap (λ (r : Answered (Result ℕ TableError) Table). r.table) (served t _ (clear_of t task) s)
tables t note_authority s = ap (λ (r : Answered (Result ⊤ TableError) Table). r.table) (served t _ (note_authority_of t) s)
tables t note_state s = ap (λ (r : Answered (Result ⊤ TableError) Table). r.table) (served t _ (note_state_of t) s)
tables t counts s = refl

pub public_calls : PublicCalls
public_calls w reached call = (answers w.table call (reached_sound reached), tables w.table call (reached_sound reached))

pub why_served : WhyServed
why_served w reached c asked = served w.table _ (why_of w.table c asked) (reached_sound reached)
