-- The public functions of `ipc` in a run. Each refuses an unsound table with 27 before its rule; no table of a run is one, so that what
-- holds of the rules over runs holds of the functions.
use Rattle.std.specs.Prelude.{◌≡◌}
use Rattle.ipc_sound.specs.Border.{create_call, send_call, recv_call, park_call, queued_call, holders_call, register_call, release_call, revoke_call, clear_call, note_authority_call, note_state_call, refusals_call, why_call}
use Rattle.cap.specs.declared.CapId.{CapId}
use Rattle.ipc_rules.specs.Why.{why_of}
use Rattle.ipc_rules.specs.declared.opening.Asked.{Asked}
use Rattle.ipc_rules.specs.declared.state.Table.{Table}
use Rattle.history.specs.Calls.{Call, create, send, receive, park, queued, revoke, register, release, holders, clear, note_authority, note_state, counts, four_slots, Answer, created, sent, received, parked, measured, revoked, registered, released, held, cleared, noted, counted, answer, after}
use Rattle.history.specs.World.{World, Reached}

-- what the public function answers, and the table that it gives back
unfoldable pub public_answer : Table → Call → Answer
public_answer t (create ephemeral) = created (create_call t ephemeral).answer
public_answer t (send c p row) = sent (send_call t c p row).answer
public_answer t (receive c) = received (recv_call t c).answer
public_answer t (park c task) = parked (park_call t c task).answer
public_answer t (queued c) = measured (queued_call t c)
public_answer t (revoke c) = revoked (revoke_call t c).answer
public_answer t (register words) = registered (register_call t words).answer
public_answer t (release x y z v) = released (release_call t (four_slots x y z v)).answer (release_call t (four_slots x y z v)).waiters
public_answer t (holders c) = held (holders_call t c)
public_answer t (clear task) = cleared (clear_call t task).answer
public_answer t note_authority = noted (note_authority_call t).answer
public_answer t note_state = noted (note_state_call t).answer
public_answer t counts = counted (refusals_call t)

unfoldable pub public_after : Table → Call → Table
public_after t (create ephemeral) = (create_call t ephemeral).table
public_after t (send c p row) = (send_call t c p row).table
public_after t (receive c) = (recv_call t c).table
public_after t (park c task) = (park_call t c task).table
public_after t (queued c) = t
public_after t (revoke c) = (revoke_call t c).table
public_after t (register words) = (register_call t words).table
public_after t (release x y z v) = (release_call t (four_slots x y z v)).table
public_after t (holders c) = t
public_after t (clear task) = (clear_call t task).table
public_after t note_authority = (note_authority_call t).table
public_after t note_state = (note_state_call t).table
public_after t counts = t

abbrev pub PublicCalls : Type 0
PublicCalls =
    (w : World) → Reached w → (call : Call) →
    (public_answer w.table call ≡ answer w.table call) × (public_after w.table call ≡ after w.table call)

-- the supervisor's look at why an id opens nothing, which gives no table back, is no `Call`; it too is answered by its rule
abbrev pub WhyServed : Type 0
WhyServed = (w : World) → Reached w → (c : CapId) (asked : Asked) → why_call w.table c asked ≡ why_of w.table c asked
