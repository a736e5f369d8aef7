-- That joined steps and operations are calls, by a log and a sequence that are computed; and line 7 of the log. Assumes nothing.
use Rattle.std.specs.Prelude.{Err, Ok, Some}
use mathlib.Core.Path.{◌≡◌, refl}
use mathlib.Core.Bool.{true}
use mathlib.Core.List.{List, [], ◌∷◌}
use Prim.Native.Nat.{ℕ}
use lib.ListN.{drop, take, get_or}
use Rattle.laws.specs.Pick as picks
use Rattle.laws.specs.Search as places
use Rattle.cap.specs.Id.{id_of}
use Rattle.mint.specs.Generation as generations
use Rattle.ipc_rules.specs.State.{nobody, sizes_of}
use Rattle.ipc_rules.specs.Create.{create_of}
use Rattle.ipc_rules.specs.Send.{send_of}
use Rattle.ipc_rules.specs.Receive.{recv_of, park_of}
use Rattle.ipc_rules.specs.Observe.{queued_of}
use Rattle.ipc_rules.specs.Opening as openings
use Rattle.ipc_rules.specs.Why as whys
use Rattle.ipc_rules.specs.Counts as raises
use Rattle.ipc_rules.specs.Revoke as revocations
use Rattle.ipc_rules.specs.declared.state.Message.{Message}
use Rattle.ipc_rules.specs.declared.state.Payload.{Payload}
use Rattle.ipc_rules.specs.declared.state.TaskId.{TaskId}
use Rattle.ipc_rules.specs.declared.answers.RecvError.TheVariants.{BadCap}
use Rattle.ipc_rules.specs.declared.answers.ParkError.TheVariants.{Cancelled}
use Rattle.logread.specs.Little as numbers
use Rattle.logread.specs.Operands as operands
use Rattle.logread.specs.Read as reads
use Rattle.operations.specs.Apply.{apply_of}
use Rattle.operations.specs.Channels.{reasoned, new_done, create_done, send_done, receive_done, park_done, revoke_done}
use Rattle.oplog.specs.Step as steps
use Rattle.history.specs.Calls.{Call, create, send, receive, park, revoke, counts, created, sent, received, parked, revoked, counted, answer, after}
use Rattle.history.specs.World.{if_created, on_creation, step, answers, start}
use Rattle.history.specs.Operations.{Operation, calls_of, follow, operate, operated, lasting, calls_over, beginning}
use Rattle.history.specs.Lines.{line_in}
use Rattle.history.specs.Log.{records_in, records_of}

-- document 01's log, with the sending row, 3, as the last byte of its send (request No. 10)
abbrev bytes : List ℕ
bytes =
    75 ∷ 67 ∷ 0 ∷ 2 ∷ 4 ∷ 1 ∷
    75 ∷ 67 ∷ 1 ∷ 1 ∷
    75 ∷ 67 ∷ 4 ∷ 1 ∷ 0 ∷ 1 ∷ 0 ∷ 2 ∷ 0 ∷ 0 ∷ 0 ∷
    75 ∷ 67 ∷ 2 ∷ 0 ∷ 0 ∷ 1 ∷ 0 ∷ 7 ∷ 0 ∷ 0 ∷ 0 ∷ 1 ∷ 0 ∷ 0 ∷ 0 ∷ 0 ∷ 0 ∷ 0 ∷ 0 ∷ 2 ∷ 0 ∷ 0 ∷ 0 ∷ 0 ∷ 0 ∷ 0 ∷ 0 ∷ 3 ∷
    75 ∷ 67 ∷ 4 ∷ 1 ∷ 0 ∷ 1 ∷ 0 ∷ 2 ∷ 0 ∷ 0 ∷ 0 ∷
    75 ∷ 67 ∷ 6 ∷ 1 ∷ 0 ∷ 1 ∷ 0 ∷
    75 ∷ 67 ∷ 3 ∷ 1 ∷ 0 ∷ 1 ∷ 0 ∷
    75 ∷ 67 ∷ 27 ∷
    []

abbrev p : Payload
p = record { tag = 7; a = 1; b = 2 }

abbrev m : Message
m = record { tag = 7; row = 3; a = 1; b = 2 }

abbrev task : TaskId
task = record { slot = 2; epoch = 0 }

-- its `new` starts afresh, and the rest is one run
abbrev anew : Operation
anew = record { number = 0; bytes = bytes }

abbrev rest : List Operation
rest = records_of (drop 6 bytes)

pub sample_records : records_of bytes ≡ anew ∷ rest
unfolding records_in steps.reading operands.operands_ok reads.read_of reads.lengths reads.length_of picks.pick
sample_records = refl

pub sample_start : (operate beginning anew).world ≡ start (sizes_of 2 4 1)
unfolding operate follow picks.pick
sample_start = refl

pub sample_lasts : lasting rest ≡ true
unfolding lasting records_in steps.reading operands.operands_ok reads.read_of reads.lengths reads.length_of picks.pick
sample_lasts = refl

abbrev calls : List Call
calls = create true ∷ park (id_of 1 1) task ∷ send (id_of 0 1) p 3 ∷ park (id_of 1 1) task ∷ revoke (id_of 1 1) ∷ receive (id_of 1 1) ∷ counts ∷ []

pub sample_calls : calls_over (operate beginning anew) rest ≡ calls
unfolding calls_over operate calls_of records_in steps.reading operands.operands_ok reads.read_of reads.lengths reads.length_of numbers.little_at picks.pick
sample_calls = refl

-- and their answers are the lines that the document prints
pub sample_answers :
    answers (start (sizes_of 2 4 1)) calls
    ≡ (created (Ok (record { send = id_of 0 1; recv = id_of 1 1 })) ∷ parked (Err Cancelled) ∷ sent (Ok nobody) ∷ parked (Ok (Some m)) ∷ revoked (Ok nobody) ∷ received (Err BadCap)
    ∷ counted (Ok (record { authority = 1; full = 0; state = 0 })) ∷ [])
unfolding answers step answer after on_creation if_created create_of send_of recv_of park_of queued_of revocations.revoke_of revocations.killed revocations.wiped places.found places.lowest_free places.lowest picks.pick openings.opened openings.opening_of openings.open_of openings.either_of openings.open_either openings.any_right_of openings.open_any generations.next_generation raises.raised openings.attempt_of openings.told
sample_answers = refl

-- line 7, the receive on the revoked channel, ends with reason 2, dead (request No. 6)
pub sample_line_7 : line_in (operated beginning (take 6 (anew ∷ rest))) (get_or (anew ∷ rest) 6 anew) ≡ 3 ∷ 1 ∷ 2 ∷ []
unfolding operated operate apply_of reasoned new_done create_done send_done receive_done park_done revoke_done records_in steps.reading operands.operands_ok reads.read_of reads.lengths reads.length_of numbers.little_at create_of send_of recv_of park_of revocations.revoke_of revocations.killed revocations.wiped whys.why_of whys.why_answer whys.tried_of whys.right_for places.found places.lowest_free places.lowest picks.pick openings.opened openings.opening_of openings.open_of openings.any_right_of openings.open_any generations.next_generation raises.raised openings.attempt_of openings.told
sample_line_7 = refl
