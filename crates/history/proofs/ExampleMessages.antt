-- A run in which three messages go through a channel of depth 2, computed: the premises of the theorems on messages are met, and what they
-- say is what comes out. Assumes nothing.
use mathlib.Core.Path.{◌≡◌, refl}
use mathlib.Core.Bool.{false}
use mathlib.Core.List.{List, [], ◌∷◌}
use native.Mathlib.Omega.{arith}
use lib.ListN.{get_or, length}
use Rattle.laws.specs.Pick.{pick}
use Rattle.laws.specs.Search.{found, lowest, lowest_free}
use Rattle.cap.specs.Id.{id_of}
use Rattle.cap.specs.declared.CapId.{CapId}
use Rattle.mint.specs.Generation.{next_generation}
use Rattle.ipc_rules.specs.State.{fresh_message, sizes_of}
use Rattle.ipc_rules.specs.Create.{create_of}
use Rattle.ipc_rules.specs.Send.{send_of}
use Rattle.ipc_rules.specs.Receive.{recv_of, park_of}
use Rattle.ipc_rules.specs.Revoke.{killed, wiped, revoke_of}
use Rattle.ipc_rules.specs.Opening.{attempt_of, told, open_of, open_any, opening_of, any_right_of, opened}
use Rattle.ring.specs.Ring.{ring_from}
use Rattle.ipc_rules.specs.Views.{queue_of}
use Rattle.ipc_rules.specs.declared.state.Message.{Message}
use Rattle.ipc_rules.specs.declared.state.Payload.{Payload}
use Rattle.ipc_rules.specs.declared.state.TaskId.{TaskId}
use Rattle.history.specs.Calls.{Call, create, send, receive, park, revoke, answer, after}
use Rattle.history.specs.World.{World, but, if_created, on_creation, step, run, start, Reached, fresh}
use Rattle.history.specs.Channels.{leads}
use Rattle.history.specs.Traffic.{if_sent, by_receive, by_park, accepted, given, revokes, all_given, Spares, none, more}
use Rattle.history.specs.Messages.{AcceptedBehind, Once}
use Rattle.history.proofs.Kept.{reached_run}
use Rattle.history.proofs.Messages.{given_in_turn, given_once}

-- the two ids of the first channel
abbrev sender : CapId
sender = id_of 0 1

abbrev receiver : CapId
receiver = id_of 1 1

-- what is handed in, and the message that comes of it: one by row 0, two by row 6, three by row 53
abbrev part₁ : Payload
part₁ = record { tag = 1; a = 11; b = 12 }

abbrev part₂ : Payload
part₂ = record { tag = 2; a = 21; b = 22 }

abbrev part₃ : Payload
part₃ = record { tag = 3; a = 31; b = 32 }

abbrev one : Message
one = record { tag = 1; row = 0; a = 11; b = 12 }

abbrev two : Message
two = record { tag = 2; row = 6; a = 21; b = 22 }

abbrev three : Message
three = record { tag = 3; row = 53; a = 31; b = 32 }

abbrev task : TaskId
task = record { slot = 5; epoch = 6 }

-- one mailbox, two endpoints, depth 2; the channel is made and message one sent
abbrev opening : List Call
opening = create false ∷ send sender part₁ 0 ∷ []

abbrev begun : World
begun = run (start (sizes_of 1 2 2)) opening

-- message two is sent, and then come these
abbrev then_on : World
then_on = step begun (send sender part₂ 6)

abbrev later : List Call
later = receive receiver ∷ send sender part₃ 53 ∷ park receiver task ∷ receive receiver ∷ []

begun_reached : Reached begun
begun_reached = reached_run (fresh (sizes_of 1 2 2) refl) opening

two_accepted : AcceptedBehind begun 1 0 1 sender part₂ 6
unfolding run step answer after on_creation if_created but create_of found lowest lowest_free next_generation send_of opening_of open_of opened pick accepted if_sent leads queue_of ring_from attempt_of told
two_accepted = record { lives = record { live = refl; tenant = refl }; accepts = refl; others = refl }

spared : Spares then_on 1 later
unfolding revokes
spared = more refl (more refl (more refl (more refl none)))

-- what comes out, by computation
all_come : all_given then_on 1 later ≡ one ∷ two ∷ three ∷ []
unfolding run step answer after on_creation if_created but create_of found lowest lowest_free next_generation send_of recv_of park_of opening_of open_of opened pick all_given given by_receive by_park leads attempt_of told
all_come = refl

-- and message two in its turn, by the theorems
pub two_in_turn : get_or (all_given then_on 1 later) 1 fresh_message ≡ two
two_in_turn = given_in_turn begun begun_reached 1 0 1 sender part₂ 6 two_accepted later spared (rw all_come (omega arith))

-- after message one was given and message three sent, the park gives message two, and then message three waits
abbrev meanwhile : List Call
meanwhile = receive receiver ∷ send sender part₃ 53 ∷ []

one_came : length (all_given then_on 1 meanwhile) ≡ 1
unfolding run step answer after on_creation if_created but create_of found lowest lowest_free next_generation send_of recv_of opening_of open_of opened pick all_given given by_receive leads attempt_of told
one_came = refl

park_gives : given (run then_on meanwhile) 1 (park receiver task) ≡ two ∷ []
unfolding run step answer after on_creation if_created but create_of found lowest lowest_free next_generation send_of recv_of park_of opening_of open_of opened pick given by_park leads attempt_of told
park_gives = refl

pub two_once : Once begun then_on 1 0 two meanwhile (park receiver task) two
unfolding revokes
two_once = given_once begun begun_reached 1 0 1 sender part₂ 6 two_accepted meanwhile (more refl (more refl none)) one_came (park receiver task) two park_gives

-- a revocation that comes first loses both messages: none is given and none waits
abbrev ended : List Call
ended = revoke receiver ∷ receive receiver ∷ []

pub revoked_first : (all_given then_on 1 ended ≡ []) × (queue_of (run then_on ended).table 0 ≡ [])
unfolding run step answer after on_creation if_created but create_of found lowest lowest_free next_generation send_of recv_of revoke_of killed wiped opening_of open_of any_right_of open_any opened pick all_given given by_receive leads queue_of ring_from attempt_of told
revoked_first = (refl, refl)
