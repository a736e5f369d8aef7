-- That joined steps are not for nothing: a task waits on a channel that one row holds, and the spawn of that row names it, though the row
-- then holds the same id again; it parks anew, and the leave of the row names it. Assumes nothing.
use Rattle.std.specs.Prelude.{None, Ok}
use mathlib.Core.Path.{◌≡◌, refl}
use mathlib.Core.Bool.{true}
use mathlib.Core.List.{List, [], ◌∷◌}
use Prim.Native.Nat.{ℕ}
use Rattle.laws.specs.Pick as picks
use Rattle.laws.specs.Every as everys
use Rattle.laws.specs.Search as places
use Rattle.cap.specs.Id.{id_of}
use Rattle.cap.specs.Slot.{vacant_slot, holding}
use Rattle.cap.specs.Word as words
use Rattle.capslots.specs.Table.{fresh_table}
use Rattle.capslots.specs.Rows as rowcalls
use Rattle.mint.specs.Generation as generations
use Rattle.ipc_rules.specs.State.{nobody, sizes_of}
use Rattle.ipc_rules.specs.Make.{fresh_of}
use Rattle.ipc_rules.specs.Create.{create_of}
use Rattle.ipc_rules.specs.Receive.{park_of}
use Rattle.ipc_rules.specs.Holds as holds
use Rattle.ipc_rules.specs.Opening as openings
use Rattle.ipc_rules.specs.Counts as raises
use Rattle.ipc_rules.specs.declared.state.TaskId.{TaskId}
use Rattle.ipc_rules.specs.declared.state.Waiter.{Waiter}
use Rattle.joined.specs.Steps as joins
use Rattle.history.specs.Calls.{Call, create, park, register, release, created, parked, registered, released, answer, after}
use Rattle.history.specs.World.{if_created, on_creation, step, answers, start}
use Rattle.history.specs.Joined.{if_accepted, spawn_calls, leave_calls}
use Rattle.history.specs.Sequences.{Deed, call, spawn, leave, after_deed, deed_calls, deeds_calls}

abbrev task : TaskId
task = record { slot = 2; epoch = 0 }

-- the send id of the channel as a word, 4,294,967,296 + 65,536
abbrev sender : ℕ
sender = 4295032832

-- an ephemeral channel, a row that holds its send id, a task that parks; the row is spawned anew with the same id, a fifth word past the
-- row's slots; the task parks again; the row leaves, and once more
abbrev deeds : List Deed
deeds =
    call (create true) ∷ spawn 0 (sender ∷ []) ∷ call (park (id_of 1 1) task) ∷ spawn 0 (sender ∷ 0 ∷ 0 ∷ 0 ∷ sender ∷ []) ∷ call (park (id_of 1 1) task) ∷ leave 0 ∷ leave 54 ∷ []

-- the register of what is in the row
abbrev fills : Call
fills = register (sender ∷ 0 ∷ 0 ∷ 0 ∷ [])

abbrev frees : Call
frees = release (holding (id_of 0 1)) vacant_slot vacant_slot vacant_slot

-- each spawn is one release and one register; the leave of a row from 54 up is refused and makes no call
abbrev calls : List Call
calls =
    create true ∷ release vacant_slot vacant_slot vacant_slot vacant_slot ∷ fills ∷ park (id_of 1 1) task ∷ frees ∷ fills ∷ park (id_of 1 1) task ∷ frees ∷ []

pub joined_calls : deeds_calls (record { channels = fresh_of (sizes_of 1 2 1); rows = fresh_table }) deeds ≡ calls
unfolding deeds_calls deed_calls after_deed spawn_calls leave_calls if_accepted joins.spawn_of joins.leave_of rowcalls.seed_of rowcalls.drain_of words.read_word words.word_of words.or_vacant everys.every picks.pick
joined_calls = refl

-- a release that takes nobody out, and one that takes out the task
abbrev nobodies : List Waiter
nobodies = nobody ∷ nobody ∷ nobody ∷ nobody ∷ []

abbrev named : List Waiter
named = record { present = true; task = task } ∷ nobody ∷ nobody ∷ nobody ∷ []

pub joined_answers :
    answers (start (sizes_of 1 2 1)) calls
    ≡ (created (Ok (record { send = id_of 0 1; recv = id_of 1 1 })) ∷ released (Ok tt) nobodies ∷ registered (Ok tt) ∷ parked (Ok None)
    ∷ released (Ok tt) named ∷ registered (Ok tt) ∷ parked (Ok None) ∷ released (Ok tt) named ∷ [])
unfolding answers step answer after on_creation if_created create_of park_of holds.register_of holds.registered_all holds.registered holds.release_of holds.released_all holds.released words.read_word words.or_vacant words.slots_of everys.every places.found places.lowest_free places.lowest picks.pick openings.opened openings.opening_of openings.open_of openings.hold_of generations.next_generation raises.raised openings.attempt_of openings.told
joined_answers = refl
