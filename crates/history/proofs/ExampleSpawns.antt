-- That the promise on a spawn's release is not empty, by the first records of `vectors/log/respawn.hex`, computed: a reader waits on an
-- ephemeral channel, and the spawn of its only sender's row, with the same id again, names it. Assumes nothing.
use mathlib.Core.Path.{◌≡◌, refl}
use mathlib.Core.List.{[], ◌∷◌}
use lib.ListN.{replicate}
use Rattle.laws.specs.Pick as picks
use Rattle.laws.specs.Every as everys
use Rattle.laws.specs.Search as places
use Rattle.cap.specs.Word as words
use Rattle.capslots.specs.Rows as rowcalls
use Rattle.mint.specs.Generation as generations
use Rattle.ipc_rules.specs.Answers.{waiter_values}
use Rattle.ipc_rules.specs.Create.{create_of}
use Rattle.ipc_rules.specs.Receive.{park_of}
use Rattle.ipc_rules.specs.Observe.{holders_of}
use Rattle.ipc_rules.specs.Holds as holds
use Rattle.ipc_rules.specs.Opening as openings
use Rattle.ipc_rules.specs.Counts as raises
use Rattle.joined.specs.Steps as joins
use Rattle.logread.specs.Little as numbers
use Rattle.logread.specs.Lists as lists
use Rattle.operations.specs.Apply.{apply_of}
use Rattle.operations.specs.Channels.{reasoned, create_done, park_done, holders_done}
use Rattle.operations.specs.Joined.{spawn_done}
use Rattle.history.specs.Operations.{Operation, Logged, operate, operated, beginning}
use Rattle.history.specs.Lines.{line_in}
use Rattle.history.specs.LogIds.{creation}
use Rattle.history.specs.LogWaits.{parking, spawning}

-- an ephemeral channel, whose ids are 65,536 and 65,537
abbrev creates : Operation
creates = creation (75 ∷ 67 ∷ 1 ∷ 1 ∷ [])

-- row 5 has its send id in slot 0
abbrev spawns : Operation
spawns = spawning (75 ∷ 67 ∷ 24 ∷ 5 ∷ 1 ∷ 0 ∷ 0 ∷ 1 ∷ 0 ∷ replicate 15 0)

-- task 2, 0 parks
abbrev parks : Operation
parks = parking (75 ∷ 67 ∷ 4 ∷ 1 ∷ 0 ∷ 1 ∷ 0 ∷ 2 ∷ 0 ∷ 0 ∷ 0 ∷ [])

abbrev looks : Operation
looks = record { number = 9; bytes = 75 ∷ 67 ∷ 9 ∷ 0 ∷ 0 ∷ 1 ∷ 0 ∷ [] }

-- the tables after the first three of them, and after the second spawn
abbrev waits : Logged
waits = operated beginning (creates ∷ spawns ∷ parks ∷ [])

abbrev spawned : Logged
spawned = operate waits spawns

pub record Computed : Type 0 where
  pub waits_at_first : line_in (operated beginning (creates ∷ spawns ∷ [])) parks ≡ 4 ∷ 0 ∷ 0 ∷ []
  pub names_task : line_in waits spawns ≡ 24 ∷ 0 ∷ 1 ∷ 2 ∷ 0 ∷ 0 ∷ 0 ∷ 0 ∷ []
  pub held_again : line_in spawned looks ≡ 9 ∷ 0 ∷ 1 ∷ []

pub computed : Computed
unfolding operated operate apply_of reasoned create_done spawn_done park_done holders_done create_of park_of holders_of joins.spawn_of rowcalls.seed_of rowcalls.drain_of holds.registered_all holds.registered holds.release_of holds.released_all holds.released waiter_values words.read_word words.word_of words.or_vacant everys.every lists.list_slot numbers.little_at places.found places.lowest_free places.lowest picks.pick openings.opened openings.opening_of openings.open_of openings.hold_of generations.next_generation raises.raised openings.attempt_of openings.told
computed = record { waits_at_first = refl; names_task = refl; held_again = refl }
