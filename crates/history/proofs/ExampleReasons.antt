-- That the promise on reasons is not empty, by lines that are computed: each reason is shown, and a revocation's BadCap shows none. Document
-- 01's example line 7 is in ExamplesLog. Assumes nothing.
use mathlib.Core.Path.{◌≡◌, refl}
use mathlib.Core.List.{List, [], ◌∷◌}
use Prim.Native.Nat.{ℕ}
use Rattle.laws.specs.Pick as picks
use Rattle.laws.specs.Search as places
use Rattle.mint.specs.Generation as generations
use Rattle.ipc_rules.specs.Create.{create_of}
use Rattle.ipc_rules.specs.Receive.{recv_of, park_of}
use Rattle.ipc_rules.specs.Observe.{queued_of}
use Rattle.ipc_rules.specs.Opening as openings
use Rattle.ipc_rules.specs.Why as whys
use Rattle.ipc_rules.specs.Revoke.{revoke_of}
use Rattle.logread.specs.Little as numbers
use Rattle.operations.specs.Apply.{apply_of}
use Rattle.operations.specs.Channels.{reasoned, create_done, receive_done, park_done, queued_done, revoke_done}
use Rattle.history.specs.Operations.{Operation, Logged, operate, operated, beginning}
use Rattle.history.specs.Lines.{line_in}
use Rattle.history.specs.LogIds.{creation}

-- an operation with an id: its index, below 256, and its generation
abbrev with_id : ℕ → ℕ → ℕ → List ℕ → Operation
with_id number index generation more = record { number = number; bytes = 75 ∷ 67 ∷ number ∷ index ∷ 0 ∷ generation ∷ 0 ∷ more }

-- a channel whose ids are 65,536 and 65,537, in a table of 64 endpoints
abbrev made : Logged
made = operated beginning (creation (75 ∷ 67 ∷ 1 ∷ 0 ∷ []) ∷ [])

abbrev task : List ℕ
task = 2 ∷ 0 ∷ 0 ∷ 0 ∷ []

pub record Computed : Type 0 where
  pub past_end : line_in made (with_id 3 64 1 []) ≡ 3 ∷ 1 ∷ 1 ∷ []
  pub dead : line_in made (with_id 4 2 1 task) ≡ 4 ∷ 1 ∷ 2 ∷ []
  pub other_generation : line_in made (with_id 5 1 2 []) ≡ 5 ∷ 1 ∷ 3 ∷ []
  pub no_right : line_in made (with_id 3 0 1 []) ≡ 3 ∷ 1 ∷ 4 ∷ []
  pub revocation : line_in made (with_id 6 2 1 []) ≡ 6 ∷ 1 ∷ []

pub computed : Computed
unfolding operated operate apply_of reasoned create_done receive_done park_done queued_done revoke_done create_of recv_of park_of queued_of revoke_of whys.why_of whys.why_answer whys.tried_of whys.right_for numbers.little_at places.found places.lowest_free places.lowest picks.pick openings.opened openings.opening_of openings.open_of openings.either_of openings.open_either openings.any_right_of openings.open_any openings.attempt_of openings.told generations.next_generation
computed = record { past_end = refl; dead = refl; other_generation = refl; no_right = refl; revocation = refl }
