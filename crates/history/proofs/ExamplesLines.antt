-- That the promises on lines are not empty, by a log whose lines are computed: a park shows `0`, the send after it names the task, and the
-- receive after that shows the message. Assumes nothing.
use mathlib.Core.Path.{◌≡◌, refl}
use mathlib.Core.List.{List, [], ◌∷◌}
use Prim.Native.Nat.{ℕ}
use Rattle.laws.specs.Pick as picks
use Rattle.laws.specs.Search as places
use Rattle.mint.specs.Generation as generations
use Rattle.ipc_rules.specs.Answers.{waiter_values}
use Rattle.ipc_rules.specs.Create.{create_of}
use Rattle.ipc_rules.specs.Send.{send_of}
use Rattle.ipc_rules.specs.Receive.{recv_of, park_of}
use Rattle.ipc_rules.specs.Opening as openings
use Rattle.logread.specs.Little as numbers
use Rattle.operations.specs.Apply.{apply_of}
use Rattle.operations.specs.Channels.{reasoned, create_done, send_done, receive_done, park_done}
use Rattle.history.specs.Operations.{Operation, Logged, operate, operated, beginning}
use Rattle.history.specs.Lines.{line_in}
use Rattle.history.specs.LogIds.{creation}
use Rattle.history.specs.LogMessages.{sending}
use Rattle.history.specs.LogWaits.{parking, NamedInLog}
use Rattle.history.proofs.LogWaits.{log_waits_named}

-- a plain channel, whose ids are 65,536 and 65,537
abbrev creates : Operation
creates = creation (75 ∷ 67 ∷ 1 ∷ 0 ∷ [])

-- task 2, 0 parks
abbrev parks : List ℕ
parks = 75 ∷ 67 ∷ 4 ∷ 1 ∷ 0 ∷ 1 ∷ 0 ∷ 2 ∷ 0 ∷ 0 ∷ 0 ∷ []

-- 7, 1, 2 is sent, by row 3
abbrev sends : List ℕ
sends = 75 ∷ 67 ∷ 2 ∷ 0 ∷ 0 ∷ 1 ∷ 0 ∷ 7 ∷ 0 ∷ 0 ∷ 0 ∷ 1 ∷ 0 ∷ 0 ∷ 0 ∷ 0 ∷ 0 ∷ 0 ∷ 0 ∷ 2 ∷ 0 ∷ 0 ∷ 0 ∷ 0 ∷ 0 ∷ 0 ∷ 0 ∷ 3 ∷ []

abbrev receives : Operation
receives = record { number = 3; bytes = 75 ∷ 67 ∷ 3 ∷ 1 ∷ 0 ∷ 1 ∷ 0 ∷ [] }

-- the tables after the first of them, and after each more
abbrev made : Logged
made = operated beginning (creates ∷ [])

abbrev parked : Logged
parked = operate made (parking parks)

abbrev sent : Logged
sent = operate parked (sending sends)

record Computed : Type 0 where
  pub shows_ids : line_in beginning creates ≡ 1 ∷ 0 ∷ 65536 ∷ 65537 ∷ []
  pub shows_none : line_in made (parking parks) ≡ 4 ∷ 0 ∷ 0 ∷ []
  pub names_task : line_in parked (sending sends) ≡ 2 ∷ 0 ∷ 1 ∷ 2 ∷ 0 ∷ []
  pub shows_message : line_in sent receives ≡ 3 ∷ 0 ∷ 7 ∷ 1 ∷ 2 ∷ 3 ∷ []

computed : Computed
unfolding operated operate apply_of reasoned create_done send_done receive_done park_done create_of send_of recv_of park_of waiter_values numbers.little_at places.found places.lowest_free places.lowest picks.pick openings.opened openings.opening_of openings.open_of generations.next_generation openings.attempt_of openings.told
computed = record { shows_ids = refl; shows_none = refl; names_task = refl; shows_message = refl }

-- and what the theorem says of the park
pub example : NamedInLog made parks
example = log_waits_named (creates ∷ []) parks computed.shows_none
