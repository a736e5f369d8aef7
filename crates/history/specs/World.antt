-- Demand 3: "Take any sequence of calls from one fresh table, and number channels by successful creation." A world is the table after
-- such a sequence, beside the bookkeeping of numbers that no code has; only a successful creation's answer moves it.
use Rattle.std.specs.Prelude.{◌≡◌, true, List, [], ◌∷◌, ℕ, suc, eqb, Err, Ok, Result}
use Rattle.laws.specs.Pick.{pick}
use Rattle.cap.specs.Id.{index_of}
use Rattle.cap.specs.declared.CapId.{CapId}
use Rattle.ipc_rules.specs.State.{endpoint_at}
use Rattle.ipc_rules.specs.Make.{fresh_of, in_range}
use Rattle.ipc_rules.specs.declared.state.Channel.{Channel}
use Rattle.ipc_rules.specs.declared.state.Sizes.{Sizes}
use Rattle.ipc_rules.specs.declared.state.Table.{Table}
use Rattle.ipc_rules.specs.declared.answers.CreateError.TheVariants.{NoMailbox, NoEndpoint, BadTable}
use Rattle.history.specs.Calls.{Call, Answer, created, sent, received, parked, measured, revoked, registered, released, held, cleared, noted, counted, answer, after}
use Rattle.ipc_rules.specs.declared.answers.CreateError.{CreateError}

pub record World : Type 0 where
  pub table : Table
  -- how many creations have succeeded
  pub made : ℕ
  -- the number of the channel that was last made in each mailbox
  pub tenant : ℕ → ℕ

-- ---- bookkeeping
-- f, but v at k
unfoldable pub but : (ℕ → ℕ) → ℕ → ℕ → ℕ → ℕ
but f k v j = pick (eqb j k) v (f j)

-- one thing where a creation was refused, another by the channel's ids where it succeeded
unfoldable pub if_created : {A : Type 0} → Result Channel CreateError → A → (Channel → A) → A
if_created (Ok c) a f = f c
if_created (Err NoMailbox) a f = a
if_created (Err NoEndpoint) a f = a
if_created (Err BadTable) a f = a

-- the same over every answer: only a creation's can be a successful one's
unfoldable pub on_creation : {A : Type 0} → Answer → A → (Channel → A) → A
on_creation (created x) a f = if_created x a f
on_creation (sent x) a f = a
on_creation (received x) a f = a
on_creation (parked x) a f = a
on_creation (measured x) a f = a
on_creation (revoked x) a f = a
on_creation (registered x) a f = a
on_creation (released x ws) a f = a
on_creation (held x) a f = a
on_creation (cleared x) a f = a
on_creation (noted x) a f = a
on_creation (counted x) a f = a

-- table u, and nothing was created
abbrev pub settled : World → Table → World
settled w u = record { table = u; made = w.made; tenant = w.tenant }

-- table u with a channel more: it has the next number, and the mailbox that its send end names
abbrev pub born : World → Table → CapId → World
born w u s =
    record {
      table = u;
      made = suc w.made;
      tenant = but w.tenant (endpoint_at u (index_of s)).mailbox (suc w.made);
    }

-- ---- runs
unfoldable pub step : World → Call → World
step w c = on_creation (answer w.table c) (settled w (after w.table c)) (λ ids. born w (after w.table c) ids.send)

unfoldable pub run : World → List Call → World
run w [] = w
run w (c ∷ cs) = run (step w c) cs

-- what the calls of a run answer, in order
unfoldable pub answers : World → List Call → List Answer
answers w [] = []
answers w (c ∷ cs) = answer w.table c ∷ answers (step w c) cs

abbrev pub start : Sizes → World
start z = record { table = fresh_of z; made = 0; tenant = λ _. 0 }

-- what a sequence of calls reaches from one fresh table, of any sizes in range
pub data Reached : World → Type 0 where
  fresh : (z : Sizes) → in_range z ≡ true → Reached (start z)
  then : {w : World} → Reached w → (c : Call) → Reached (step w c)
