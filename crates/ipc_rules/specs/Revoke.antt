-- Document 01, "Channels": revocation.
use Rattle.std.specs.Prelude.{◌&&◌, List, map, ℕ, zero, suc, eqb, set, Err, Ok, Result}
use Rattle.laws.specs.Pick.{pick}
use Rattle.cap.specs.declared.CapId.{CapId}
use Rattle.ipc_rules.specs.State.{fresh_mailbox, fresh_message, place_of, mailbox_at, end_lives, dead_endpoint, with_endpoints, with_mailbox, with_messages}
use Rattle.ipc_rules.specs.Opening.{opened, any_right_of}
use Rattle.ipc_rules.specs.Counts.{authority_raised}
use Rattle.ipc_rules.specs.declared.state.Endpoint.{Endpoint}
use Rattle.ipc_rules.specs.declared.state.Message.{Message}
use Rattle.ipc_rules.specs.declared.state.Table.{Table}
use Rattle.ipc_rules.specs.declared.answers.CapError.TheVariants.{BadCap}
use Rattle.ipc_rules.specs.declared.state.Waiter.{Waiter}
use Rattle.ipc_rules.specs.declared.answers.CapError.{CapError}
use Rattle.shown.specs.declared.Answered.{Answered}

-- an end of mailbox k dies, and keeps its generation, its rights and its mailbox; other endpoints stay
unfoldable pub killed : ℕ → Endpoint → Endpoint
killed k e = pick (end_lives e && eqb e.mailbox k) (dead_endpoint e) e

-- the first n places of mailbox k's ring as when fresh
unfoldable pub wiped : List Message → ℕ → ℕ → List Message
wiped ms k zero = ms
wiped ms k (suc n) = set (wiped ms k n) (place_of k n) fresh_message

-- both ends die, and the mailbox is emptied, its messages included
abbrev pub without_channel : Table → ℕ → Table
without_channel t k = with_messages (with_mailbox (with_endpoints t (map (killed k) t.endpoints)) k fresh_mailbox) (wiped t.messages k 8)

-- revocation needs a live endpoint of that generation, either right; the waiter is answered
unfoldable pub revoke_of : Table → CapId → Answered (Result Waiter CapError) Table
revoke_of t c =
    opened (any_right_of t c) (record { answer = Err BadCap; table = authority_raised t }) (λ k.
    record { answer = Ok (mailbox_at t k).waiter; table = without_channel t k })
