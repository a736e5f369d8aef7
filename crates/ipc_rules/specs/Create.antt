-- Document 01, "Channels": creation.
use Rattle.std.specs.Prelude.{Bool, ℕ, ◌+◌, set, Option, Err, Ok, Result}
use Rattle.laws.specs.Search.{found, lowest_free}
use Rattle.cap.specs.Id.{id_of}
use Rattle.cap.specs.Rights.{send_right, receive_right}
use Rattle.mint.specs.Generation.{next_generation}
use Rattle.ipc_rules.specs.State.{mailbox_live, endpoint_live, next_of, new_mailbox, new_endpoint, with_endpoints, with_mailbox, with_next}
use Rattle.ipc_rules.specs.declared.state.Table.{Table}
use Rattle.ipc_rules.specs.declared.answers.CreateError.TheVariants.{NoMailbox, NoEndpoint}
use Rattle.ipc_rules.specs.declared.state.Channel.{Channel}
use Rattle.ipc_rules.specs.declared.answers.CreateError.{CreateError}
use Rattle.shown.specs.declared.Answered.{Answered}

-- the lowest free mailbox
abbrev pub free_mailbox : Table → Option ℕ
free_mailbox t = lowest_free (mailbox_live t) 0 t.sizes.mailboxes

-- the lowest free endpoint from `from` up
abbrev pub free_endpoint : Table → ℕ → Option ℕ
free_endpoint t from = lowest_free (endpoint_live t) from t.sizes.endpoints

-- mailbox k with its send end at endpoint s and its receive end at r, both of the present generation, which then goes up
abbrev pub with_channel : Table → Bool → ℕ → ℕ → ℕ → Table
with_channel t ephemeral k s r =
    with_next
    (with_mailbox
    (with_endpoints t (set (set t.endpoints s (new_endpoint (next_of t) send_right k)) r (new_endpoint (next_of t) receive_right k)))
    k (new_mailbox ephemeral))
    (next_generation (next_of t))

-- the lowest free mailbox, then the lowest free endpoint for send, then the next free one for receive; a refused creation changes nothing
unfoldable pub create_of : Table → Bool → Answered (Result Channel CreateError) Table
create_of t ephemeral =
    found (free_mailbox t) (record { answer = Err NoMailbox; table = t }) (λ k.
    found (free_endpoint t 0) (record { answer = Err NoEndpoint; table = t }) (λ s.
    found (free_endpoint t (s + 1)) (record { answer = Err NoEndpoint; table = t }) (λ r.
    record {
      answer = Ok (record { send = id_of s (next_of t); recv = id_of r (next_of t) });
      table = with_channel t ephemeral k s r;
    })))
