-- A channel table's parts as when fresh, what stands at a place of it, and each record with one field anew. No other rule of
-- the channel table writes a message, a waiter, an endpoint, a mailbox, the sizes, the counters or a table out, so that a field more is a change here.
use Rattle.std.specs.Prelude.{◌≡◌, Bool, true, false, List, ℕ, ◌+◌, ◌*◌, get_or, set, length}
use Rattle.cap.specs.Rights.{no_rights}
use Rattle.cap.specs.declared.CapRights.{CapRights}
use Rattle.ring.specs.Ring.{fresh_ring}
use Rattle.ring.specs.declared.Ring.{Ring}
use Rattle.ipc_rules.specs.declared.state.Payload.{Payload}
use Rattle.ipc_rules.specs.declared.state.Message.{Message}
use Rattle.ipc_rules.specs.declared.state.TaskId.{TaskId}
use Rattle.ipc_rules.specs.declared.state.Waiter.{Waiter}
use Rattle.ipc_rules.specs.declared.state.Endpoint.{Endpoint}
use Rattle.ipc_rules.specs.declared.state.Mailbox.{Mailbox}
use Rattle.ipc_rules.specs.declared.state.Refusals.{Refusals}
use Rattle.ipc_rules.specs.declared.state.Counters.{Counters}
use Rattle.ipc_rules.specs.declared.state.Sizes.{Sizes}
use Rattle.ipc_rules.specs.declared.state.Table.{Table}

-- ---- the parts as when fresh
abbrev pub fresh_message : Message
fresh_message = record { tag = 0; row = 0; a = 0; b = 0 }

abbrev pub nobody : Waiter
nobody = record { present = false; task = record { slot = 0; epoch = 0 } }

-- a task that waits
abbrev pub waiting : TaskId → Waiter
waiting task = record { present = true; task = task }

abbrev pub fresh_endpoint : Endpoint
fresh_endpoint = record { live = false; generation = 0; rights = no_rights; mailbox = 0 }

abbrev pub fresh_mailbox : Mailbox
fresh_mailbox = record { live = false; ring = fresh_ring; waiter = nobody; send_holders = 0; ephemeral = false }

abbrev pub no_refusals : Refusals
no_refusals = record { authority = 0; full = 0; state = 0 }

-- ---- the one reading of liveness, for endpoints and for mailboxes
abbrev pub end_lives : Endpoint → Bool
end_lives e = e.live

abbrev pub box_lives : Mailbox → Bool
box_lives b = b.live

-- ---- what stands at a place
abbrev pub end_in : List Endpoint → ℕ → Endpoint
end_in es i = get_or es i fresh_endpoint

abbrev pub box_in : List Mailbox → ℕ → Mailbox
box_in bs k = get_or bs k fresh_mailbox

abbrev pub end_live : List Endpoint → ℕ → Bool
end_live es i = end_lives (end_in es i)

abbrev pub box_live : List Mailbox → ℕ → Bool
box_live bs k = box_lives (box_in bs k)

abbrev pub endpoint_at : Table → ℕ → Endpoint
endpoint_at t i = end_in t.endpoints i

abbrev pub mailbox_at : Table → ℕ → Mailbox
mailbox_at t k = box_in t.mailboxes k

abbrev pub endpoint_live : Table → ℕ → Bool
endpoint_live t i = end_live t.endpoints i

abbrev pub mailbox_live : Table → ℕ → Bool
mailbox_live t k = box_live t.mailboxes k

-- where place p of mailbox k's ring stands among all messages
abbrev pub place_of : ℕ → ℕ → ℕ
place_of k p = k * 8 + p

abbrev pub message_in : Table → ℕ → ℕ → Message
message_in t k p = get_or t.messages (place_of k p) fresh_message

-- the generation that the next channel gets, and the refusals so far
abbrev pub next_of : Table → ℕ
next_of t = t.counters.next_gen

abbrev pub counts_of : Table → Refusals
counts_of t = t.counters.refusals

-- ---- a message as a send makes it: what the sender handed in, and the sending row, which the kernel sets
abbrev pub stamped : Payload → ℕ → Message
stamped p row = record { tag = p.tag; row = row; a = p.a; b = p.b }

-- ---- an endpoint as creation makes it, and as revocation leaves it: dead, with its generation, its rights and its mailbox
abbrev pub new_endpoint : ℕ → CapRights → ℕ → Endpoint
new_endpoint generation right k = record { live = true; generation = generation; rights = right; mailbox = k }

abbrev pub dead_endpoint : Endpoint → Endpoint
dead_endpoint e = record { live = false; generation = e.generation; rights = e.rights; mailbox = e.mailbox }

-- ---- a mailbox as creation makes it, and with one field anew
abbrev pub new_mailbox : Bool → Mailbox
new_mailbox x = record { live = true; ring = fresh_ring; waiter = nobody; send_holders = 0; ephemeral = x }

abbrev pub with_ring : Mailbox → Ring → Mailbox
with_ring b r = record { live = b.live; ring = r; waiter = b.waiter; send_holders = b.send_holders; ephemeral = b.ephemeral }

abbrev pub with_waiter : Mailbox → Waiter → Mailbox
with_waiter b w = record { live = b.live; ring = b.ring; waiter = w; send_holders = b.send_holders; ephemeral = b.ephemeral }

abbrev pub with_holders : Mailbox → ℕ → Mailbox
with_holders b n = record { live = b.live; ring = b.ring; waiter = b.waiter; send_holders = n; ephemeral = b.ephemeral }

-- ---- the counters with one field anew
abbrev pub with_authority : Refusals → ℕ → Refusals
with_authority x n = record { authority = n; full = x.full; state = x.state }

abbrev pub with_full : Refusals → ℕ → Refusals
with_full x n = record { authority = x.authority; full = n; state = x.state }

abbrev pub with_state : Refusals → ℕ → Refusals
with_state x n = record { authority = x.authority; full = x.full; state = n }

-- ---- the sizes in force: mailboxes, endpoints, depth
abbrev pub sizes_of : ℕ → ℕ → ℕ → Sizes
sizes_of m e d = record { mailboxes = m; endpoints = e; depth = d }

-- ---- a table that nothing happened to, and with one field anew
abbrev pub fresh_table : Sizes → List Endpoint → List Mailbox → List Message → Table
fresh_table z es bs ms = record { sizes = z; endpoints = es; mailboxes = bs; messages = ms; counters = record { next_gen = 1; refusals = no_refusals } }

abbrev pub with_endpoints : Table → List Endpoint → Table
with_endpoints t x = record { sizes = t.sizes; endpoints = x; mailboxes = t.mailboxes; messages = t.messages; counters = t.counters }

abbrev pub with_mailboxes : Table → List Mailbox → Table
with_mailboxes t x = record { sizes = t.sizes; endpoints = t.endpoints; mailboxes = x; messages = t.messages; counters = t.counters }

abbrev pub with_messages : Table → List Message → Table
with_messages t x = record { sizes = t.sizes; endpoints = t.endpoints; mailboxes = t.mailboxes; messages = x; counters = t.counters }

abbrev pub with_counters : Table → Counters → Table
with_counters t x = record { sizes = t.sizes; endpoints = t.endpoints; mailboxes = t.mailboxes; messages = t.messages; counters = x }

abbrev pub with_next : Table → ℕ → Table
with_next t x = with_counters t (record { next_gen = x; refusals = counts_of t })

abbrev pub with_refusals : Table → Refusals → Table
with_refusals t x = with_counters t (record { next_gen = next_of t; refusals = x })

-- mailbox k anew
abbrev pub with_mailbox : Table → ℕ → Mailbox → Table
with_mailbox t k b = with_mailboxes t (set t.mailboxes k b)

-- place p of mailbox k's ring anew
abbrev pub with_message : Table → ℕ → ℕ → Message → Table
with_message t k p m = with_messages t (set t.messages (place_of k p) m)

-- what the type [T; n] says of a table's lists, and the record does not
pub record Shape (t : Table) : Type 0 where
  pub endpoints : length t.endpoints ≡ 64
  pub mailboxes : length t.mailboxes ≡ 32
  pub messages : length t.messages ≡ 256
