-- Document 01, "A channel table is sound when ..", a field or a record for each of its clauses.
use Rattle.std.specs.Prelude.{◌≡◌, true, false, ◌⊎◌, List, ℕ, ◌≤◌, ◌<◌}
use Rattle.cap.specs.Rights.{send_right, receive_right}
use Rattle.cap.specs.declared.CapRights.{CapRights}
use Rattle.ring.specs.Ring.{IsRing}
use Rattle.ipc_rules.specs.State.{Shape, next_of, fresh_mailbox, fresh_endpoint, fresh_message, mailbox_at, endpoint_at, message_in, end_in, end_live, box_live, mailbox_live, endpoint_live}
use Rattle.ipc_rules.specs.declared.state.Endpoint.{Endpoint}
use Rattle.ipc_rules.specs.declared.state.Mailbox.{Mailbox}
use Rattle.ipc_rules.specs.declared.state.Sizes.{Sizes}
use Rattle.ipc_rules.specs.declared.state.Table.{Table}

-- sizes are in range
pub record InRange (z : Sizes) : Type 0 where
  pub mailboxes : z.mailboxes ≤ 32
  pub endpoints : z.endpoints ≤ 64
  pub deep : 1 ≤ z.depth
  pub depth : z.depth ≤ 8

-- endpoint i is live, has the right w alone and names mailbox k
pub record IsEnd (es : List Endpoint) (w : CapRights) (k i : ℕ) : Type 0 where
  pub live : end_live es i ≡ true
  pub rights : (end_in es i).rights ≡ w
  pub names : (end_in es i).mailbox ≡ k

-- endpoint i is the one such end of mailbox k
pub record OneEnd (es : List Endpoint) (w : CapRights) (k i : ℕ) : Type 0 where
  pub is : IsEnd es w k i
  pub only : (j : ℕ) → IsEnd es w k j → j ≡ i

-- mailbox k has exactly one live send and one live receive endpoint, of one non-zero generation
pub record Ends (es : List Endpoint) (k : ℕ) : Type 0 where
  pub send : ℕ
  pub recv : ℕ
  pub one_send : OneEnd es send_right k send
  pub one_recv : OneEnd es receive_right k recv
  pub one_generation : (end_in es send).generation ≡ (end_in es recv).generation
  pub some_generation : (end_in es send).generation ≡ 0 → ⊥

-- an endpoint has send alone or receive alone, and names a live mailbox
pub record Names (bs : List Mailbox) (e : Endpoint) : Type 0 where
  pub rights : (e.rights ≡ send_right) ⊎ (e.rights ≡ receive_right)
  pub live : box_live bs e.mailbox ≡ true

pub record Sound (t : Table) : Type 0 where
  pub shape : Shape t
  pub sizes : InRange t.sizes
  -- mailboxes, endpoints and message places past the sizes are as when fresh
  pub mailboxes_past : (k : ℕ) → t.sizes.mailboxes ≤ k → mailbox_at t k ≡ fresh_mailbox
  pub endpoints_past : (i : ℕ) → t.sizes.endpoints ≤ i → endpoint_at t i ≡ fresh_endpoint
  pub places_past : (k p : ℕ) → p < 8 → t.sizes.depth ≤ p → message_in t k p ≡ fresh_message
  pub next : next_of t ≡ 0 → ⊥
  -- every dead mailbox is as when fresh, messages included
  pub dead : (k : ℕ) → mailbox_live t k ≡ false → mailbox_at t k ≡ fresh_mailbox
  pub dead_places : (k p : ℕ) → p < 8 → mailbox_live t k ≡ false → message_in t k p ≡ fresh_message
  -- every live mailbox has its two ends; the length is at most d, both ring ends are below d and differ by the length modulo d
  pub ends : (k : ℕ) → mailbox_live t k ≡ true → Ends t.endpoints k
  pub ring : (k : ℕ) → mailbox_live t k ≡ true → IsRing t.sizes.depth (mailbox_at t k).ring
  -- every live endpoint is an end of a live mailbox
  pub names : (i : ℕ) → endpoint_live t i ≡ true → Names t.mailboxes (endpoint_at t i)
  -- a waiter means length 0, and on an ephemeral mailbox holds above 0
  pub waits_empty : (k : ℕ) → (mailbox_at t k).waiter.present ≡ true → (mailbox_at t k).ring.len ≡ 0
  pub waits_held : (k : ℕ) → (mailbox_at t k).waiter.present ≡ true → (mailbox_at t k).ephemeral ≡ true → 0 < (mailbox_at t k).send_holders
