-- Document 01, "A channel table is sound when ..", as a test: what is computed of a table before a call. That it says what `Sound` says is
-- proved in proofs/Decide.antt.
use Rattle.std.specs.Prelude.{◌≡◌, Bool, false, not, ◌&&◌, ◌||◌, List, ℕ, zero, suc, ◌<◌, ◌%◌, ◌/◌, eqb, ltb, get_or, None, Option, Some, IfSome}
use Rattle.std.specs.Option.{option_eq}
use Rattle.laws.specs.Pick.{pick}
use Rattle.laws.specs.Every.{every}
use Rattle.cap.specs.Rights.{send_right, receive_right}
use Rattle.cap.specs.declared.CapRights.{CapRights}
use Rattle.ring.specs.Ring.{is_fresh_ring, ring_test}
use Rattle.ipc_rules.specs.State.{fresh_message, next_of, end_lives, box_lives, end_in, box_in, box_live, mailbox_live}
use Rattle.ipc_rules.specs.Make.{in_range}
use Rattle.ipc_rules.specs.declared.state.Endpoint.{Endpoint}
use Rattle.ipc_rules.specs.declared.state.Mailbox.{Mailbox}
use Rattle.ipc_rules.specs.declared.state.Message.{Message}
use Rattle.ipc_rules.specs.declared.state.Waiter.{Waiter}
use Rattle.ipc_rules.specs.declared.state.Table.{Table}
use Rattle.ipc_sound.specs.declared.Ends.{Ends}

-- ---- as when fresh
abbrev pub is_fresh_message : Message → Bool
is_fresh_message m = eqb m.tag 0 && eqb m.a 0 && eqb m.b 0 && eqb m.row 0

abbrev pub is_fresh_endpoint : Endpoint → Bool
is_fresh_endpoint e = not (end_lives e) && eqb e.generation 0 && eqb e.rights.bits 0 && eqb e.mailbox 0

abbrev pub is_nobody : Waiter → Bool
is_nobody w = not w.present && eqb w.task.slot 0 && eqb w.task.epoch 0

abbrev pub is_fresh_mailbox : Mailbox → Bool
is_fresh_mailbox b =
    not (box_lives b) && is_fresh_ring b.ring && (is_nobody b.waiter && eqb b.send_holders 0 && not b.ephemeral)

-- ---- message places
-- as when fresh, or place p of the ring of a live mailbox, of depth d
abbrev pub place_test : Message → Bool → ℕ → ℕ → Bool
place_test m live p d = is_fresh_message m || live && ltb p d

-- place i of all: place i % 8 of mailbox i / 8
unfoldable pub place_ok : Table → ℕ → Bool
place_ok t i = place_test (get_or t.messages i fresh_message) (mailbox_live t (i / 8)) (i % 8) t.sizes.depth

-- ---- the two ends of a mailbox
-- the endpoint is live, has the right w alone and names mailbox k
abbrev pub is_end : Endpoint → CapRights → ℕ → Bool
is_end e w k = end_lives e && eqb e.rights.bits w.bits && eqb e.mailbox k

-- the last endpoint below n that is such an end of mailbox k
unfoldable pub last_end : List Endpoint → CapRights → ℕ → ℕ → Option ℕ
last_end es w k zero = None
last_end es w k (suc n) = pick (is_end (end_in es n) w k) (Some n) (last_end es w k n)

-- the last of all 64
abbrev pub send_end : List Endpoint → ℕ → Option ℕ
send_end es k = last_end es send_right k 64

abbrev pub recv_end : List Endpoint → ℕ → Option ℕ
recv_end es k = last_end es receive_right k 64

-- at each mailbox's place stands its last end with the right w below n
pub record Remembers (es : List Endpoint) (w : CapRights) (n : ℕ) (at : List (Option ℕ)) : Type 0 where
  pub last : (k : ℕ) → k < 32 → get_or at k None ≡ last_end es w k n

-- both stand there, of all 64
pub record LastOf (es : List Endpoint) (l : Ends) : Type 0 where
  pub send : Remembers es send_right 64 l.send.at
  pub recv : Remembers es receive_right 64 l.recv.at

-- what was found is one of the 64
abbrev pub IsPlace : Option ℕ → Type 0
IsPlace o = IfSome o (λ i. i < 64)

-- ---- endpoints
-- a dead one is below the size or fresh; a live one is below the size, names a live mailbox, and is its last end of one right: there is
-- no second
unfoldable pub endpoint_test : Endpoint → Bool → Bool → Bool → Bool → Bool
endpoint_test e below named send recv =
    pick (end_lives e)
    (below && named && (eqb e.rights.bits send_right.bits && send || eqb e.rights.bits receive_right.bits && recv))
    (below || is_fresh_endpoint e)

-- endpoint i of a table with n endpoints
unfoldable pub endpoint_ok : ℕ → List Endpoint → List Mailbox → ℕ → Bool
endpoint_ok n es bs i =
    let e = end_in es i in
    endpoint_test e (ltb i n) (box_live bs e.mailbox) (option_eq eqb (send_end es e.mailbox) (Some i)) (option_eq eqb (recv_end es e.mailbox) (Some i))

-- ---- mailboxes
-- a waiter means length 0, and on an ephemeral mailbox holds above 0
abbrev pub waiter_test : Mailbox → Bool
waiter_test b = not b.waiter.present || eqb b.ring.len 0 && (not b.ephemeral || ltb 0 b.send_holders)

-- both ends are there, and their generations one, and not 0
abbrev pub ends_ok : List Endpoint → Option ℕ → Option ℕ → Bool
ends_ok es None r = false
ends_ok es (Some s) None = false
ends_ok es (Some s) (Some r) = eqb (end_in es s).generation (end_in es r).generation && not (eqb (end_in es s).generation 0)

-- a dead one is fresh; a live one is below the size, has both ends, a ring, and no waiter that it should not have
unfoldable pub mailbox_test : Mailbox → Bool → Bool → ℕ → Bool
mailbox_test b below ends d = pick (box_lives b) (below && ends && ring_test d b.ring && waiter_test b) (is_fresh_mailbox b)

-- mailbox k of a table with m mailboxes of depth d
unfoldable pub mailbox_ok : ℕ → ℕ → List Endpoint → List Mailbox → ℕ → Bool
mailbox_ok m d es bs k = mailbox_test (box_in bs k) (ltb k m) (ends_ok es (send_end es k) (recv_end es k)) d

-- ---- the table
unfoldable pub sound_test : Table → Bool
sound_test t =
    in_range t.sizes
    && (not (eqb (next_of t) 0)
    && every (endpoint_ok t.sizes.endpoints t.endpoints t.mailboxes) 64
    && every (mailbox_ok t.sizes.mailboxes t.sizes.depth t.endpoints t.mailboxes) 32
    && every (place_ok t) 256)
