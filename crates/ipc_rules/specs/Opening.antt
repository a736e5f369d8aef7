-- Document 01, "Channels": when an id opens an endpoint, and what is done with an opening; and request No. 6: where it does not, for which of
-- four reasons.
use Rattle.std.specs.Prelude.{◌≡◌, Bool, true, ◌||◌, ℕ, ◌<◌, ltb, eqb, Result, Ok, Err}
use Rattle.laws.specs.Pick.{pick}
use Rattle.cap.specs.Id.{index_of, generation_of}
use Rattle.cap.specs.Rights.{contains_all, send_right, receive_right}
use Rattle.cap.specs.declared.CapId.{CapId}
use Rattle.cap.specs.declared.CapRights.{CapRights}
use Rattle.cap.specs.declared.slot.Slot.{Slot}
use Rattle.ipc_rules.specs.State.{endpoint_at, end_lives, mailbox_live}
use Rattle.ipc_rules.specs.Sound.{Sound}
use Rattle.ipc_rules.specs.declared.state.Endpoint.{Endpoint}
use Rattle.ipc_rules.specs.declared.state.Table.{Table}
use Rattle.ipc_rules.specs.declared.opening.Reason.{Reason}
use Rattle.ipc_rules.specs.declared.opening.Reason.TheVariants.{PastEnd, Dead, OtherGeneration, NoRight}
use Rattle.ipc_rules.specs.declared.opening.Asked.{Asked}
use Rattle.ipc_rules.specs.declared.opening.Asked.TheVariants.{Send, Receive, Either, Revocation}
use Rattle.ipc_rules.specs.declared.opening.Opening.{Opening}
use Rattle.ipc_rules.specs.declared.opening.Opening.TheVariants.{Opens, Shut}

-- ---- an attempt
-- request No. 6: "index past e, dead, another generation, or right missing, tested in that order". One definition for every opening: `right`
-- is whether the endpoint has what is asked for
unfoldable pub attempt_of : Bool → Endpoint → CapId → Bool → Result ℕ Reason
attempt_of below e c right =
    pick below
    (pick (end_lives e)
    (pick (eqb e.generation (generation_of c))
    (pick right (Ok e.mailbox) (Err NoRight))
    (Err OtherGeneration))
    (Err Dead))
    (Err PastEnd)

-- what is told of an attempt: the mailbox, or that nothing opens, and not why
unfoldable pub told : Result ℕ Reason → Opening
told (Ok k) = Opens k
told (Err r) = Shut

-- the right `need`; either right; a live endpoint of that generation, whatever its right
unfoldable pub open_of : Bool → Endpoint → CapId → CapRights → Opening
open_of below e c need = told (attempt_of below e c (contains_all e.rights need))

unfoldable pub open_either : Bool → Endpoint → CapId → Opening
open_either below e c = told (attempt_of below e c (contains_all e.rights send_right || contains_all e.rights receive_right))

unfoldable pub open_any : Bool → Endpoint → CapId → Opening
open_any below e c = told (attempt_of below e c true)

-- the one of the three by what is asked for
abbrev pub open_for : Asked → Bool → Endpoint → CapId → Opening
open_for Send below e c = open_of below e c send_right
open_for Receive below e c = open_of below e c receive_right
open_for Either below e c = open_either below e c
open_for Revocation below e c = open_any below e c

-- what follows from an opening: one thing where it is shut, another at the mailbox that it opens
unfoldable pub opened : {A : Type 0} → Opening → A → (ℕ → A) → A
opened Shut a f = a
opened (Opens k) a f = f k

-- an index that the table has an endpoint for: below e
abbrev pub in_reach : Table → ℕ → Bool
in_reach t i = ltb i t.sizes.endpoints

-- ---- in a table
-- what an id opens in a table: with the right `need`, by either right, and as a revocation asks
unfoldable pub opening_of : Table → CapId → CapRights → Opening
opening_of t c need = open_of (in_reach t (index_of c)) (endpoint_at t (index_of c)) c need

unfoldable pub either_of : Table → CapId → Opening
either_of t c = open_either (in_reach t (index_of c)) (endpoint_at t (index_of c)) c

unfoldable pub any_right_of : Table → CapId → Opening
any_right_of t c = open_any (in_reach t (index_of c)) (endpoint_at t (index_of c)) c

-- the send end that a slot holds: a vacant slot holds none, and its id is not read
unfoldable pub hold_of : Table → Slot → Opening
hold_of t s = pick s.present (opening_of t s.id send_right) Shut

-- ---- what an id opens in a sound table
pub record LiveBelow (t : Table) (k : ℕ) : Type 0 where
  pub below : k < t.sizes.mailboxes
  pub live : mailbox_live t k ≡ true

-- with whatever right is needed, with either right, for a revocation, and as a slot's hold
pub record OpensLive (t : Table) : Type 0 where
  pub right : (c : CapId) (need : CapRights) (k : ℕ) → opening_of t c need ≡ Opens k → LiveBelow t k
  pub either : (c : CapId) (k : ℕ) → either_of t c ≡ Opens k → LiveBelow t k
  pub revoked : (c : CapId) (k : ℕ) → any_right_of t c ≡ Opens k → LiveBelow t k
  pub held : (x : Slot) (k : ℕ) → hold_of t x ≡ Opens k → LiveBelow t k

-- a live mailbox below m
abbrev pub SoundOpensLive : Type 0
SoundOpensLive = (t : Table) → Sound t → OpensLive t
