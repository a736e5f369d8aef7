-- Demand 3: "From its creation, an id of channel n opens channel n or nothing until 65,535 later creations have succeeded."
--
--   "From its creation"                      v, the world after that creation and any calls `later`, or none; every channel that lives has
--                                            its creation in the run, `EachCreated`
--   "an id of channel n"                     `IdOf`: one of the two ids that the creation answers
--   "opens channel n or nothing"             `OpensOnly`: whatever is asked of the id, what opens is the mailbox where n lives; and by
--                                            call, also in the lists of a register and a release, `Reach`: nothing, or that mailbox alone
--   "until 65,535 later creations            v .made < n + 65535: fewer than 65,535 of the creations up to v came after channel n's
--   have succeeded"
--
-- A channel lives in one mailbox at most, so that "the mailbox where n lives" is one: `OneMailbox`.
use Rattle.std.specs.Prelude.{◌≡◌, Bool, false, List, ◌⊎◌, ℕ, suc, ◌+◌, ◌<◌, Ok}
use Rattle.cap.specs.Rights.{send_right, receive_right}
use Rattle.cap.specs.declared.CapId.{CapId}
use Rattle.cap.specs.declared.CapRights.{CapRights}
use Rattle.cap.specs.declared.slot.Slot.{Slot}
use Rattle.ipc_rules.specs.Opening.{opening_of, either_of, any_right_of, hold_of}
use Rattle.ipc_rules.specs.declared.state.Channel.{Channel}
use Rattle.ipc_rules.specs.declared.state.Waiter.{Waiter}
use Rattle.ipc_rules.specs.declared.opening.Opening.TheVariants.{Opens, Shut}
use Rattle.history.specs.Calls.{Call, create, revoke, created, revoked, answer}
use Rattle.history.specs.World.{World, step, run, Reached}
use Rattle.history.specs.Channels.{LivesIn}
use Rattle.history.specs.Reach.{Reach}

-- in w the creation succeeds: it makes channel n, with these ids
pub record Makes (w : World) (ephemeral : Bool) (n : ℕ) (ids : Channel) : Type 0 where
  pub answers : answer w.table (create ephemeral) ≡ created (Ok ids)
  pub number : n ≡ suc w.made

-- its creation, in the calls that came to w
pub record CreatedIn (w : World) (n : ℕ) : Type 0 where
  pub before : World
  pub reached : Reached before
  pub ephemeral : Bool
  pub ids : Channel
  pub makes : Makes before ephemeral n ids
  pub later : List Call
  pub comes : w ≡ run (step before (create ephemeral)) later

-- every channel that lives has one
abbrev pub EachCreated : Type 0
EachCreated = (w : World) → Reached w → (n k : ℕ) → LivesIn w n k → CreatedIn w n

-- one of a channel's two ids
abbrev pub IdOf : Channel → CapId → Type 0
IdOf ids c = (c ≡ ids.send) ⊎ (c ≡ ids.recv)

-- ---- what opens
-- c opens channel n or nothing: by each right, by either right, as a revocation asks, and in a slot as a hold
pub record OpensOnly (w : World) (n : ℕ) (c : CapId) : Type 0 where
  pub by : (need : CapRights) (k : ℕ) → opening_of w.table c need ≡ Opens k → LivesIn w n k
  pub either : (k : ℕ) → either_of w.table c ≡ Opens k → LivesIn w n k
  pub any : (k : ℕ) → any_right_of w.table c ≡ Opens k → LivesIn w n k
  pub hold : (x : Slot) → x.id ≡ c → (k : ℕ) → hold_of w.table x ≡ Opens k → LivesIn w n k

-- ---- the demand
abbrev pub IdsKeep : Type 0
IdsKeep =
    (w : World) → Reached w → (b : Bool) (n : ℕ) (ids : Channel) → Makes w b n ids →
    (later : List Call) → let v = run (step w (create b)) later in
    v.made < n + 65535 → (c : CapId) → IdOf ids c → OpensOnly v n c × Reach v n c

-- two live mailboxes never have one channel
abbrev pub OneMailbox : Type 0
OneMailbox = (w : World) → Reached w → (n j k : ℕ) → LivesIn w n j → LivesIn w n k → j ≡ k

-- ---- it is not for nothing
-- each of the two ids opens mailbox k, by its right
pub record OpensBoth (v : World) (k : ℕ) (ids : Channel) : Type 0 where
  pub sends : opening_of v.table ids.send send_right ≡ Opens k
  pub receives : opening_of v.table ids.recv receive_right ≡ Opens k

-- right after the creation channel n lives, and its two ids, which differ, open it, each by its one right
pub record OpensNow (v : World) (n : ℕ) (ids : Channel) : Type 0 where
  pub box : ℕ
  pub lives : LivesIn v n box
  pub both : OpensBoth v box ids
  pub sends_only : opening_of v.table ids.send receive_right ≡ Shut
  pub receives_only : opening_of v.table ids.recv send_right ≡ Shut
  pub differ : ids.send ≡ ids.recv → ⊥

abbrev pub IdsOpen : Type 0
IdsOpen = (w : World) → Reached w → (b : Bool) (n : ℕ) (ids : Channel) → Makes w b n ids → OpensNow (step w (create b)) n ids

-- and as long as channel n lives they open it, however many creations come
abbrev pub IdsStay : Type 0
IdsStay =
    (w : World) → Reached w → (b : Bool) (n : ℕ) (ids : Channel) → Makes w b n ids →
    (later : List Call) → let v = run (step w (create b)) later in (k : ℕ) → LivesIn v n k → OpensBoth v k ids

-- ---- both sides of the edge: "Channel 1 revoked at once: its id opens nothing after 65,534 more creations; after the 65,535th it may."
-- channel n lives nowhere, and its ids open nothing until 65,535 later creations have succeeded
pub record Ended (u : World) (n : ℕ) (ids : Channel) : Type 0 where
  pub gone : (k : ℕ) → LivesIn u n k → ⊥
  pub shut : u.made < n + 65535 → (d : CapId) → IdOf ids d → (need : CapRights) → opening_of u.table d need ≡ Shut

-- so it is from a revocation on, which ends the channel of the id that it is given
abbrev pub IdsEnd : Type 0
IdsEnd =
    (w : World) → Reached w → (b : Bool) (n : ℕ) (ids : Channel) → Makes w b n ids →
    (some : List Call) → let v = run (step w (create b)) some in
    v.made < n + 65535 → (c : CapId) → IdOf ids c → (x : Waiter) → answer v.table (revoke c) ≡ revoked (Ok x) →
    (later : List Call) → Ended (run (step v (revoke c)) later) n ids

-- with 65,535 the bound is exact: a run that makes channel 1, revokes it at once and makes 65,535 more, after which both its ids open the last
pub record IdsReturn : Type 0 where
  pub world : World
  pub reached : Reached world
  pub ids : Channel
  pub makes : Makes world false 1 ids
  pub more : List Call
  -- 65,534 creations later: nothing opens
  pub before : World
  pub came : before ≡ run (step (step world (create false)) (revoke ids.send)) more
  pub made_before : before.made ≡ 1 + 65534
  pub shut_before : (c : CapId) → IdOf ids c → (need : CapRights) → opening_of before.table c need ≡ Shut
  -- and one more: both open the channel that it made
  pub made : (step before (create false)).made ≡ 1 + 65535
  pub box : ℕ
  pub lives : LivesIn (step before (create false)) 65536 box
  pub both : OpensBoth (step before (create false)) box ids
