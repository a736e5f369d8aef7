-- What idle programs fail: `fresh_creates_two`, `messages_come`, `waiters_named`, `held_waiters_named`. A channel that was just made
-- `Stands` with nothing queued and nobody waiting, and each round of calls leads back there. Assumes nothing.
use mathlib.Core.Path.{◌≡◌, refl, ap}
use mathlib.Core.Bool.{Bool, true, false}
use mathlib.Core.List.{List, [], ◌∷◌}
use mathlib.Core.Logic.{inl}
use Prim.Native.Nat.{ℕ, ◌+◌, ◌*◌, ◌<◌}
use native.Mathlib.Omega.{arith}
use Rattle.cap.specs.Id.{id_of}
use Rattle.cap.specs.declared.CapId.{CapId}
use Rattle.ipc_rules.specs.State.{nobody}
use Rattle.ipc_rules.specs.Sound.{Sound}
use Rattle.ipc_rules.specs.declared.state.Channel.{Channel}
use Rattle.history.specs.Calls.{create, Answer, sent, received, parked, registered, answer, after}
use Rattle.history.specs.Calls as call
use Rattle.history.specs.World.{World, on_creation, step, answers, Reached}
use Rattle.history.specs.Ids.{Makes}
use Rattle.history.specs.Idle.{FreshCreates, Sentence, exchange, exchanged, MessagesCome, Wait, waits, waited, WaitersNamed, HeldWaitersNamed}
use Rattle.history.proofs.Kept.{reached_sound, step_sound}
use Rattle.history.proofs.Ids.{issued, Placed, placed}
use Rattle.history.proofs.ExamplesIds.{fresh_creates}
use Rattle.history.proofs.Stands.{Stands, send_stands, recv_stands, given_stands, park_stands, register_stands}

pub fresh_creates_two : FreshCreates
fresh_creates_two d b =
    record {
      ids = record { send = id_of 0 1; recv = id_of 1 1 };
      makes = record { answers = fresh_creates d b; number = refl };
      differ = λ e. let z : 0 + 65536 * 1 ≡ 1 + 65536 * 1 = ap (λ (c : CapId). c.raw) e in omega arith;
    }

-- ---- rounds
next : {a a' : Answer} {x y : List Answer} → a ≡ a' → x ≡ y → a ∷ x ≡ a' ∷ y
next p q = rw (p, q)

exchange_stands : (v : World) (k : ℕ) (ids : Channel) (b : Bool) (n : ℕ) (xs : List Sentence) →
    Stands v.table k ids b n [] nobody → answers v (exchange ids xs) ≡ exchanged xs
unfolding exchange exchanged answers answer step after on_creation
exchange_stands v k ids b n [] s = refl
exchange_stands v k ids b n (x ∷ xs) s =
    let p = send_stands x.parts x.row x.sender s in
    let q = recv_stands p.1 in
    next (ap sent p.0) (next (ap received q.0) (exchange_stands (step (step v (call.send ids.send x.parts x.row)) (call.receive ids.recv)) k ids b n xs q.1))

waits_stands : (v : World) (k : ℕ) (ids : Channel) (b : Bool) (n : ℕ) (xs : List Wait) → (b ≡ true → 0 < n) →
    Stands v.table k ids b n [] nobody → answers v (waits ids xs) ≡ waited xs
unfolding waits waited answers answer step after on_creation
waits_stands v k ids b n [] held s = refl
waits_stands v k ids b n (x ∷ xs) held s =
    let p = park_stands x.task held s in
    let q = send_stands x.sentence.parts x.sentence.row x.sentence.sender p.1 in
    let r = given_stands x.task q.1 in
    next (ap parked p.0) (next (ap sent q.0) (next (ap parked r.0) (waits_stands (step (step (step v (call.park ids.recv x.task)) (call.send ids.send x.sentence.parts x.sentence.row)) (call.park ids.recv x.task)) k ids b n xs held r.1)))

-- ---- a channel that was just made
record Begins (w : World) (b : Bool) (ids : Channel) : Type 0 where
  box : ℕ
  stands : Stands (step w (create b)).table box ids b 0 [] nobody

placed_begins : (w : World) (b : Bool) (ids : Channel) → Sound w.table → Placed w b ids → Begins w b ids
placed_begins w b ids σ p =
    let x = p.births.makes in
    record {
      box = p.box;
      stands = record {
        sound = step_sound w (create b) σ;
        sends = rw (p.births.table, p.send_id) x.openings.sends;
        receives = rw (p.births.table, p.recv_id) x.openings.receives;
        kind = rw p.births.table x.kind;
        holds = rw p.births.table x.holds;
        queue = rw p.births.table x.queue;
        waiter = rw p.births.table x.waiter;
      };
    }

begins : (w : World) → Reached w → (b : Bool) (n : ℕ) (ids : Channel) → Makes w b n ids → Begins w b ids
begins w reached b n ids m = let σ = reached_sound reached in placed_begins w b ids σ (placed w b n ids σ m)

-- ---- what it does
pub messages_come : MessagesCome
messages_come w reached b n ids m xs = let β = begins w reached b n ids m in exchange_stands _ β.box ids b 0 xs β.stands

pub waiters_named : WaitersNamed
waiters_named w reached n ids m xs =
    let β = begins w reached false n ids m in
    waits_stands _ β.box ids false 0 xs (λ e. let z : ◌≡◌ {A = ℕ} 0 1 = cc in absurd (omega arith)) β.stands

pub held_waiters_named : HeldWaitersNamed
unfolding answers answer step after on_creation
held_waiters_named w reached b n ids m xs =
    let β = begins w reached b n ids m in
    let g = (issued w b n ids ids.send reached m (inl refl)).generation in
    let p = register_stands _ β.box ids b (omega arith) β.stands in
    next (ap registered p.0) (waits_stands _ β.box ids b 1 xs (λ _. omega arith) p.1)
