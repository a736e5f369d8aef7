-- Messages go in where there is room, and the oldest comes out, to each id that opens the channel. Assumes nothing.
use Rattle.std.specs.Prelude.{Option, Result}
use mathlib.Core.Path.{◌≡◌, refl, sym, ap, ◌∙◌}
use mathlib.Core.Bool.{true}
use mathlib.Core.List.{List, [], ◌∷◌}
use Prim.Native.Nat.{ℕ, ◌<◌}
use native.Mathlib.Omega.{arith}
use lib.ListN.{length}
use Rattle.laws.specs.Pick.{pick}
use Rattle.cap.specs.Rights.{send_right, receive_right}
use Rattle.cap.specs.declared.CapId.{CapId}
use Rattle.cap.specs.declared.CapRights.{CapRights}
use Rattle.ipc_rules.specs.State.{stamped}
use Rattle.ipc_rules.specs.Opening.{opening_of}
use Rattle.ipc_rules.specs.Receive.{recv_of, park_of}
use Rattle.ipc_rules.specs.Views.{queue_of}
use Rattle.ipc_rules.specs.declared.state.Message.{Message}
use Rattle.ipc_rules.specs.declared.state.Payload.{Payload}
use Rattle.ipc_rules.specs.declared.state.TaskId.{TaskId}
use Rattle.ipc_rules.specs.declared.state.Table.{Table}
use Rattle.ipc_rules.specs.declared.opening.Opening.TheVariants.{Opens, Shut}
use Rattle.ipc_rules.proofs.Openings.{opens_live}
use Rattle.ipc_rules.proofs.AfterSend as after-send
use Rattle.ipc_rules.proofs.AfterReceive as after-recv
use Rattle.ipc_rules.proofs.AfterPark as after-park
use Rattle.history.specs.Calls.{receive, park, send}
use Rattle.history.specs.World.{World}
use Rattle.history.specs.Channels.{LivesIn, on}
use Rattle.history.specs.Traffic.{if_sent, by_receive, by_park, accepted, given}
use Rattle.history.specs.Messages.{GoesIn, ComesOut, EachSent, SomeGives, EachReceived, EachGiven}
use Rattle.history.proofs.Tidy.{Tidy, reached_tidy}
use Rattle.history.proofs.Leading.{leads_to, leads_own}
use Rattle.ipc_rules.specs.declared.answers.RecvError.{RecvError}
use Rattle.shown.specs.declared.Answered.{Answered}
use Rattle.ipc_rules.specs.declared.answers.ParkError.{ParkError}

module _ (w : World) (τ : Tidy w) (n k : ℕ) (h : LivesIn w n k) where
  abbrev t : Table
  t = w.table

  -- an id that opens channel n opens mailbox k
  opens_here : (c : CapId) (need : CapRights) → on w n c need ≡ true → opening_of t c need ≡ Opens k
  opens_here c need e =
      let a = leads_to w n (opening_of t c need) e in
      a.opens ∙ ap Opens (τ.single a.box k (opens_live t c need a.box τ.sound a.opens) h.live (a.tenant ∙ sym h.tenant))

  goes_in_here : (c : CapId) (p : Payload) (row : ℕ) → row < 54 → length (queue_of t k) < t.sizes.depth → on w n c send_right ≡ true → accepted w n (send c p row) ≡ stamped p row ∷ []
  unfolding accepted pick if_sent
  goes_in_here c p row sender room e =
      let x = after-send.send_accepts t c p row τ.sound sender (record { box = k; opens = opens_here c send_right e; below = room }) in
      rw (e, x.answer)

  -- the message that stands first is the one that is taken
  first : {m x : Message} {rest left : List Message} → queue_of t k ≡ m ∷ rest → queue_of t k ≡ x ∷ left → x ≡ m
  first a b = cc

  -- and where one stands the queue is not empty
  some : {A : Type 0} {m : Message} {rest : List Message} → queue_of t k ≡ m ∷ rest → queue_of t k ≡ [] → A
  some a b = let z : ◌≡◌ {A = ℕ} 0 1 = cc in absurd (omega arith)

  module _ (m : Message) (rest : List Message) (q : queue_of t k ≡ m ∷ rest) (c : CapId) (e : on w n c receive_right ≡ true) where
    -- what the id opens is mailbox k
    same : {j : ℕ} → opening_of t c receive_right ≡ Opens j → j ≡ k
    same o = cc (o, opens_here c receive_right e)

    shut : {A : Type 0} → opening_of t c receive_right ≡ Shut → A
    shut o = let o' = opens_here c receive_right e in let z : ◌≡◌ {A = ℕ} 0 1 = cc in absurd (omega arith)

    received : {r : Answered (Result Message RecvError) Table} → after-recv.RecvWays t c r → by_receive r.answer ≡ m ∷ []
    unfolding by_receive
    received (after-recv.bad_cap o _) = shut o
    received (after-recv.empty j o z _) = some q (rw (same o) at z)
    received (after-recv.received j x o a g) = rw a (ap (λ (y : Message). y ∷ []) (first q (rw (same o) at g.queue)))

    parked : (task : TaskId) {r : Answered (Result (Option Message) ParkError) Table} → after-park.ParkWays t c task r → by_park r.answer ≡ m ∷ []
    unfolding by_park
    parked task (after-park.bad_cap o _) = shut o
    parked task (after-park.given j x o a g) = rw a (ap (λ (y : Message). y ∷ []) (first q (rw (same o) at g.queue)))
    parked task (after-park.cancelled j o z _ _ _) = some q (rw (same o) at z)
    parked task (after-park.busy j o z _ _ _) = some q (rw (same o) at z.empty)
    parked task (after-park.parked j o z _ _) = some q (rw (same o) at z.empty)

    comes_out_here : (given w n (receive c) ≡ m ∷ []) × ((task : TaskId) → given w n (park c task) ≡ m ∷ [])
    unfolding given pick
    comes_out_here = (rw e (received (after-recv.recv_ways t c τ.sound)), λ task. rw e (parked task (after-park.park_ways t c task τ.sound)))

pub goes_in : GoesIn
goes_in w r n k h room c p row sender e = record { lives = h; accepts = goes_in_here w (reached_tidy r) n k h c p row sender room e; others = refl }

pub comes_out : ComesOut
comes_out w r n k h m rest q c e = comes_out_here w (reached_tidy r) n k h m rest q c e

-- ---- by answer
pub each_sent : EachSent
unfolding accepted pick if_sent
each_sent w r c p row x e =
    let σ = (reached_tidy r).sound in
    let y = after-send.sent_room w.table c p row σ x e in
    let a = y.1 in
    let k = a.box in
    record {
      sender = y.0;
      number = w.tenant k;
      box = k;
      ahead = length (queue_of w.table k);
      is = record {
        lives = record { live = opens_live w.table c send_right k σ a.opens; tenant = refl };
        accepts = rw (leads_own w k (opening_of w.table c send_right) a.opens, e);
        others = refl;
      };
    }

pub each_received : EachReceived
unfolding given pick by_receive
each_received w r c m e = by (after-recv.recv_ways w.table c (reached_tidy r).sound)
  where
    by : after-recv.RecvWays w.table c (recv_of w.table c) → SomeGives w (receive c) m
    by (after-recv.bad_cap _ q) = let z : ◌≡◌ {A = ℕ} 0 1 = cc in absurd (omega arith)
    by (after-recv.empty _ _ _ q) = let z : ◌≡◌ {A = ℕ} 0 1 = cc in absurd (omega arith)
    by (after-recv.received k _ o _ _) = record { number = w.tenant k; is = rw (leads_own w k (opening_of w.table c receive_right) o, e) }

pub each_given : EachGiven
unfolding given pick by_park
each_given w r c task m e = by (after-park.park_ways w.table c task (reached_tidy r).sound)
  where
    by : after-park.ParkWays w.table c task (park_of w.table c task) → SomeGives w (park c task) m
    by (after-park.bad_cap _ q) = let z : ◌≡◌ {A = ℕ} 0 1 = cc in absurd (omega arith)
    by (after-park.given k _ o _ _) = record { number = w.tenant k; is = rw (leads_own w k (opening_of w.table c receive_right) o, e) }
    by (after-park.cancelled _ _ _ _ _ q) = let z : ◌≡◌ {A = ℕ} 0 1 = cc in absurd (omega arith)
    by (after-park.busy _ _ _ _ _ q) = let z : ◌≡◌ {A = ℕ} 0 1 = cc in absurd (omega arith)
    by (after-park.parked _ _ _ q _) = let z : ◌≡◌ {A = ℕ} 0 1 = cc in absurd (omega arith)
