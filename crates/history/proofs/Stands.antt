-- A mailbox with both its ids, as a call finds it and as the call leaves it: `Stands`, and for send, receive, park and register what they
-- answer there. Assumes nothing.
use Rattle.std.specs.Prelude.{None, Ok, Some}
use mathlib.Core.Path.{◌≡◌, sym, ap, ◌∙◌}
use mathlib.Core.Bool.{Bool, true, false}
use mathlib.Core.List.{List, [], ◌∷◌, ◌++◌}
use Prim.Native.Nat.{ℕ, ◌<◌}
use native.Mathlib.Omega.{arith}
use Rattle.laws.specs.Pick.{pick}
use Rattle.laws.specs.Every.{every}
use Rattle.laws.proofs.Cases.{not_both}
use Rattle.cap.specs.Rights.{send_right, receive_right}
use Rattle.cap.specs.Slot.{holding}
use Rattle.cap.specs.Word.{word_of, words_read, or_vacant, slots_of}
use Rattle.cap.proofs.Words.{holding_back, reads_test}
use Rattle.ipc_rules.specs.State.{nobody, waiting, stamped}
use Rattle.ipc_rules.specs.Sound.{Sound}
use Rattle.ipc_rules.specs.Counts.{raised}
use Rattle.ipc_rules.specs.Opening.{opening_of, hold_of}
use Rattle.ipc_rules.specs.Send.{send_of}
use Rattle.ipc_rules.specs.Receive.{recv_of, park_of}
use Rattle.ipc_rules.specs.Holds.{register_of}
use Rattle.ipc_rules.specs.Views.{queue_of, waiter_of, hold_count, ephemeral_of, held_in, raised_by, Steady}
use Rattle.ipc_rules.specs.declared.state.Channel.{Channel}
use Rattle.ipc_rules.specs.declared.state.Message.{Message}
use Rattle.ipc_rules.specs.declared.state.Payload.{Payload}
use Rattle.ipc_rules.specs.declared.state.TaskId.{TaskId}
use Rattle.ipc_rules.specs.declared.state.Waiter.{Waiter}
use Rattle.ipc_rules.specs.declared.state.Table.{Table}
use Rattle.ipc_rules.specs.declared.opening.Opening.TheVariants.{Opens}
use Rattle.ipc_rules.proofs.Held.{held_one}
use Rattle.ipc_rules.proofs.KeepsCalls.{send_kept, recv_kept, park_kept}
use Rattle.ipc_rules.proofs.AfterSend.{send_accepts}
use Rattle.ipc_rules.proofs.AfterReceive as receives
use Rattle.ipc_rules.proofs.AfterPark as parks
use Rattle.ipc_rules.proofs.AfterRegister as registers
use Rattle.history.specs.Calls.{register, after}
use Rattle.history.proofs.Kept.{after_sound}

-- both ids open mailbox k, of this kind and with n holds; q is queued, and x waits
pub record Stands (t : Table) (k : ℕ) (ids : Channel) (b : Bool) (n : ℕ) (q : List Message) (x : Waiter) : Type 0 where
  pub sound : Sound t
  pub sends : opening_of t ids.send send_right ≡ Opens k
  pub receives : opening_of t ids.recv receive_right ≡ Opens k
  pub kind : ephemeral_of t k ≡ b
  pub holds : hold_count t k ≡ n
  pub queue : queue_of t k ≡ q
  pub waiter : waiter_of t k ≡ x

module _ {t : Table} {k : ℕ} {ids : Channel} {b : Bool} {n : ℕ} where
  -- in u the openings and the kind are as they were, and it has n' holds, q' queued, and x' waiting
  still : {q : List Message} {x : Waiter} {u : Table} {n' : ℕ} {q' : List Message} {x' : Waiter} → Stands t k ids b n q x →
      Sound u → Steady t u → ephemeral_of u k ≡ ephemeral_of t k → hold_count u k ≡ n' → queue_of u k ≡ q' → waiter_of u k ≡ x' → Stands u k ids b n' q' x'
  still s σ y e h p w =
      record {
        sound = σ;
        sends = y.opening ids.send send_right ∙ s.sends;
        receives = y.opening ids.recv receive_right ∙ s.receives;
        kind = e ∙ s.kind;
        holds = h;
        queue = p;
        waiter = w;
      }

  -- ---- send
  pub send_stands : {x : Waiter} (p : Payload) (row : ℕ) → row < 54 → Stands t k ids b n [] x →
      ((send_of t ids.send p row).answer ≡ Ok x) × Stands (send_of t ids.send p row).table k ids b n (stamped p row ∷ []) nobody
  send_stands p row sender s =
      let d = s.sound.sizes.deep in
      let y = send_accepts t ids.send p row s.sound sender (record { box = k; opens = s.sends; below = rw s.queue d }) in
      let q = y.queue ∙ ap (λ (q : List Message). q ++ (stamped p row ∷ [])) s.queue in
      (y.answer ∙ ap Ok s.waiter, still s (send_kept t ids.send p row s.sound) y.rest.steady y.ephemeral (y.holds ∙ s.holds) q y.waiter)

  -- ---- receive, and park, where one message is queued
  gives_stands : {x : Waiter} {m m' : Message} {u : Table} → Sound u → Stands t k ids b n (m ∷ []) x → receives.Gives t k m' u → (m' ≡ m) × Stands u k ids b n [] x
  gives_stands {m = m} {m'} {u} σ s g =
      let e : m' ∷ queue_of u k ≡ m ∷ [] = sym g.queue ∙ s.queue in
      let none : queue_of u k ≡ [] = cc in
      ((cc), still s σ g.rest.steady g.ephemeral (g.holds ∙ s.holds) none (g.waiter ∙ s.waiter))

  pub recv_stands : {x : Waiter} {m : Message} → Stands t k ids b n (m ∷ []) x →
      ((recv_of t ids.recv).answer ≡ Ok m) × Stands (recv_of t ids.recv).table k ids b n [] x
  recv_stands {x} {m} s = by (receives.recv_ways t ids.recv s.sound)
    where
      by : receives.RecvWays t ids.recv (recv_of t ids.recv) → ((recv_of t ids.recv).answer ≡ Ok m) × Stands (recv_of t ids.recv).table k ids b n [] x
      by (receives.bad_cap o _) = let e = s.receives in let z : ◌≡◌ {A = ℕ} 0 1 = cc in absurd (omega arith)
      by (receives.empty j o q _) = let e = s.receives in let h : j ≡ k = cc in let f = s.queue in let z : ◌≡◌ {A = ℕ} 0 1 = cc in absurd (omega arith)
      by (receives.received j m' o a g) =
          let e = s.receives in
          let h : j ≡ k = cc in
          let y = gives_stands (recv_kept t ids.recv s.sound) s (rw h at g) in
          (a ∙ ap Ok y.0, y.1)

  pub given_stands : {x : Waiter} {m : Message} (task : TaskId) → Stands t k ids b n (m ∷ []) x →
      ((park_of t ids.recv task).answer ≡ Ok (Some m)) × Stands (park_of t ids.recv task).table k ids b n [] x
  given_stands {x} {m} task s = by (parks.park_ways t ids.recv task s.sound)
    where
      some : {A : Type 0} (j : ℕ) → opening_of t ids.recv receive_right ≡ Opens j → queue_of t j ≡ [] → A
      some j o q = let e = s.receives in let h : j ≡ k = cc in let f = s.queue in let z : ◌≡◌ {A = ℕ} 0 1 = cc in absurd (omega arith)

      by : parks.ParkWays t ids.recv task (park_of t ids.recv task) →
          ((park_of t ids.recv task).answer ≡ Ok (Some m)) × Stands (park_of t ids.recv task).table k ids b n [] x
      by (parks.bad_cap o _) = let e = s.receives in let z : ◌≡◌ {A = ℕ} 0 1 = cc in absurd (omega arith)
      by (parks.given j m' o a g) =
          let e = s.receives in
          let h : j ≡ k = cc in
          let y = gives_stands (park_kept t ids.recv task s.sound) s (rw h at g) in
          (a ∙ ap (λ (v : Message). Ok (Some v)) y.0, y.1)
      by (parks.cancelled j o q _ _ _) = some j o q
      by (parks.busy j o w _ _ _) = some j o w.empty
      by (parks.parked j o w _ _) = some j o w.empty

  -- ---- park, where nothing is queued and nobody waits, and where the mailbox is ephemeral a hold is left
  pub park_stands : (task : TaskId) → (b ≡ true → 0 < n) → Stands t k ids b n [] nobody →
      ((park_of t ids.recv task).answer ≡ Ok None) × Stands (park_of t ids.recv task).table k ids b n [] (waiting task)
  park_stands task held s = by (parks.park_ways t ids.recv task s.sound)
    where
      at : (j : ℕ) → opening_of t ids.recv receive_right ≡ Opens j → j ≡ k
      at j o = let e = s.receives in cc

      by : parks.ParkWays t ids.recv task (park_of t ids.recv task) →
          ((park_of t ids.recv task).answer ≡ Ok None) × Stands (park_of t ids.recv task).table k ids b n [] (waiting task)
      by (parks.bad_cap o _) = let e = s.receives in let z : ◌≡◌ {A = ℕ} 0 1 = cc in absurd (omega arith)
      by (parks.given j m o _ g) = let h = at j o in let f = s.queue in let q = g.queue in let z : ◌≡◌ {A = ℕ} 0 1 = cc in absurd (omega arith)
      by (parks.cancelled j o _ e z _) =
          let h = at j o in
          let some = held (sym s.kind ∙ ap (ephemeral_of t) (sym h) ∙ e) in
          let none : n ≡ 0 = sym s.holds ∙ ap (hold_count t) (sym h) ∙ z in
          absurd (omega arith)
      by (parks.busy j o _ p _ _) =
          let none : (waiter_of t j).present ≡ false = ap (λ (i : ℕ). (waiter_of t i).present) (at j o) ∙ ap (λ (x : Waiter). x.present) s.waiter in
          absurd (not_both _ p none)
      by (parks.parked j o _ a y) =
          let p : parks.Parks t k task (park_of t ids.recv task).table = rw (at j o) at y in
          (a, still s (park_kept t ids.recv task s.sound) p.rest.steady p.ephemeral (p.holds ∙ s.holds) (p.queue ∙ s.queue) p.waiter)

-- ---- register, with the send id alone
module _ (t : Table) (k : ℕ) (ids : Channel) (b : Bool) (small : ids.send.raw < 4294967296) (s : Stands t k ids b 0 [] nobody) where
  abbrev word : ℕ
  word = word_of (holding ids.send)

  reads : words_read (word ∷ []) ≡ true
  unfolding every
  reads = reads_test word (holding ids.send) (holding_back ids.send small)

  hold : hold_of t (holding ids.send) ≡ Opens k
  unfolding hold_of pick
  hold = s.sends

  once : held_in t k (slots_of (word ∷ [])) ≡ 1
  unfolding held_in slots_of or_vacant
  once = rw (holding_back ids.send small, held_one t k (holding ids.send) hold)

  raised_once : raised_by (held_in t k (slots_of (word ∷ []))) (hold_count t k) ≡ 1
  unfolding raised_by raised pick
  raised_once = rw (once, s.holds)

  pub register_stands : ((register_of t (word ∷ [])).answer ≡ Ok tt) × Stands (register_of t (word ∷ [])).table k ids b 1 [] nobody
  unfolding after
  register_stands = by (registers.register_call_ways t (word ∷ []) s.sound)
    where
      by : registers.RegisterCallWays t (word ∷ []) (register_of t (word ∷ [])) →
          ((register_of t (word ∷ [])).answer ≡ Ok tt) × Stands (register_of t (word ∷ [])).table k ids b 1 [] nobody
      by (registers.bad_word h _) = absurd (not_both _ reads h)
      by (registers.all _ a y) =
          let x = y.mailboxes k in
          (a, still s (after_sound t (register (word ∷ [])) s.sound) y.steady x.ephemeral (x.holds ∙ raised_once) (x.queue ∙ s.queue) (x.waiter ∙ s.waiter))
