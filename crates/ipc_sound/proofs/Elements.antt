-- The tests of single elements say what they are for, both ways. Assumes nothing.
use Rattle.std.specs.Prelude.{None, Option, Some}
use Rattle.std.specs.Option.{option_eq}
use mathlib.Core.Path.{◌≡◌, refl, ap}
use mathlib.Core.Bool.{Bool, true, false, ◌&&◌, ◌||◌, not}
use mathlib.Core.Logic.{⊎_elim}
use Prim.Native.Nat.{ℕ, ◌<◌}
use borrow.Author.Tests.{eqb-true, eq-eqb, ltb-true, lt-ltb, not-true}
use lib.Dec.{eqb, ltb}
use Rattle.laws.proofs.Cases.{not_both}
use Rattle.laws.proofs.Every.{and_left, and_right}
use Rattle.ipc_rules.specs.State.{fresh_message, fresh_endpoint, fresh_mailbox, nobody}
use Rattle.ring.specs.Ring.{is_fresh_ring}
use Rattle.ring.proofs.Tests.{empty_of}
use Rattle.ipc_sound.specs.SoundTest.{is_fresh_message, is_fresh_endpoint, is_nobody, is_fresh_mailbox, waiter_test}
use Rattle.ipc_rules.specs.declared.state.Message.{Message}
use Rattle.ipc_rules.specs.declared.state.Endpoint.{Endpoint}
use Rattle.ipc_rules.specs.declared.state.Mailbox.{Mailbox}
use Rattle.ipc_rules.specs.declared.state.Waiter.{Waiter}
use Rattle.laws.proofs.Bools.{and_three, and_four, or_cases}

-- ---- as when fresh
pub fresh_message_lem : (m : Message) → is_fresh_message m ≡ true → m ≡ fresh_message
fresh_message_lem m h =
    let p = and_four (eqb m.tag 0) (eqb m.a 0) (eqb m.b 0) (eqb m.row 0) h in
    λ i. record {
      tag = eqb-true m.tag 0 p.0 i;
      row = eqb-true m.row 0 p.3 i;
      a = eqb-true m.a 0 p.1 i;
      b = eqb-true m.b 0 p.2 i;
    }

pub fresh_endpoint_lem : (e : Endpoint) → is_fresh_endpoint e ≡ true → e ≡ fresh_endpoint
fresh_endpoint_lem e h =
    let p = and_four (not e.live) (eqb e.generation 0) (eqb e.rights.bits 0) (eqb e.mailbox 0) h in
    λ i. record {
      live = not-true e.live p.0 i;
      generation = eqb-true e.generation 0 p.1 i;
      rights = record { bits = eqb-true e.rights.bits 0 p.2 i };
      mailbox = eqb-true e.mailbox 0 p.3 i;
    }

is_nobody_lem : (w : Waiter) → is_nobody w ≡ true → w ≡ nobody
is_nobody_lem w h =
    let p = and_three (not w.present) (eqb w.task.slot 0) (eqb w.task.epoch 0) h in
    λ i. record {
      present = not-true w.present p.0 i;
      task = record { slot = eqb-true w.task.slot 0 p.1 i; epoch = eqb-true w.task.epoch 0 p.2 i };
    }

pub fresh_mailbox_lem : (b : Mailbox) → is_fresh_mailbox b ≡ true → b ≡ fresh_mailbox
fresh_mailbox_lem b h =
    let rest = is_nobody b.waiter && eqb b.send_holders 0 && not b.ephemeral in
    let p = and_three (not b.live) (is_fresh_ring b.ring) rest h in
    let q = and_three (is_nobody b.waiter) (eqb b.send_holders 0) (not b.ephemeral) p.2 in
    λ i. record {
      live = not-true b.live p.0 i;
      ring = empty_of b.ring p.1 i;
      waiter = is_nobody_lem b.waiter q.0 i;
      send_holders = eqb-true b.send_holders 0 q.1 i;
      ephemeral = not-true b.ephemeral q.2 i;
    }

-- ---- what was found
pub found_at : (o : Option ℕ) (i : ℕ) → option_eq eqb o (Some i) ≡ true → o ≡ Some i
found_at None i h = cc
found_at (Some j) i h = ap Some (eqb-true j i h)

pub at_found : (o : Option ℕ) (i : ℕ) → o ≡ Some i → option_eq eqb o (Some i) ≡ true
at_found o i e = rw e (eq-eqb i i refl)

-- ---- waiters
-- a waiter means length 0, and on an ephemeral mailbox holds above 0
pub record Waits (b : Mailbox) : Type 0 where
  pub empty : b.waiter.present ≡ true → b.ring.len ≡ 0
  pub held : b.waiter.present ≡ true → b.ephemeral ≡ true → 0 < b.send_holders

pub waits_of : (b : Mailbox) → waiter_test b ≡ true → Waits b
waits_of b h =
    record {
      empty = λ p. eqb-true b.ring.len 0 (and_left (eqb b.ring.len 0) held (waiting p));
      held = λ p a. ltb-true 0 b.send_holders (past b.ephemeral (ltb 0 b.send_holders) a (and_right (eqb b.ring.len 0) held (waiting p)));
    }
  where
    held : Bool
    held = not b.ephemeral || ltb 0 b.send_holders

    past : (x y : Bool) → x ≡ true → (not x || y) ≡ true → y ≡ true
    past x y e g = ⊎_elim (λ n. absurd (not_both _ e (not-true x n))) (λ q. q) (or_cases (not x) y g)

    waiting : b.waiter.present ≡ true → (eqb b.ring.len 0 && held) ≡ true
    waiting p = past b.waiter.present (eqb b.ring.len 0 && held) p h

pub of_waits : (b : Mailbox) → Waits b → waiter_test b ≡ true
of_waits b w = by b.waiter.present refl b.ephemeral refl
  where
    by : (p : Bool) → b.waiter.present ≡ p → (a : Bool) → b.ephemeral ≡ a → waiter_test b ≡ true
    by false p a q = simp p
    by true p false q = simp (p, q, eq-eqb _ _ (w.empty p))
    by true p true q = simp (p, q, eq-eqb _ _ (w.empty p), lt-ltb _ _ (w.held p q))
