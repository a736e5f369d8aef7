-- The test of the mailboxes: each is as when fresh, or live with its two ends, its ring and no waiter that it should not have.
-- Assumes nothing.
use Rattle.std.specs.Prelude.{None, Option, Some}
use mathlib.Core.Path.{◌≡◌, refl, ap}
use mathlib.Core.Bool.{Bool, true, false, ◌&&◌, not}
use mathlib.Core.Logic.{◌⊎◌, inl, inr, ⊎_elim}
use Prim.Native.Nat.{ℕ, ◌<◌}
use borrow.Author.Tests.{eqb-true, eqb-false, eq-eqb, ne_eqb, ltb-true, lt-ltb, not-true}
use lib.Dec.{eqb, ltb}
use Rattle.laws.proofs.Cases.{not_both}
use Rattle.laws.specs.Pick.{pick}
use Rattle.laws.specs.Every.{every}
use Rattle.laws.proofs.Every.{every_at, at_every, and_left, and_right}
use Rattle.cap.specs.Rights.{send_right, receive_right}
use Rattle.ring.specs.Ring.{IsRing, ring_test}
use Rattle.ring.proofs.Tests.{ring_of, of_ring}
use Rattle.ipc_rules.specs.State.{Shape, fresh_mailbox, mailbox_at, mailbox_live, endpoint_at}
use Rattle.ipc_rules.specs.Sound.{Ends, Sound}
use Rattle.ipc_sound.specs.SoundTest.{is_fresh_mailbox, send_end, recv_end, waiter_test, ends_ok, mailbox_test, mailbox_ok}
use Rattle.ipc_rules.specs.declared.state.Mailbox.{Mailbox}
use Rattle.ipc_rules.specs.declared.state.Table.{Table}
use Rattle.laws.proofs.Bools.{either, below?, and_four, picked, not_picked}
use Rattle.ipc_sound.proofs.Elements.{fresh_mailbox_lem, Waits, waits_of, of_waits}
use Rattle.ipc_sound.proofs.DecideEndpoints.{Known, one_end, end_found}
use Rattle.ipc_sound.proofs.Shapes.{past}

-- the test of mailbox k
abbrev pub passing : Table → ℕ → Bool
passing t = mailbox_ok t.sizes.mailboxes t.sizes.depth t.endpoints t.mailboxes

-- mailbox k is a live one
pub record Live (t : Table) (k : ℕ) : Type 0 where
  pub live : mailbox_live t k ≡ true
  pub below : k < t.sizes.mailboxes
  pub ends : Ends t.endpoints k
  pub ring : IsRing t.sizes.depth (mailbox_at t k).ring
  pub waits : Waits (mailbox_at t k)

module _ (t : Table) (known : (i : ℕ) → Known t i) (k : ℕ) where
  ends_of : (s r : Option ℕ) → send_end t.endpoints k ≡ s → recv_end t.endpoints k ≡ r → ends_ok t.endpoints s r ≡ true → Ends t.endpoints k
  ends_of None r p q h = cc
  ends_of (Some s) None p q h = cc
  ends_of (Some s) (Some r) p q h =
      let g = (endpoint_at t s).generation in
      record {
        send = s;
        recv = r;
        one_send = one_end t known send_right k s p;
        one_recv = one_end t known receive_right k r q;
        one_generation = eqb-true _ _ (and_left (eqb g (endpoint_at t r).generation) (not (eqb g 0)) h);
        some_generation = eqb-false g 0 (not-true (eqb g 0) (and_right (eqb g (endpoint_at t r).generation) (not (eqb g 0)) h));
      }

  kind : passing t k ≡ true → (mailbox_at t k ≡ fresh_mailbox) ⊎ Live t k
  unfolding mailbox_ok mailbox_test
  kind h = ⊎_elim (λ v. inr (live v)) (λ d. inl (fresh_mailbox_lem b (not_picked b.live whole (is_fresh_mailbox b) h d))) (either b.live)
    where
      b : Mailbox
      b = mailbox_at t k

      below : Bool
      below = ltb k t.sizes.mailboxes

      ends : Bool
      ends = ends_ok t.endpoints (send_end t.endpoints k) (recv_end t.endpoints k)

      ring : Bool
      ring = ring_test t.sizes.depth b.ring

      whole : Bool
      whole = below && ends && ring && waiter_test b

      live : b.live ≡ true → Live t k
      live v =
          let p = and_four below ends ring (waiter_test b) (picked b.live whole (is_fresh_mailbox b) h v) in
          record { live = v; below = ltb-true _ _ p.0; ends = ends_of _ _ refl refl p.1; ring = ring_of _ b.ring p.2; waits = waits_of b p.3 }

pub kind_of : (t : Table) → Shape t → ((i : ℕ) → Known t i) → every (passing t) 32 ≡ true → (k : ℕ) → (mailbox_at t k ≡ fresh_mailbox) ⊎ Live t k
kind_of t shape known h k =
    ⊎_elim (λ l. kind t known k (every_at (passing t) 32 h k l)) (λ g. inl (past t.mailboxes fresh_mailbox 32 k shape.mailboxes g)) (below? k 32)

-- ---- and back
module _ (t : Table) (σ : Sound t) (k : ℕ) where
  in_size : mailbox_live t k ≡ true → k < t.sizes.mailboxes
  in_size v =
      ⊎_elim (λ l. l) (λ g. absurd (not_both _ v (ap (λ (b : Mailbox). b.live) (σ.mailboxes_past k g)))) (below? k t.sizes.mailboxes)

  of_ends : Ends t.endpoints k → ends_ok t.endpoints (send_end t.endpoints k) (recv_end t.endpoints k) ≡ true
  of_ends e =
      rw (end_found t σ.shape send_right k e.send e.one_send, end_found t σ.shape receive_right k e.recv e.one_recv)
      (simp (eq-eqb _ _ e.one_generation, ne_eqb _ _ e.some_generation))

  of_live : (below ends : Bool) → mailbox_live t k ≡ true → below ≡ true → ends ≡ true → mailbox_test (mailbox_at t k) below ends t.sizes.depth ≡ true
  unfolding mailbox_test pick
  of_live below ends v l e =
      simp (v, l, e, of_ring _ (mailbox_at t k).ring (σ.ring k v), of_waits (mailbox_at t k) (record { empty = σ.waits_empty k; held = σ.waits_held k }))

  of_dead : (below ends : Bool) → mailbox_live t k ≡ false → mailbox_test (mailbox_at t k) below ends t.sizes.depth ≡ true
  unfolding mailbox_test pick
  of_dead below ends v = rw (σ.dead k v)

  passes : passing t k ≡ true
  unfolding mailbox_ok
  passes =
      ⊎_elim (λ v. of_live _ _ v (lt-ltb _ _ (in_size v)) (of_ends (σ.ends k v))) (λ d. of_dead _ _ d) (either (mailbox_live t k))

pub mailboxes_pass : (t : Table) → Sound t → every (passing t) 32 ≡ true
mailboxes_pass t σ = at_every (passing t) 32 (λ k _. passes t σ k)
