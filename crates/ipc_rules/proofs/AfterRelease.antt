-- Release of one slot, `released`: its ways, and what each changes and leaves. Assumes nothing.
use mathlib.Core.Path.{◌≡◌, refl, ap}
use mathlib.Core.Bool.{true}
use mathlib.Core.List.{[], ◌∷◌}
use Prim.Native.Nat.{ℕ, ◌-◌}
use borrow.Author.Tests.{eqb-true, eq-eqb}
use lib.Dec.{eqb}
use Rattle.laws.proofs.Cases.{all_pick, not_both}
use Rattle.cap.specs.Rights.{send_right}
use Rattle.cap.specs.declared.slot.Slot.{Slot}
use Rattle.ipc_rules.specs.State.{nobody, mailbox_at, mailbox_live, message_in, with_mailbox, with_waiter}
use Rattle.ipc_rules.specs.Sound.{Sound}
use Rattle.ipc_rules.specs.Opening.{hold_of}
use Rattle.ipc_rules.specs.Holds.{fewer, reaps, released, Freed}
use Rattle.ring.specs.Ring.{contents}
use Rattle.ipc_rules.specs.Views.{queue_of, waiter_of, hold_count, ephemeral_of, Alike, Steady, OnlyMailbox}
use Rattle.ipc_rules.specs.declared.state.Mailbox.{Mailbox}
use Rattle.ipc_rules.specs.declared.state.Waiter.{Waiter}
use Rattle.ipc_rules.specs.declared.state.Table.{Table}
use Rattle.ipc_rules.specs.declared.opening.Opening.TheVariants.{Opens, Shut}
use Rattle.laws.proofs.Bools.{and_three}
use Rattle.ipc_rules.proofs.Openings.{all_opened, opens_live, hold_opens, box_same}
use Rattle.ipc_rules.proofs.Changes.{alike_same, steady_same, mailbox_anew}

-- one hold less leaves none, mailbox k is ephemeral, and a task waits on it
pub record Reaps (t : Table) (k : ℕ) : Type 0 where
  pub none_left : hold_count t k - 1 ≡ 0
  pub ephemeral : ephemeral_of t k ≡ true
  pub waits : (waiter_of t k).present ≡ true

-- mailbox k has one hold less, not below 0
pub record Releases (t : Table) (k : ℕ) (u : Table) : Type 0 where
  pub holds : hold_count u k ≡ hold_count t k - 1
  pub queue : queue_of u k ≡ queue_of t k
  pub live : mailbox_live u k ≡ mailbox_live t k
  pub ephemeral : ephemeral_of u k ≡ ephemeral_of t k
  pub rest : OnlyMailbox t u k

-- a slot that holds no send end is skipped; the waiter stays, or it is taken out and woken
pub data ReleaseWays (t : Table) (x : Slot) (r : Freed) : Type 0 where
  skipped : hold_of t x ≡ Shut → r ≡ record { table = t; woken = [] } → ReleaseWays t x r
  kept : (k : ℕ) → hold_of t x ≡ Opens k → (Reaps t k → ⊥) → Releases t k r.table → waiter_of r.table k ≡ waiter_of t k → r.woken ≡ [] → ReleaseWays t x r
  woke : (k : ℕ) → hold_of t x ≡ Opens k → Reaps t k → Releases t k r.table → waiter_of r.table k ≡ nobody → r.woken ≡ waiter_of t k ∷ [] → ReleaseWays t x r

reaps_is : (t : Table) (k : ℕ) → reaps (fewer (mailbox_at t k)) ≡ true → Reaps t k
reaps_is t k h =
    let p = and_three (eqb (hold_count t k - 1) 0) (ephemeral_of t k) (waiter_of t k).present h in
    record { none_left = eqb-true _ _ p.0; ephemeral = p.1; waits = p.2 }

is_reaps : (t : Table) (k : ℕ) → Reaps t k → reaps (fewer (mailbox_at t k)) ≡ true
is_reaps t k r = simp (eq-eqb _ _ r.none_left, r.ephemeral, r.waits)

-- mailbox k with one hold less, and any waiter
module _ (t : Table) (k : ℕ) (w : Waiter) (s : Sound t) (l : mailbox_live t k ≡ true) where
  abbrev b : Mailbox
  b = with_waiter (fewer (mailbox_at t k)) w

  box : mailbox_at (with_mailbox t k b) k ≡ b
  box = box_same t k b s l

  same_queue : queue_of (with_mailbox t k b) k ≡ queue_of t k
  unfolding queue_of
  same_queue = ap (λ (x : Mailbox). contents (message_in t k) t.sizes.depth x.ring) box

  releases : Releases t k (with_mailbox t k b)
  releases =
      record {
        holds = ap (λ (x : Mailbox). x.send_holders) box;
        queue = same_queue;
        live = ap (λ (x : Mailbox). x.live) box;
        ephemeral = ap (λ (x : Mailbox). x.ephemeral) box;
        rest = mailbox_anew t k b s;
      }

  waiter_is : waiter_of (with_mailbox t k b) k ≡ w
  waiter_is = ap (λ (x : Mailbox). x.waiter) box

pub release_ways : (t : Table) (x : Slot) → Sound t → ReleaseWays t x (released t x)
unfolding released
release_ways t x s =
    all_opened (ReleaseWays t x) _ _ _ (λ o. skipped o refl) (λ k o.
    let l = opens_live t x.id send_right k s (hold_opens t x k o).1 in
    all_pick (ReleaseWays t x) _ _ _ (λ h. woke k o (reaps_is t k h) (releases t k nobody s l) (waiter_is t k nobody s l) refl)
    (λ h. kept k o (λ r. not_both _ (is_reaps t k r) h) (releases t k (waiter_of t k) s l) (waiter_is t k (waiter_of t k) s l) refl))

-- ---- what every release leaves
module _ (t : Table) (x : Slot) (s : Sound t) where
  pub release_steady : Steady t (released t x).table
  release_steady = by (release_ways t x s)
    where
      by : ReleaseWays t x (released t x) → Steady t (released t x).table
      by (skipped _ q) = rw q (steady_same t)
      by (kept _ _ _ r _ _) = r.rest.steady
      by (woke _ _ _ r _ _) = r.rest.steady

  pub release_others : (j : ℕ) → (hold_of t x ≡ Opens j → ⊥) → Alike t (released t x).table j
  release_others j ne = by (release_ways t x s)
    where
      by : ReleaseWays t x (released t x) → Alike t (released t x).table j
      by (skipped _ q) = rw q (alike_same t j)
      by (kept _ o _ r _ _) = r.rest.others j (λ e. ne (rw e o))
      by (woke _ o _ r _ _) = r.rest.others j (λ e. ne (rw e o))

  pub release_counts : (released t x).table.counters.refusals ≡ t.counters.refusals
  release_counts = by (release_ways t x s)
    where
      by : ReleaseWays t x (released t x) → (released t x).table.counters.refusals ≡ t.counters.refusals
      by (skipped _ q) = ap (λ (r : Freed). r.table.counters.refusals) q
      by (kept _ _ _ r _ _) = r.rest.counts
      by (woke _ _ _ r _ _) = r.rest.counts
