-- What a table with its counts anew or with one mailbox anew shows: all else is seen as it was. Assumes nothing.
use mathlib.Core.Path.{◌≡◌, refl, ap, ◌∙◌}
use mathlib.Core.Bool.{Bool, true, false}
use mathlib.Core.List.{List, []}
use Prim.Native.Nat.{ℕ, ◌<◌}
use native.Mathlib.Omega.{arith}
use lib.ListN.{length, set}
use lib.Seq.{get_or-set_other}
use Rattle.ring.specs.Ring.{IsRing, ring_from}
use Rattle.ring.proofs.Rings.{empty_is, contents_length, contents_same}
use Rattle.ipc_rules.specs.State.{fresh_mailbox, mailbox_at, mailbox_live, message_in, with_mailbox, with_mailboxes, with_refusals}
use Rattle.ipc_rules.specs.Sound.{Sound}
use Rattle.ipc_rules.specs.Opening.{opening_of}
use Rattle.ipc_rules.specs.Views.{queue_of, Alike, Steady, OnlyMailbox, OnlyCounts}
use Rattle.ipc_rules.specs.declared.state.Mailbox.{Mailbox}
use Rattle.ipc_rules.specs.declared.state.Refusals.{Refusals}
use Rattle.ipc_rules.specs.declared.state.Table.{Table}

-- ---- queues
-- as many messages wait as the mailbox says
pub queue_length : (t : Table) (k : ℕ) → length (queue_of t k) ≡ (mailbox_at t k).ring.len
unfolding queue_of
queue_length t k = contents_length (message_in t k) t.sizes.depth (mailbox_at t k).ring

pub queue_none : (t : Table) (k : ℕ) → (mailbox_at t k).ring.len ≡ 0 → queue_of t k ≡ []
unfolding queue_of ring_from
queue_none t k e = rw e

-- ---- a mailbox that stands as it stood
-- live or not, it has a ring
pub has_ring : (t : Table) (k : ℕ) → Sound t → IsRing t.sizes.depth (mailbox_at t k).ring
has_ring t k s = by (mailbox_live t k) refl
  where
    by : (b : Bool) → mailbox_live t k ≡ b → IsRing t.sizes.depth (mailbox_at t k).ring
    by true l = s.ring k l
    by false l = rw (s.dead k l) (empty_is _ s.sizes.deep)

-- with its message places it is seen as it was
pub alike_of : (t u : Table) (k : ℕ) → Sound t → u.sizes ≡ t.sizes → mailbox_at u k ≡ mailbox_at t k → ((p : ℕ) → p < 8 → message_in u k p ≡ message_in t k p) → Alike t u k
unfolding queue_of
alike_of t u k s z e h =
    record {
      live = ap (λ (b : Mailbox). b.live) e;
      ephemeral = ap (λ (b : Mailbox). b.ephemeral) e;
      queue = rw (z, e) (contents_same _ _ _ _ (has_ring t k s) (λ p l. h p (let d = s.sizes.depth in omega arith)));
      waiter = ap (λ (b : Mailbox). b.waiter) e;
      holds = ap (λ (b : Mailbox). b.send_holders) e;
    }

-- ---- nothing anew
pub alike_same : (t : Table) (k : ℕ) → Alike t t k
alike_same t k = record { live = refl; ephemeral = refl; queue = refl; waiter = refl; holds = refl }

pub steady_same : (t : Table) → Steady t t
steady_same t = record { sizes = refl; opening = λ _ _. refl; next = refl }

pub alike_then : {t u v : Table} {k : ℕ} → Alike t u k → Alike u v k → Alike t v k
alike_then a b =
    record {
      live = b.live ∙ a.live;
      ephemeral = b.ephemeral ∙ a.ephemeral;
      queue = b.queue ∙ a.queue;
      waiter = b.waiter ∙ a.waiter;
      holds = b.holds ∙ a.holds;
    }

pub steady_then : {t u v : Table} → Steady t u → Steady u v → Steady t v
steady_then a b = record { sizes = b.sizes ∙ a.sizes; opening = λ c need. b.opening c need ∙ a.opening c need; next = b.next ∙ a.next }

-- ---- the counts anew
pub counts_anew : (t : Table) (x : Refusals) → OnlyCounts t (with_refusals t x)
unfolding opening_of queue_of
counts_anew t x =
    record {
      steady = record { sizes = refl; opening = λ _ _. refl; next = refl };
      mailboxes = λ k. record { live = refl; ephemeral = refl; queue = refl; waiter = refl; holds = refl };
    }

-- ---- mailboxes anew
pub mailboxes_steady : (t : Table) (bs : List Mailbox) → Steady t (with_mailboxes t bs)
unfolding opening_of
mailboxes_steady t bs = record { sizes = refl; opening = λ _ _. refl; next = refl }

pub mailbox_anew : (t : Table) (k : ℕ) (b : Mailbox) → Sound t → OnlyMailbox t (with_mailbox t k b) k
mailbox_anew t k b s =
    record {
      steady = mailboxes_steady t (set t.mailboxes k b);
      others = λ j ne. alike_of t (with_mailbox t k b) j s refl (get_or-set_other t.mailboxes k j b fresh_mailbox ne) (λ _ _. refl);
      counts = refl;
    }
