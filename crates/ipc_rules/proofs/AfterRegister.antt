-- Register, `registered`, `registered_all` and `register_of`: what a slot and a list of slots change and leave. Assumes nothing.
use Rattle.std.specs.Prelude.{Err, Ok, Result, ⊤}
use mathlib.Core.Path.{◌≡◌, refl, ap, ◌∙◌}
use mathlib.Core.Bool.{true, false}
use mathlib.Core.List.{List, [], ◌∷◌}
use mathlib.Core.Logic.{⊎_elim}
use Prim.Native.Nat.{ℕ, ◌+◌}
use Rattle.laws.proofs.Cases.{all_pick}
use Rattle.cap.specs.Rights.{send_right}
use Rattle.cap.specs.Word.{words_read, slots_of}
use Rattle.cap.specs.declared.slot.Slot.{Slot}
use Rattle.ipc_rules.specs.State.{mailbox_at, mailbox_live, message_in, with_mailbox}
use Rattle.ipc_rules.specs.Sound.{Sound}
use Rattle.ipc_rules.specs.Counts.{raised}
use Rattle.ipc_rules.specs.Opening.{hold_of}
use Rattle.ipc_rules.specs.Holds.{more, registered, registered_all, register_of}
use Rattle.ring.specs.Ring.{contents}
use Rattle.ipc_rules.specs.Views.{queue_of, waiter_of, hold_count, ephemeral_of, held_by, held_in, raised_by, Alike, Steady, OnlyMailbox}
use Rattle.ipc_rules.specs.declared.state.Mailbox.{Mailbox}
use Rattle.ipc_rules.specs.declared.state.Table.{Table}
use Rattle.ipc_rules.specs.declared.answers.RegisterError.TheVariants.{BadWord}
use Rattle.ipc_rules.specs.declared.opening.Opening.TheVariants.{Opens, Shut}
use Rattle.ipc_rules.proofs.Openings.{all_opened, opens_live, hold_opens, box_same}
use Rattle.ipc_rules.proofs.KeepsCalls.{registered_kept}
use Rattle.laws.proofs.Bools.{same?}
use Rattle.ipc_rules.proofs.Held.{held_none, held_one, held_other, held_steady, raised_then}
use Rattle.ipc_rules.proofs.Changes.{alike_same, steady_same, steady_then, mailbox_anew}
use Rattle.ipc_rules.specs.declared.answers.RegisterError.{RegisterError}
use Rattle.shown.specs.declared.Answered.{Answered}

-- mailbox k has one hold more, stopping at 4,294,967,295
pub record Registers (t : Table) (k : ℕ) (u : Table) : Type 0 where
  pub holds : hold_count u k ≡ raised (hold_count t k)
  pub queue : queue_of u k ≡ queue_of t k
  pub waiter : waiter_of u k ≡ waiter_of t k
  pub live : mailbox_live u k ≡ mailbox_live t k
  pub ephemeral : ephemeral_of u k ≡ ephemeral_of t k
  pub rest : OnlyMailbox t u k

-- a slot that holds no send end is skipped
pub data RegisterWays (t : Table) (x : Slot) (u : Table) : Type 0 where
  skipped : hold_of t x ≡ Shut → u ≡ t → RegisterWays t x u
  counted : (k : ℕ) → hold_of t x ≡ Opens k → Registers t k u → RegisterWays t x u

module _ (t : Table) (k : ℕ) (s : Sound t) (l : mailbox_live t k ≡ true) where
  abbrev u : Table
  u = with_mailbox t k (more (mailbox_at t k))

  box : mailbox_at u k ≡ more (mailbox_at t k)
  box = box_same t k (more (mailbox_at t k)) s l

  same_queue : queue_of u k ≡ queue_of t k
  unfolding queue_of
  same_queue = ap (λ (b : Mailbox). contents (message_in t k) t.sizes.depth b.ring) box

  registers : Registers t k u
  registers =
      record {
        holds = ap (λ (b : Mailbox). b.send_holders) box;
        queue = same_queue;
        waiter = ap (λ (b : Mailbox). b.waiter) box;
        live = ap (λ (b : Mailbox). b.live) box;
        ephemeral = ap (λ (b : Mailbox). b.ephemeral) box;
        rest = mailbox_anew t k (more (mailbox_at t k)) s;
      }

pub register_ways : (t : Table) (x : Slot) → Sound t → RegisterWays t x (registered t x)
unfolding registered
register_ways t x s =
    all_opened (RegisterWays t x) _ _ _ (λ o. skipped o refl) (λ k o.
    counted k o (registers t k s (opens_live t x.id send_right k s (hold_opens t x k o).1)))

-- ---- every mailbox
-- what registering leaves of mailbox k, and how its holds go up, by n
pub record RegisteredAt (t u : Table) (k n : ℕ) : Type 0 where
  pub holds : hold_count u k ≡ raised_by n (hold_count t k)
  pub queue : queue_of u k ≡ queue_of t k
  pub waiter : waiter_of u k ≡ waiter_of t k
  pub live : mailbox_live u k ≡ mailbox_live t k
  pub ephemeral : ephemeral_of u k ≡ ephemeral_of t k

pub record RegisteredIn (t : Table) (xs : List Slot) (u : Table) : Type 0 where
  pub mailboxes : (k : ℕ) → RegisteredAt t u k (held_in t k xs)
  pub steady : Steady t u
  pub counts : u.counters.refusals ≡ t.counters.refusals

module _ {t u : Table} where
  at_one : (k : ℕ) → Registers t k u → RegisteredAt t u k 1
  unfolding raised_by
  at_one k r = record { holds = r.holds; queue = r.queue; waiter = r.waiter; live = r.live; ephemeral = r.ephemeral }

  at_other : (k : ℕ) → Alike t u k → RegisteredAt t u k 0
  unfolding raised_by
  at_other k a = record { holds = a.holds; queue = a.queue; waiter = a.waiter; live = a.live; ephemeral = a.ephemeral }

  at_then : {v : Table} (k a b : ℕ) → RegisteredAt t u k a → RegisteredAt u v k b → RegisteredAt t v k (a + b)
  at_then k a b p q =
      record {
        holds = q.holds ∙ ap (raised_by b) p.holds ∙ raised_then a b (hold_count t k);
        queue = q.queue ∙ p.queue;
        waiter = q.waiter ∙ p.waiter;
        live = q.live ∙ p.live;
        ephemeral = q.ephemeral ∙ p.ephemeral;
      }

slot_at : (t : Table) (x : Slot) (u : Table) (k : ℕ) → RegisterWays t x u → RegisteredAt t u k (held_by t k x)
slot_at t x u k (skipped o e) = rw (held_none t k x o, e) (at_other k (alike_same t k))
slot_at t x u k (counted j o r) =
    ⊎_elim (λ e. let o' : hold_of t x ≡ Opens k = rw e o in rw (held_one t k x o') (at_one k (rw e r)))
    (λ ne. rw (held_other t k x j o ne) (at_other k (r.rest.others k ne))) (same? k j)

pub register_steady : (t : Table) (x : Slot) → Sound t → Steady t (registered t x)
register_steady t x s = by (register_ways t x s)
  where
    by : RegisterWays t x (registered t x) → Steady t (registered t x)
    by (skipped _ e) = rw e (steady_same t)
    by (counted _ _ r) = r.rest.steady

register_counts : (t : Table) (x : Slot) → Sound t → (registered t x).counters.refusals ≡ t.counters.refusals
register_counts t x s = by (register_ways t x s)
  where
    by : RegisterWays t x (registered t x) → (registered t x).counters.refusals ≡ t.counters.refusals
    by (skipped _ e) = ap (λ (v : Table). v.counters.refusals) e
    by (counted _ _ r) = r.rest.counts

pub registered_in : (t : Table) (xs : List Slot) → Sound t → RegisteredIn t xs (registered_all t xs)
unfolding registered_all held_in
registered_in t [] s = record { mailboxes = λ k. at_other k (alike_same t k); steady = steady_same t; counts = refl }
registered_in t (x ∷ xs) s =
    let u = registered t x in
    let a = register_steady t x s in
    let r = registered_in u xs (registered_kept t x s) in
    record {
      mailboxes = λ k. at_then k (held_by t k x) (held_in t k xs) (slot_at t x u k (register_ways t x s)) (rw (← held_steady t u k xs a) (r.mailboxes k));
      steady = steady_then a r.steady;
      counts = r.counts ∙ register_counts t x s;
    }

-- ---- the call
-- refused for a word that is none, or the list registered
pub data RegisterCallWays (t : Table) (words : List ℕ) (r : Answered (Result ⊤ RegisterError) Table) : Type 0 where
  bad_word : words_read words ≡ false → r ≡ record { answer = Err BadWord; table = t } → RegisterCallWays t words r
  all : words_read words ≡ true → r.answer ≡ Ok tt → RegisteredIn t (slots_of words) r.table → RegisterCallWays t words r

pub register_call_ways : (t : Table) (words : List ℕ) → Sound t → RegisterCallWays t words (register_of t words)
unfolding register_of
register_call_ways t words s =
    all_pick (RegisterCallWays t words) _ _ _ (λ h. all h refl (registered_in t (slots_of words) s)) (λ h. bad_word h refl)
