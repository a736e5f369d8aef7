-- Park, `park_of`: its ways, and what each changes and leaves. Assumes nothing.
use Rattle.std.specs.Prelude.{Err, None, Ok, Option, Result, Some}
use mathlib.Core.Path.{◌≡◌, refl, ap}
use mathlib.Core.Bool.{true, false}
use mathlib.Core.List.{[]}
use Prim.Native.Nat.{ℕ, ◌<◌, ◌≤◌}
use native.Mathlib.Omega.{arith}
use borrow.Author.Tests.{eqb-true, ltb-true, ltb-false}
use lib.Dec.{eqb}
use Rattle.laws.proofs.Cases.{all_pick}
use Rattle.laws.proofs.Every.{and_left, and_right}
use Rattle.cap.specs.Rights.{receive_right}
use Rattle.cap.specs.declared.CapId.{CapId}
use Rattle.ipc_rules.specs.State.{mailbox_at, mailbox_live, message_in, with_waiter, waiting}
use Rattle.ipc_rules.specs.Sound.{Sound}
use Rattle.ipc_rules.specs.Counts.{authority_raised, state_raised}
use Rattle.ipc_rules.specs.Opening.{opening_of}
use Rattle.ipc_rules.specs.Receive.{park_of, oldest, other_waits, parked_in}
use Rattle.ring.specs.Ring.{contents}
use Rattle.ipc_rules.specs.Views.{queue_of, waiter_of, hold_count, ephemeral_of, Alike, Steady, OnlyMailbox}
use Rattle.ipc_rules.specs.declared.state.Mailbox.{Mailbox}
use Rattle.ipc_rules.specs.declared.state.Message.{Message}
use Rattle.ipc_rules.specs.declared.state.TaskId.{TaskId}
use Rattle.ipc_rules.specs.declared.state.Table.{Table}
use Rattle.ipc_rules.specs.declared.answers.ParkError.TheVariants as park
use Rattle.ipc_rules.specs.declared.opening.Opening.TheVariants.{Opens, Shut}
use Rattle.ipc_rules.proofs.Openings.{all_opened, opens_live, box_same}
use Rattle.ipc_rules.proofs.KeepsCalls.{uncancelled}
use Rattle.ipc_rules.proofs.Tasks.{other_waits_lem, none_other}
use Rattle.ipc_rules.proofs.AfterReceive.{Gives, taken_gives}
use Rattle.ipc_rules.proofs.Changes.{queue_none, alike_same, steady_same, counts_anew, mailbox_anew}
use Rattle.ipc_rules.specs.declared.answers.ParkError.{ParkError}
use Rattle.shown.specs.declared.Answered.{Answered}

-- mailbox k is one to wait on: no message is there, and where it is ephemeral a send hold is left
pub record MayWait (t : Table) (k : ℕ) : Type 0 where
  pub empty : queue_of t k ≡ []
  pub held : ephemeral_of t k ≡ true → 0 < hold_count t k

-- the task waits on mailbox k, where none waited or it did already
pub record Parks (t : Table) (k : ℕ) (task : TaskId) (u : Table) : Type 0 where
  pub free : (waiter_of t k).present ≡ true → waiter_of t k ≡ waiting task
  pub waiter : waiter_of u k ≡ waiting task
  pub queue : queue_of u k ≡ queue_of t k
  pub holds : hold_count u k ≡ hold_count t k
  pub live : mailbox_live u k ≡ mailbox_live t k
  pub ephemeral : ephemeral_of u k ≡ ephemeral_of t k
  pub rest : OnlyMailbox t u k

-- refused for want of the right; the oldest message; no sender is left; another task waits; or the task waits
pub data ParkWays (t : Table) (c : CapId) (task : TaskId) (r : Answered (Result (Option Message) ParkError) Table) : Type 0 where
  bad_cap : opening_of t c receive_right ≡ Shut → r ≡ record { answer = Err park.BadCap; table = authority_raised t } → ParkWays t c task r
  given : (k : ℕ) (m : Message) → opening_of t c receive_right ≡ Opens k → r.answer ≡ Ok (Some m) → Gives t k m r.table → ParkWays t c task r
  cancelled : (k : ℕ) → opening_of t c receive_right ≡ Opens k → queue_of t k ≡ [] → ephemeral_of t k ≡ true → hold_count t k ≡ 0 →
      r ≡ record { answer = Err park.Cancelled; table = t } → ParkWays t c task r
  busy : (k : ℕ) → opening_of t c receive_right ≡ Opens k → MayWait t k → (waiter_of t k).present ≡ true → (waiter_of t k ≡ waiting task → ⊥) →
      r ≡ record { answer = Err park.Busy; table = state_raised t } → ParkWays t c task r
  parked : (k : ℕ) → opening_of t c receive_right ≡ Opens k → MayWait t k → r.answer ≡ Ok None → Parks t k task r.table → ParkWays t c task r

-- ---- the task in its place
module _ (t : Table) (k : ℕ) (task : TaskId) (s : Sound t) (l : mailbox_live t k ≡ true) where
  abbrev b : Mailbox
  b = mailbox_at t k

  with_task : mailbox_at (parked_in t k task) k ≡ with_waiter b (waiting task)
  with_task = box_same t k (with_waiter b (waiting task)) s l

  same_queue : queue_of (parked_in t k task) k ≡ queue_of t k
  unfolding queue_of
  same_queue = ap (λ (x : Mailbox). contents (message_in t k) t.sizes.depth x.ring) with_task

  parks : other_waits b.waiter task ≡ false → Parks t k task (parked_in t k task)
  parks h =
      record {
        free = none_other b.waiter task h;
        waiter = ap (λ (x : Mailbox). x.waiter) with_task;
        queue = same_queue;
        holds = ap (λ (x : Mailbox). x.send_holders) with_task;
        live = ap (λ (x : Mailbox). x.live) with_task;
        ephemeral = ap (λ (x : Mailbox). x.ephemeral) with_task;
        rest = mailbox_anew t k (with_waiter b (waiting task)) s;
      }

pub park_ways : (t : Table) (c : CapId) (task : TaskId) → Sound t → ParkWays t c task (park_of t c task)
unfolding park_of
park_ways t c task s =
    all_opened (ParkWays t c task) _ _ _ (λ o. bad_cap o refl) (λ k o.
    let l = opens_live t c receive_right k s o in
    all_pick (ParkWays t c task) _ _ _ (λ h. given k (oldest t k) o refl (taken_gives t k s l (ltb-true _ _ h))) (λ h.
    let none : queue_of t k ≡ [] = queue_none t k (let e : (mailbox_at t k).ring.len ≤ 0 = ltb-false 0 (mailbox_at t k).ring.len h in omega arith) in
    all_pick (ParkWays t c task) _ _ _ (λ a. cancelled k o none (and_left (ephemeral_of t k) (eqb (hold_count t k) 0) a) (eqb-true _ _ (and_right (ephemeral_of t k) (eqb (hold_count t k) 0) a)) refl) (λ a.
    let free : MayWait t k = record { empty = none; held = uncancelled (ephemeral_of t k) (hold_count t k) a } in
    all_pick (ParkWays t c task) _ _ _ (λ w. busy k o free (other_waits_lem (waiter_of t k) task w).0 (other_waits_lem (waiter_of t k) task w).1 refl) (λ w.
    parked k o free refl (parks t k task s l w)))))

module _ (t : Table) (c : CapId) (task : TaskId) (s : Sound t) where
  pub park_steady : Steady t (park_of t c task).table
  park_steady = by (park_ways t c task s)
    where
      by : ParkWays t c task (park_of t c task) → Steady t (park_of t c task).table
      by (bad_cap _ q) = rw q (counts_anew t _).steady
      by (given _ _ _ _ g) = g.rest.steady
      by (cancelled _ _ _ _ _ q) = rw q (steady_same t)
      by (busy _ _ _ _ _ q) = rw q (counts_anew t _).steady
      by (parked _ _ _ _ p) = p.rest.steady

  pub park_others : (j : ℕ) → (opening_of t c receive_right ≡ Opens j → ⊥) → Alike t (park_of t c task).table j
  park_others j ne = by (park_ways t c task s)
    where
      by : ParkWays t c task (park_of t c task) → Alike t (park_of t c task).table j
      by (bad_cap _ q) = rw q ((counts_anew t _).mailboxes j)
      by (given _ _ o _ g) = g.rest.others j (λ e. ne (rw e o))
      by (cancelled _ _ _ _ _ q) = rw q (alike_same t j)
      by (busy _ _ _ _ _ q) = rw q ((counts_anew t _).mailboxes j)
      by (parked _ o _ _ p) = p.rest.others j (λ e. ne (rw e o))
