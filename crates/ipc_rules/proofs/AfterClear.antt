-- `clear_waiter`, `clear_of`: the task waits nowhere, and all else is as it was. Assumes nothing.
use Rattle.std.specs.Prelude.{Ok, Result}
use mathlib.Core.Path.{◌≡◌, refl, ap, ◌∙◌}
use mathlib.Core.List.{map}
use Prim.Native.Nat.{ℕ}
use Rattle.laws.specs.Pick.{pick}
use Rattle.laws.specs.Every.{count}
use Rattle.laws.proofs.Cases.{all_pick, not_both}
use Rattle.laws.proofs.Lists.{all_map}
use Rattle.ipc_rules.specs.State.{fresh_mailbox, nobody, mailbox_at, mailbox_live, message_in, with_waiter, waiting}
use Rattle.ipc_rules.specs.Waiters.{waits_on, without_waiter, clear_of}
use Rattle.ring.specs.Ring.{contents}
use Rattle.ipc_rules.specs.Views.{queue_of, waiter_of, hold_count, ephemeral_of, Steady}
use Rattle.ipc_rules.specs.declared.state.Mailbox.{Mailbox}
use Rattle.ipc_rules.specs.declared.state.TaskId.{TaskId}
use Rattle.ipc_rules.specs.declared.state.Table.{Table}
use Rattle.ipc_rules.proofs.Tasks.{on_waits, waits_on_lem}
use Rattle.ipc_rules.proofs.Changes.{mailboxes_steady}
use Rattle.ipc_rules.specs.declared.answers.TableError.{TableError}
use Rattle.shown.specs.declared.Answered.{Answered}

pub record Clears (t : Table) (task : TaskId) (r : Answered (Result ℕ TableError) Table) : Type 0 where
  pub answer : r.answer ≡ Ok (count (λ k. waits_on (mailbox_at t k) task) 32)
  pub gone : (k : ℕ) → waiter_of t k ≡ waiting task → waiter_of r.table k ≡ nobody
  pub stays : (k : ℕ) → (waiter_of t k ≡ waiting task → ⊥) → waiter_of r.table k ≡ waiter_of t k
  pub queue : (k : ℕ) → queue_of r.table k ≡ queue_of t k
  pub holds : (k : ℕ) → hold_count r.table k ≡ hold_count t k
  pub live : (k : ℕ) → mailbox_live r.table k ≡ mailbox_live t k
  pub ephemeral : (k : ℕ) → ephemeral_of r.table k ≡ ephemeral_of t k
  pub steady : Steady t r.table
  pub counts : r.table.counters.refusals ≡ t.counters.refusals

module _ (t : Table) (task : TaskId) where
  abbrev u : Table
  u = (clear_of t task).table

  box : (k : ℕ) → mailbox_at u k ≡ without_waiter task (mailbox_at t k)
  unfolding clear_of without_waiter pick
  box = all_map (λ k b. b ≡ without_waiter task (mailbox_at t k)) (without_waiter task) t.mailboxes fresh_mailbox fresh_mailbox refl (λ _. refl)

  -- a part that does not read the waiter
  part : {A : Type 0} (f : Mailbox → A) → ((b : Mailbox) → f (with_waiter b nobody) ≡ f b) → (k : ℕ) → f (mailbox_at u k) ≡ f (mailbox_at t k)
  unfolding without_waiter
  part f h k = ap f (box k) ∙ all_pick (λ b. f b ≡ f (mailbox_at t k)) (waits_on (mailbox_at t k) task) _ _ (λ _. h (mailbox_at t k)) (λ _. refl)

  same_queue : (k : ℕ) → queue_of u k ≡ queue_of t k
  unfolding queue_of clear_of
  same_queue k = part (λ b. contents (message_in t k) t.sizes.depth b.ring) (λ _. refl) k

  gone : (k : ℕ) → waiter_of t k ≡ waiting task → waiter_of u k ≡ nobody
  unfolding without_waiter
  gone k e =
      ap (λ (b : Mailbox). b.waiter) (box k)
      ∙ all_pick (λ (b : Mailbox). b.waiter ≡ nobody) (waits_on (mailbox_at t k) task) _ _ (λ _. refl) (λ n. absurd (not_both _ (waits_on_lem (mailbox_at t k) task e) n))

  stays : (k : ℕ) → (waiter_of t k ≡ waiting task → ⊥) → waiter_of u k ≡ waiter_of t k
  unfolding without_waiter
  stays k ne =
      ap (λ (b : Mailbox). b.waiter) (box k)
      ∙ all_pick (λ (b : Mailbox). b.waiter ≡ waiter_of t k) (waits_on (mailbox_at t k) task) _ _ (λ y. absurd (ne (on_waits (mailbox_at t k) task y))) (λ _. refl)

  pub clear_clears : Clears t task (clear_of t task)
  unfolding clear_of
  clear_clears =
      record {
        answer = refl;
        gone = gone;
        stays = stays;
        queue = same_queue;
        holds = part (λ b. b.send_holders) (λ _. refl);
        live = part (λ b. b.live) (λ _. refl);
        ephemeral = part (λ b. b.ephemeral) (λ _. refl);
        steady = mailboxes_steady t (map (without_waiter task) t.mailboxes);
        counts = refl;
      }
