-- What is seen of a channel table, and when two tables are seen alike: the terms in which each call is said to change and to leave things.
use Rattle.std.specs.Prelude.{◌≡◌, Bool, List, [], ◌∷◌, ℕ, zero, suc, ◌+◌, eqb}
use Rattle.laws.specs.Pick.{pick}
use Rattle.laws.specs.Refusals as no
use Rattle.cap.specs.Id.{generation_of}
use Rattle.ring.specs.Ring.{contents}
use Rattle.cap.specs.Rights.{contains_all}
use Rattle.cap.specs.declared.CapId.{CapId}
use Rattle.cap.specs.declared.CapRights.{CapRights}
use Rattle.cap.specs.declared.slot.Slot.{Slot}
use Rattle.ipc_rules.specs.State.{mailbox_at, mailbox_live, message_in, next_of, counts_of}
use Rattle.ipc_rules.specs.Counts.{raised, authority_noted, full_noted, state_noted}
use Rattle.ipc_rules.specs.Opening.{opening_of, hold_of, opened}
use Rattle.ipc_rules.specs.declared.state.Message.{Message}
use Rattle.ipc_rules.specs.declared.state.Refusals.{Refusals}
use Rattle.ipc_rules.specs.declared.state.Waiter.{Waiter}
use Rattle.ipc_rules.specs.declared.state.Table.{Table}
use Rattle.ipc_rules.specs.declared.opening.Opening.{Opening}
use Rattle.ipc_rules.specs.declared.opening.Opening.TheVariants.{Opens, Shut}

-- ---- one mailbox
-- what waits in mailbox k, oldest first
unfoldable pub queue_of : Table → ℕ → List Message
queue_of t k = contents (message_in t k) t.sizes.depth (mailbox_at t k).ring

-- who waits on it
abbrev pub waiter_of : Table → ℕ → Waiter
waiter_of t k = (mailbox_at t k).waiter

-- how many holds on its send end are registered and not released
abbrev pub hold_count : Table → ℕ → ℕ
hold_count t k = (mailbox_at t k).send_holders

-- whether it was created ephemeral
abbrev pub ephemeral_of : Table → ℕ → Bool
ephemeral_of t k = (mailbox_at t k).ephemeral

-- ---- lists of slots
-- whether a slot holds the send end of mailbox k, as 1 or 0
unfoldable pub held_by : Table → ℕ → Slot → ℕ
held_by t k x = opened (hold_of t x) 0 (λ j. pick (eqb j k) 1 0)

-- how many slots of a list hold it
unfoldable pub held_in : Table → ℕ → List Slot → ℕ
held_in t k [] = 0
held_in t k (x ∷ xs) = held_by t k x + held_in t k xs

-- a count raised n times
unfoldable pub raised_by : ℕ → ℕ → ℕ
raised_by zero count = count
raised_by (suc n) count = raised_by n (raised count)

-- ---- counts
-- the counts after an answer of number n: BadCap raises authority, Full full, Busy state, and no other number a count
unfoldable pub counts_by : ℕ → Refusals → Refusals
counts_by n x =
    pick (eqb n no.bad_cap) (authority_noted x)
    (pick (eqb n no.full) (full_noted x)
    (pick (eqb n no.busy) (state_noted x)
    x))

-- ---- one end
-- what an id opens at a live end of mailbox k with generation g and right w: its generation is g, and w has the right that is asked for
unfoldable pub end_opens : ℕ → CapRights → ℕ → CapId → CapRights → Opening
end_opens g w k c need = pick (eqb g (generation_of c)) (pick (contains_all w need) (Opens k) Shut) Shut

-- ---- two tables, before and after
-- mailbox k is seen as it was
pub record Alike (t u : Table) (k : ℕ) : Type 0 where
  pub live : mailbox_live u k ≡ mailbox_live t k
  pub ephemeral : ephemeral_of u k ≡ ephemeral_of t k
  pub queue : queue_of u k ≡ queue_of t k
  pub waiter : waiter_of u k ≡ waiter_of t k
  pub holds : hold_count u k ≡ hold_count t k

-- the sizes, what each id opens by each right, and the next generation are as they were
pub record Steady (t u : Table) : Type 0 where
  pub sizes : u.sizes ≡ t.sizes
  pub opening : (c : CapId) (need : CapRights) → opening_of u c need ≡ opening_of t c need
  pub next : next_of u ≡ next_of t

-- all but mailbox k is as it was
pub record OnlyMailbox (t u : Table) (k : ℕ) : Type 0 where
  pub steady : Steady t u
  pub others : (j : ℕ) → (j ≡ k → ⊥) → Alike t u j
  pub counts : counts_of u ≡ counts_of t

-- all but the counts is as it was
pub record OnlyCounts (t u : Table) : Type 0 where
  pub steady : Steady t u
  pub mailboxes : (k : ℕ) → Alike t u k
