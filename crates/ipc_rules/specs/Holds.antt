-- Document 01, "Channels": register and release, a hold for each present id that opens for send. Vacant and unopened ids are skipped.
use Rattle.std.specs.Prelude.{Bool, ◌&&◌, List, [], ◌∷◌, ◌++◌, ℕ, ◌-◌, eqb, get_or, Err, Ok, Result, ⊤}
use Rattle.laws.specs.Pick.{pick}
use Rattle.cap.specs.Word.{words_read, slots_of}
use Rattle.cap.specs.declared.slot.Slot.{Slot}
use Rattle.ipc_rules.specs.State.{nobody, mailbox_at, with_mailbox, with_holders, with_waiter}
use Rattle.ipc_rules.specs.Counts.{raised}
use Rattle.ipc_rules.specs.Opening.{hold_of, opened}
use Rattle.ipc_rules.specs.declared.state.Mailbox.{Mailbox}
use Rattle.ipc_rules.specs.declared.state.Waiter.{Waiter}
use Rattle.ipc_rules.specs.declared.state.Table.{Table}
use Rattle.ipc_rules.specs.declared.answers.RegisterError.TheVariants.{BadWord}
use Rattle.ipc_rules.specs.declared.answers.Releasing.{Releasing}
use Rattle.ipc_rules.specs.declared.answers.RegisterError.{RegisterError}
use Rattle.shown.specs.declared.Answered.{Answered}

-- ---- register
-- one hold more, stopping at 4,294,967,295
abbrev pub more : Mailbox → Mailbox
more b = with_holders b (raised b.send_holders)

unfoldable pub registered : Table → Slot → Table
registered t s = opened (hold_of t s) t (λ k. with_mailbox t k (more (mailbox_at t k)))

-- the slots of a list, from the first on
unfoldable pub registered_all : Table → List Slot → Table
registered_all t [] = t
registered_all t (s ∷ ss) = registered_all (registered t s) ss

-- a list as words, any length: BadWord before all else
unfoldable pub register_of : Table → List ℕ → Answered (Result ⊤ RegisterError) Table
register_of t words =
    pick (words_read words)
    (record { answer = Ok tt; table = registered_all t (slots_of words) })
    (record { answer = Err BadWord; table = t })

-- ---- release
-- one hold off, not below 0
abbrev pub fewer : Mailbox → Mailbox
fewer b = with_holders b (b.send_holders - 1)

-- at 0 on an ephemeral mailbox the waiter, if there is one, is taken out
abbrev pub reaps : Mailbox → Bool
reaps b = eqb b.send_holders 0 && b.ephemeral && b.waiter.present

-- what a release leaves and whom it wakes
pub record Freed : Type 0 where
  pub table : Table
  pub woken : List Waiter

unfoldable pub released : Table → Slot → Freed
released t s =
    opened (hold_of t s) (record { table = t; woken = [] }) (λ k.
    pick (reaps (fewer (mailbox_at t k)))
    (record { table = with_mailbox t k (with_waiter (fewer (mailbox_at t k)) nobody); woken = (mailbox_at t k).waiter ∷ [] })
    (record { table = with_mailbox t k (fewer (mailbox_at t k)); woken = [] }))

-- the slots of a list, from the first on; waiters in list order
unfoldable pub released_all : Table → List Slot → Freed
released_all t [] = record { table = t; woken = [] }
released_all t (s ∷ ss) =
    record {
      table = (released_all (released t s).table ss).table;
      woken = (released t s).woken ++ (released_all (released t s).table ss).woken;
    }

-- four places, the waiters from the first on
abbrev pub four_of : List Waiter → List Waiter
four_of ws = get_or ws 0 nobody ∷ get_or ws 1 nobody ∷ get_or ws 2 nobody ∷ get_or ws 3 nobody ∷ []

-- exactly four slots, and four waiters by value
unfoldable pub release_of : Table → List Slot → Releasing
release_of t slots =
    record { answer = Ok tt; waiters = four_of (released_all t slots).woken; table = (released_all t slots).table }
