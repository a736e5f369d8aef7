-- Document 01, "Channels": `clear_waiter` removes that task from every mailbox and counts.
use Rattle.std.specs.Prelude.{Bool, false, map, Ok, Result, ℕ}
use Rattle.laws.specs.Pick.{pick}
use Rattle.laws.specs.Every.{count}
use Rattle.ipc_rules.specs.State.{nobody, mailbox_at, with_mailboxes, with_waiter}
use Rattle.ipc_rules.specs.Receive.{same_task}
use Rattle.ipc_rules.specs.declared.state.Mailbox.{Mailbox}
use Rattle.ipc_rules.specs.declared.state.TaskId.{TaskId}
use Rattle.ipc_rules.specs.declared.state.Table.{Table}
use Rattle.ipc_rules.specs.declared.answers.TableError.{TableError}
use Rattle.shown.specs.declared.Answered.{Answered}

-- the task waits on the mailbox: someone does, and it is that task
abbrev pub waits_on : Mailbox → TaskId → Bool
waits_on b task = pick b.waiter.present (same_task b.waiter.task task) false

unfoldable pub without_waiter : TaskId → Mailbox → Mailbox
without_waiter task b = pick (waits_on b task) (with_waiter b nobody) b

unfoldable pub clear_of : Table → TaskId → Answered (Result ℕ TableError) Table
clear_of t task =
    record {
      answer = Ok (count (λ k. waits_on (mailbox_at t k) task) 32);
      table = with_mailboxes t (map (without_waiter task) t.mailboxes);
    }
