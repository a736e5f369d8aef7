-- Document 01, "The operation log", operations 19 to 23: the calls on the two mint tables. A task is one u32 number here.
use Rattle.std.specs.Prelude.{List, ℕ, Result}
use Rattle.laws.specs.Refusals as no
use Rattle.mint.specs.Answer.{mint_number, mint_values, lookup_number, lookup_values}
use Rattle.irqcap.specs.Table as irqs
use Rattle.irqcap.specs.Table.{Minted as IrqMinted}
use Rattle.taskcap.specs.Table as tasks
use Rattle.taskcap.specs.Table.{Minted as TaskMinted}
use Rattle.taskcap.specs.declared.Revoked.{Revoked}
use Rattle.logread.specs.Little.{little_at}
use Rattle.operations.specs.Done.{Done, done, with_tasks, with_irqs}
use Rattle.operations.specs.Operands.{id_at}
use Rattle.operations.specs.declared.Tables.{Tables}
use Rattle.mint.specs.declared.LookupError.{LookupError}

-- ---- what a call's answer and table come to
abbrev pub after_task_mint : Tables → TaskMinted → Done
after_task_mint t r = done (mint_number r.answer) (mint_values r.answer) (with_tasks t r.table)

abbrev pub after_irq_mint : Tables → IrqMinted → Done
after_irq_mint t r = done (mint_number r.answer) (mint_values r.answer) (with_irqs t r.table)

abbrev pub after_lookup : Tables → Result ℕ LookupError → Done
after_lookup t a = done (lookup_number a) (lookup_values a) t

-- nothing refuses the end of a task
abbrev pub after_task_end : Tables → Revoked → Done
after_task_end t r = done no.none (tasks.revoke_values r.count) (with_tasks t r.table)

-- ---- the operations
-- 19, task mint (task)
unfoldable pub task_mint_done : List ℕ → Tables → Done
task_mint_done log t = after_task_mint t (tasks.mint_of t.tasks (little_at log 3 4))

-- 20, task lookup (id)
unfoldable pub task_lookup_done : List ℕ → Tables → Done
task_lookup_done log t = after_lookup t (tasks.lookup_of t.tasks (id_at log 3))

-- 21, task end (task)
unfoldable pub task_end_done : List ℕ → Tables → Done
task_end_done log t = after_task_end t (tasks.revoke_of t.tasks (little_at log 3 4))

-- 22, IRQ mint (cookie)
unfoldable pub irq_mint_done : List ℕ → Tables → Done
irq_mint_done log t = after_irq_mint t (irqs.mint_of t.irqs (little_at log 3 4))

-- 23, IRQ lookup (id)
unfoldable pub irq_lookup_done : List ℕ → Tables → Done
irq_lookup_done log t = after_lookup t (irqs.lookup_of t.irqs (id_at log 3))
