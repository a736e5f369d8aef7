-- Document 01, "The operation log": what an operation comes to, 0 or its refusal's number, the values that its line shows, and the
-- tables afterwards.
use Rattle.std.specs.Prelude.{List, ℕ}
use Rattle.shown.specs.Shown.{shown}
use Rattle.shown.specs.declared.Shown.{Shown}
use Rattle.capslots.specs.declared.Table.{Table as Rows}
use Rattle.ipc_rules.specs.declared.state.Table.{Table as Channels}
use Rattle.irqcap.specs.Table.{Table as Irqs}
use Rattle.taskcap.specs.Table.{Table as Tasks}
use Rattle.operations.specs.declared.Tables.{Tables}
use Rattle.operations.specs.declared.Outcome.{Outcome}

pub record Done : Type 0 where
  pub number : ℕ
  pub values : List ℕ
  pub tables : Tables

abbrev pub done : ℕ → List ℕ → Tables → Done
done n vs t = record { number = n; values = vs; tables = t }

-- the same as the code has it
abbrev pub outcome : Shown → Tables → Outcome
outcome s t = record { shown = s; tables = t }

abbrev pub packed : Done → Outcome
packed d = outcome (shown d.number d.values) d.tables

-- ---- the tables after a call
-- with another channel table
abbrev pub with_channels : Tables → Channels → Tables
with_channels t x = record { channels = x; rows = t.rows; tasks = t.tasks; irqs = t.irqs }

-- with other rows
abbrev pub with_rows : Tables → Rows → Tables
with_rows t x = record { channels = t.channels; rows = x; tasks = t.tasks; irqs = t.irqs }

-- with another task table
abbrev pub with_tasks : Tables → Tasks → Tables
with_tasks t x = record { channels = t.channels; rows = t.rows; tasks = x; irqs = t.irqs }

-- with another IRQ table
abbrev pub with_irqs : Tables → Irqs → Tables
with_irqs t x = record { channels = t.channels; rows = t.rows; tasks = t.tasks; irqs = x }

-- with another channel table and other rows
abbrev pub with_both : Tables → Channels → Rows → Tables
with_both t x y = record { channels = x; rows = y; tasks = t.tasks; irqs = t.irqs }
