-- The job script: what an operation comes to, 0 or its refusal's number, the values that its line shows, and the desk afterwards.
use Rattle.std.specs.Prelude.{List, ℕ}
use Rattle.shown.specs.Shown.{shown}
use Rattle.shown.specs.declared.Shown.{Shown}
use Rattle.capslots.specs.declared.Table.{Table as Rows}
use Rattle.ipc_rules.specs.declared.state.Table.{Table as Channels}
use Rattle.dispatcher_rules.specs.declared.state.Dispatcher.{Dispatcher}
use Rattle.dispatcher_rules.specs.declared.state.Desk.{Desk}
use Rattle.dispatcher_rules.specs.Border.{Ready}
use Rattle.jobscript.specs.declared.Outcome.{Outcome}

pub record Done : Type 0 where
  pub number : ℕ
  pub values : List ℕ
  pub desk : Desk

abbrev pub done : ℕ → List ℕ → Desk → Done
done n vs d = record { number = n; values = vs; desk = d }

-- the same as the code has it
abbrev pub outcome : Shown → Desk → Outcome
outcome s d = record { shown = s; desk = d }

abbrev pub packed : Done → Outcome
packed d = outcome (shown d.number d.values) d.desk

-- dispatcher, rows and channel table together
abbrev pub desk_of : Dispatcher → Rows → Channels → Desk
desk_of d rows t = record { dispatcher = d; rows = rows; channels = t }

-- a desk that the dispatcher's calls are fit for
abbrev pub ReadyDesk : Desk → Type 0
ReadyDesk d = Ready d.dispatcher d.channels
