-- Document 01, "The operation log", operations 7 and 8: the holds of a list, registered and released.
use Rattle.std.specs.Prelude.{List, ℕ, Result, ⊤}
use Rattle.ipc_rules.specs.Answers.{register_number, register_values, release_number, release_values}
use Rattle.ipc_rules.specs.Holds.{register_of, release_of}
use Rattle.ipc_rules.specs.declared.answers.Releasing.{Releasing}
use Rattle.logread.specs.Lists.{list_slots, list_words}
use Rattle.operations.specs.Done.{Done, done, with_channels}
use Rattle.operations.specs.declared.Tables.{Tables}
use Rattle.ipc_rules.specs.declared.answers.RegisterError.{RegisterError}
use Rattle.shown.specs.declared.Answered.{Answered}
use Rattle.ipc_rules.specs.declared.state.Table.{Table as Channels}

-- ---- what a call's answer and table come to
abbrev pub after_register : Tables → Answered (Result ⊤ RegisterError) Channels → Done
after_register t r = done (register_number r.answer) (register_values r.answer) (with_channels t r.table)

abbrev pub after_release : Tables → Releasing → Done
after_release t r = done (release_number r.answer) (release_values r.answer r.waiters) (with_channels t r.table)

-- ---- the operations
-- 7, register (list)
unfoldable pub register_done : List ℕ → Tables → Done
register_done log t = after_register t (register_of t.channels (list_words log 3))

-- 8, release (list)
unfoldable pub release_done : List ℕ → Tables → Done
release_done log t = after_release t (release_of t.channels (list_slots log 3))
