-- Document 01, "The operation log", operations 24, 25 and 26: spawn, leave and give.
use Rattle.std.specs.Prelude.{List, ℕ}
use Rattle.joined.specs.Answers.{spawn_number, spawn_values, leave_number, leave_values, give_number, give_values}
use Rattle.joined.specs.Steps.{spawn_of, leave_of, give_of}
use Rattle.joined.specs.declared.answers.Spawning.{Spawning}
use Rattle.joined.specs.declared.answers.Leaving.{Leaving}
use Rattle.joined.specs.declared.answers.Giving.{Giving}
use Rattle.logread.specs.Little.{byte_at}
use Rattle.logread.specs.Lists.{list_words}
use Rattle.operations.specs.Done.{Done, done, with_both}
use Rattle.operations.specs.Operands.{id_at}
use Rattle.operations.specs.declared.Tables.{Tables}

-- ---- what a step's answer and tables come to
abbrev pub after_spawn : Tables → Spawning → Done
after_spawn t r = done (spawn_number r.answer) (spawn_values r.answer r.waiters) (with_both t r.channels r.rows)

abbrev pub after_leave : Tables → Leaving → Done
after_leave t r = done (leave_number r.answer) (leave_values r.answer r.waiters) (with_both t r.channels r.rows)

abbrev pub after_give : Tables → Giving → Done
after_give t r = done (give_number r.answer) (give_values r.answer) (with_both t r.channels r.rows)

-- ---- the operations
-- 24, spawn (row, list)
unfoldable pub spawn_done : List ℕ → Tables → Done
spawn_done log t = after_spawn t (spawn_of t.channels t.rows (byte_at log 3) (list_words log 4))

-- 25, leave (row)
unfoldable pub leave_done : List ℕ → Tables → Done
leave_done log t = after_leave t (leave_of t.channels t.rows (byte_at log 3))

-- 26, give (row, slot, id)
unfoldable pub give_done : List ℕ → Tables → Done
give_done log t = after_give t (give_of t.channels t.rows (byte_at log 3) (byte_at log 4) (id_at log 5))
