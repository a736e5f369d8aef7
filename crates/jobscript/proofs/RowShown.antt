-- What a look at a row comes to: the refusal, or the four slots. Assumes nothing.
use mathlib.Core.Path.{◌≡◌, refl}
use mathlib.Core.List.{List, []}
use Prim.Native.Nat.{ℕ, ◌<◌, ◌≤◌}
use borrow.Author.Tests.{le-leb, lt-leb}
use Rattle.laws.specs.Pick.{pick}
use Rattle.laws.specs.Refusals as no
use Rattle.shown.specs.Shown.{shown}
use Rattle.shown.specs.declared.Shown.{Shown}
use Rattle.capslots.specs.Answers.{drain_values}
use Rattle.capslots.specs.Table.{row_at}
use Rattle.logread.specs.Little.{byte_at}
use Rattle.dispatcher_rules.specs.declared.state.Desk.{Desk}
use Rattle.jobscript.specs.Done.{outcome, packed}
use Rattle.jobscript.specs.Operations.{row_done}

-- r is the row that the code read, and s what it shows
module _ (script : List ℕ) (d : Desk) {r : ℕ} (e : r ≡ byte_at script 3) {s : Shown} where
  pub row_refused : 54 ≤ r → s ≡ shown no.bad_row [] → outcome s d ≡ packed (row_done script d)
  unfolding row_done pick
  row_refused h a = rw (← e, le-leb 54 r h, a) refl

  pub row_shown : r < 54 → s ≡ shown no.none (drain_values (row_at d.rows r).slots) → outcome s d ≡ packed (row_done script d)
  unfolding row_done pick
  row_shown h a = rw (← e, lt-leb 54 r h, a) refl
