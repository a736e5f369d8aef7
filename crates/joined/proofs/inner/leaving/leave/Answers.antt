-- `joined::inner::leaving::leave` meets its contract. Assumes nothing.
use Rattle.std.specs.Prelude.{Ok}
use mathlib.Core.Path.{◌≡◌}
use Prim.Native.Nat.{ℕ, ◌<◌}
use borrow.Author.Tests.{lt-leb}
use Rattle.laws.proofs.Cases.{cases, no}
use Rattle.capslots.specs.Rows.{drain_of}
use Rattle.capslots.specs.declared.Table.{Table as Rows}
use Rattle.capslots.specs.declared.Drained.{Drained}
use Rattle.ipc_rules.specs.Holds.{release_of}
use Rattle.ipc_rules.specs.declared.state.Table.{Table as Channels}
use Rattle.ipc_rules.specs.declared.answers.Releasing.{Releasing}
use Rattle.joined.specs.Steps.{leave_of}
use Rattle.joined.specs.declared.answers.Leaving.{Leaving}
use Rattle.joined.proofs.inner.leaving.leave.Goals as goal

-- with a row below 54, what the two calls leave is what the rule gives
both : (channels : Channels) (rows : Rows) (r : ℕ) {d : Drained} {g : Releasing} → r < 54 → d ≡ drain_of rows r → g ≡ release_of channels d.slots
    → ◌≡◌ {A = Leaving} (record { answer = Ok tt; waiters = g.waiters; channels = g.table; rows = d.table }) (leave_of channels rows r)
unfolding leave_of
both channels rows r l d g = no _ (lt-leb 54 r l) (rw (g, d))

pub returns-then-row-ge-ROWS : goal.returns-then-row-ge-ROWS
unfolding leave_of
returns-then-row-ge-ROWS c = search cases

pub returns : goal.returns
returns c = both _ _ _ c.if-row-ge-ROWS.false c.drain-drained.ensures c.release_holds-released.ensures
