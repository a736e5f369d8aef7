-- `ipc_holds::inner::register_four` meets its contract: a turn of `Turns` for each of the four slots. Assumes nothing.
use mathlib.Core.Path.{◌≡◌, refl}
use native.Mathlib.Omega.{arith}
use borrow.Author.Rules.{rules}
use lib.ListN.{length}
use Rattle.laws.proofs.Lists.{unmapped}
use Rattle.ipc_holds.proofs.Turns.{turn, done}
use Rattle.ipc_holds.proofs.inner.register_four.Goals as goal
use Rattle.ipc_holds.proofs.inner.register_four.Goals.{Start}

four : (c : Start) → length c.args.slots ≡ 4
four c = search (rules, unmapped)

pub loop-slot-preserved : goal.loop-slot-preserved
loop-slot-preserved c = turn _ _ _ _ _ _ (omega (arith, four (goal.at.loop-slot-preserved c).Start)) refl c.register_one-t.ensures c.loop-slot.invariant

pub returns : goal.returns
returns c = done _ _ _ _ (omega (arith, four (goal.at.returns c).Start)) c.loop-slot.invariant
