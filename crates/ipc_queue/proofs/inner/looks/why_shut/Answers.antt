-- `ipc_queue::inner::looks::why_shut` meets its contract. Assumes nothing.
use mathlib.Core.Path.{◌≡◌}
use Rattle.ipc_rules.specs.Why.{tried_of, why_of}
use Rattle.ipc_rules.proofs.Why.{tried_gave, why_passes, why_fails}
use Rattle.ipc_queue.proofs.inner.looks.why_shut.Goals as goal
use Rattle.ipc_queue.proofs.inner.looks.why_shut.Goals.{After-attempt}

-- what `attempt` gave is what the rule asks
gave : (c : After-attempt) → c.attempt.result ≡ tried_of c.args.t c.args.cap c.args.asked
gave c = tried_gave _ _ _ c.requires _ _ c.index-i.ensures (rw c.right_for.ensures at c.attempt.ensures)

pub returns-in_default : goal.returns-in_default
unfolding why_of
returns-in_default c = why_passes _ (gave (goal.at.returns-in_default c).After-attempt) c.in_default.is

pub returns : goal.returns
unfolding why_of
returns c = why_fails _ (gave (goal.at.returns c).After-attempt) c.in-Err.is
