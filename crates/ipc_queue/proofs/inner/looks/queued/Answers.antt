-- `ipc_queue::inner::looks::queued` meets its contract. Assumes nothing.
use mathlib.Core.Path.{◌≡◌, sym, ◌∙◌}
use native.Mathlib.Omega.{arith}
use Rattle.laws.proofs.Cases.{cases}
use Rattle.ipc_rules.specs.Opening.{either_of}
use Rattle.ipc_rules.specs.Observe.{queued_of}
use Rattle.ipc_rules.proofs.Openings.{openings, either_gave, either_within, Within}
use Rattle.ipc_queue.proofs.inner.looks.queued.Goals as goal
use Rattle.ipc_queue.proofs.inner.looks.queued.Goals.{After-open_for, In-Opens}

-- what `open_for` gave is what the rule asks
gave : (c : After-open_for) → c.open_for.result ≡ either_of c.args.t c.args.cap
gave c = either_gave _ _ _ c.requires _ c.index-i.ensures c.open_for.ensures

-- what opened is a live mailbox within the arrays
inside : (c : In-Opens) → Within c.args.t c.in-Opens.k
inside c = either_within _ _ _ c.requires (sym (either_gave _ _ _ c.requires _ c.index-i.ensures c.open_for.ensures) ∙ c.in-Opens.is)

pub returns-in_default : goal.returns-in_default
unfolding queued_of
returns-in_default c = search (cases, openings, gave (goal.at.returns-in_default c).After-open_for)

pub offset_bounds-t-k : goal.offset_bounds-t-k
offset_bounds-t-k c = omega (arith, inside (goal.at.offset_bounds-t-k c).In-Opens)

pub bounds-t-k : goal.bounds-t-k
bounds-t-k c = omega (arith, inside (goal.at.bounds-t-k c).In-Opens)

pub returns : goal.returns
unfolding queued_of
returns c = search (cases, openings, gave (goal.at.returns c).After-open_for)
