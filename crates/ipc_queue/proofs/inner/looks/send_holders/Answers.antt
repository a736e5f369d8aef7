-- `ipc_queue::inner::looks::send_holders` meets its contract. Assumes nothing.
use mathlib.Core.Path.{◌≡◌, sym, ◌∙◌}
use native.Mathlib.Omega.{arith}
use Rattle.laws.proofs.Cases.{cases}
use Rattle.cap.specs.Rights.{send_right}
use Rattle.ipc_rules.specs.Opening.{opening_of}
use Rattle.ipc_rules.specs.Observe.{holders_of}
use Rattle.ipc_rules.proofs.Openings.{openings, open_gave, opens_within, Within}
use Rattle.ipc_queue.proofs.inner.looks.send_holders.Goals as goal
use Rattle.ipc_queue.proofs.inner.looks.send_holders.Goals.{After-open, In-Opens}

-- what `open` gave is what the rule asks
gave : (c : After-open) → c.open.result ≡ opening_of c.args.t c.args.cap send_right
gave c = open_gave _ _ _ c.requires _ _ c.index-i.ensures c.open.ensures

-- what opened is a live mailbox within the arrays
inside : (c : In-Opens) → Within c.args.t c.in-Opens.k
inside c = opens_within _ _ _ _ c.requires (sym (open_gave _ _ _ c.requires _ _ c.index-i.ensures c.open.ensures) ∙ c.in-Opens.is)

pub returns-in_default : goal.returns-in_default
unfolding holders_of
returns-in_default c = search (cases, openings, gave (goal.at.returns-in_default c).After-open)

pub offset_bounds-t-k : goal.offset_bounds-t-k
offset_bounds-t-k c = omega (arith, inside (goal.at.offset_bounds-t-k c).In-Opens)

pub bounds-t-k : goal.bounds-t-k
bounds-t-k c = omega (arith, inside (goal.at.bounds-t-k c).In-Opens)

pub returns : goal.returns
unfolding holders_of
returns c = search (cases, openings, gave (goal.at.returns c).After-open)
