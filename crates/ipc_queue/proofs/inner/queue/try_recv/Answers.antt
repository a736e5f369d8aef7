-- `ipc_queue::inner::queue::try_recv` meets its contract. As for `send`. Assumes nothing.
use mathlib.Core.Path.{◌≡◌, sym, ◌∙◌}
use native.Mathlib.Omega.{arith}
use Rattle.laws.proofs.Cases.{cases}
use Rattle.cap.specs.Rights.{receive_right}
use Rattle.ipc_rules.specs.Opening.{opening_of}
use Rattle.ipc_rules.specs.Receive.{recv_of}
use Rattle.ipc_rules.proofs.Openings.{openings, open_gave, opens_within, Within}
use Rattle.ipc_queue.proofs.inner.queue.try_recv.Goals as goal
use Rattle.ipc_queue.proofs.inner.queue.try_recv.Goals.{After-open, In-Opens}

-- what `open` gave is what the rule asks
gave : (c : After-open) → c.open.result ≡ opening_of c.args.t c.args.cap receive_right
gave c = open_gave _ _ _ c.requires _ _ c.index-i.ensures c.open.ensures

-- what opened is a live mailbox within the arrays
inside : (c : In-Opens) → Within c.args.t c.in-Opens.k
inside c = opens_within _ _ _ _ c.requires (sym (open_gave _ _ _ c.requires _ _ c.index-i.ensures c.open.ensures) ∙ c.in-Opens.is)

pub returns-in_default : goal.returns-in_default
unfolding recv_of
returns-in_default c = rw c.raised-t.ensures (search (cases, openings, gave (goal.at.returns-in_default c).After-open))

pub offset_bounds-t-k : goal.offset_bounds-t-k
offset_bounds-t-k c = omega (arith, inside (goal.at.offset_bounds-t-k c).In-Opens)

pub bounds-t-k : goal.bounds-t-k
bounds-t-k c = omega (arith, inside (goal.at.bounds-t-k c).In-Opens)

pub returns-then-b-eq0 : goal.returns-then-b-eq0
unfolding recv_of
returns-then-b-eq0 c = search (cases, openings, gave (goal.at.returns-then-b-eq0 c).After-open)

pub overflow_mul-msg : goal.overflow_mul-msg
overflow_mul-msg c = omega (arith, inside (goal.at.overflow_mul-msg c).In-Opens)

pub overflow_add-msg : goal.overflow_add-msg
overflow_add-msg c = omega (arith, inside (goal.at.overflow_add-msg c).In-Opens)

pub offset_bounds-t-k-2 : goal.offset_bounds-t-k-2
offset_bounds-t-k-2 c = omega (arith, inside (goal.at.offset_bounds-t-k-2 c).In-Opens)

pub bounds-t-k-2 : goal.bounds-t-k-2
bounds-t-k-2 c = omega (arith, inside (goal.at.bounds-t-k-2 c).In-Opens)

pub drained-requires : goal.drained-requires
drained-requires c = omega (arith, inside (goal.at.drained-requires c).In-Opens)

pub offset_bounds-t-k-3 : goal.offset_bounds-t-k-3
offset_bounds-t-k-3 c = omega (arith, inside (goal.at.offset_bounds-t-k-3 c).In-Opens)

pub bounds-t-k-3 : goal.bounds-t-k-3
bounds-t-k-3 c = omega (arith, inside (goal.at.bounds-t-k-3 c).In-Opens)

pub returns : goal.returns
unfolding recv_of
returns c = rw c.drained.ensures (search (cases, openings, gave (goal.at.returns c).After-open))
