-- `ipc_queue::inner::queue::send` meets its contract. What `open` gave is what the rule asks, a mailbox that opens is live, and a message is
-- stamped with a row that was let through. Assumes nothing.
use mathlib.Core.Path.{◌≡◌, sym, ◌∙◌}
use mathlib.Core.Bool.{false}
use native.Mathlib.Omega.{arith}
use borrow.Author.Tests.{lt-leb}
use lib.Dec.{leb}
use Rattle.laws.proofs.Cases.{cases}
use Rattle.cap.specs.Rights.{send_right}
use Rattle.ipc_rules.specs.Opening.{opening_of}
use Rattle.ipc_rules.specs.Send.{send_of}
use Rattle.ipc_rules.proofs.Openings.{openings, open_gave, opens_within, Within}
use Rattle.ipc_queue.proofs.inner.queue.send.Goals as goal
use Rattle.ipc_queue.proofs.inner.queue.send.Goals.{After-open, In-Opens}

-- what `open` gave is what the rule asks
gave : (c : After-open) → c.open.result ≡ opening_of c.args.t c.args.cap send_right
gave c = open_gave _ _ _ c.requires _ _ c.index-i.ensures c.open.ensures

-- what opened is a live mailbox within the arrays
inside : (c : In-Opens) → Within c.args.t c.in-Opens.k
inside c = opens_within _ _ _ _ c.requires (sym (open_gave _ _ _ c.requires _ _ c.index-i.ensures c.open.ensures) ∙ c.in-Opens.is)

pub returns-then-row-ge-ROWS : goal.returns-then-row-ge-ROWS
unfolding send_of
returns-then-row-ge-ROWS c = search cases

pub returns-in_default : goal.returns-in_default
unfolding send_of
returns-in_default c = rw c.raised-t.ensures (search (cases, openings, gave (goal.at.returns-in_default c).After-open))

pub offset_bounds-t-k : goal.offset_bounds-t-k
offset_bounds-t-k c = omega (arith, inside (goal.at.offset_bounds-t-k c).In-Opens)

pub bounds-t-k : goal.bounds-t-k
bounds-t-k c = omega (arith, inside (goal.at.bounds-t-k c).In-Opens)

pub returns-then-b-t : goal.returns-then-b-t
unfolding send_of
returns-then-b-t c = rw c.raised-t-then-b-t.ensures (search (cases, openings, gave (goal.at.returns-then-b-t c).After-open))

pub overflow_mul-at : goal.overflow_mul-at
overflow_mul-at c = omega (arith, inside (goal.at.overflow_mul-at c).In-Opens)

pub overflow_add-at : goal.overflow_add-at
overflow_add-at c = omega (arith, inside (goal.at.overflow_add-at c).In-Opens)

pub offset_bounds-t-at : goal.offset_bounds-t-at
offset_bounds-t-at c = omega (arith, inside (goal.at.offset_bounds-t-at c).In-Opens)

pub bounds-t-at : goal.bounds-t-at
bounds-t-at c = omega (arith, inside (goal.at.bounds-t-at c).In-Opens)

pub filled-requires : goal.filled-requires
filled-requires c = omega (arith, inside (goal.at.filled-requires c).In-Opens)

pub offset_bounds-t-k-2 : goal.offset_bounds-t-k-2
offset_bounds-t-k-2 c = omega (arith, inside (goal.at.offset_bounds-t-k-2 c).In-Opens)

pub bounds-t-k-2 : goal.bounds-t-k-2
bounds-t-k-2 c = omega (arith, inside (goal.at.bounds-t-k-2 c).In-Opens)

pub returns : goal.returns
unfolding send_of
returns c =
    let let_through : leb 54 c.args.row ≡ false = lt-leb 54 _ c.if-row-ge-ROWS.false in
    rw (c.filled.ensures, c.stamped.ensures) (search (cases, openings, gave (goal.at.returns c).After-open, let_through))
