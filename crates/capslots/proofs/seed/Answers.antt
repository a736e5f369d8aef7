-- `capslots::seed` meets its contract: the four slots are those that the list's words stand for. Assumes nothing.
use Rattle.std.proofs.Common.{rules, ◌≡◌, ap, List}
use Rattle.std.proofs.lemmas.List.FromFn.{fill_by_all}
use Rattle.laws.proofs.Cases.{cases}
use Rattle.cap.specs.Slot.{vacant_slot}
use Rattle.cap.specs.Word.{slot_at}
use Rattle.cap.specs.declared.slot.Slot.{Slot}
use Rattle.capslots.specs.Rows.{seed_of, row_of}
use Rattle.capslots.specs.declared.Row.{Row}
use Rattle.capslots.proofs.seed.Goals as goal
use Rattle.capslots.proofs.seed.Goals.{After-from_fn}

filled : (c : After-from_fn) → ◌≡◌ {A = Row} (record { slots = c.from_fn.result }) (row_of c.args.list.now)
filled c =
    let made = c.from_fn.ensures.items in
    ap (λ (l : List Slot). record { slots = l }) (fill_by_all (slot_at c.args.list.now) _ 4 vacant_slot made.long (λ k b. search (rules, made.at k vacant_slot b)))

pub returns-then-row-lt-ROWS : goal.returns-then-row-lt-ROWS
unfolding seed_of
returns-then-row-lt-ROWS c = rw (← c.words_read.ensures, filled c) (search cases)
