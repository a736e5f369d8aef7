-- `jobscript::looks::op_row` meets its contract. Assumes nothing.
use Rattle.jobscript.proofs.RowShown.{row_refused, row_shown}
use Rattle.jobscript.proofs.looks.op_row.Goals as goal

pub returns-then-row-ge-ROWS : goal.returns-then-row-ge-ROWS
returns-then-row-ge-ROWS c = row_refused _ _ c.index_at-row.ensures c.if-row-ge-ROWS.true c.new.ensures

pub returns : goal.returns
returns c = row_shown _ _ c.index_at-row.ensures c.if-row-ge-ROWS.false c.drain_shown.ensures
