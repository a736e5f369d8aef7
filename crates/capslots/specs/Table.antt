-- Document 01, "What the box carries over": 54 rows of 4 slots, and how a slot of one is read and changed.
use Rattle.std.specs.Prelude.{◌≡◌, [], ℕ, ◌<◌, get_or, set, replicate, length}
use Rattle.cap.specs.Slot.{vacant_slot, four_vacant}
use Rattle.cap.specs.declared.slot.Slot.{Slot}
use Rattle.capslots.specs.declared.Row.{Row}
use Rattle.capslots.specs.declared.Table.{Table}

abbrev pub empty_row : Row
empty_row = record { slots = four_vacant }

-- a new table: every slot vacant
abbrev pub fresh_table : Table
fresh_table = record { rows = replicate 54 empty_row }

-- row r: one with no slots past the table's end
abbrev pub row_at : Table → ℕ → Row
row_at t r = get_or t.rows r (record { slots = [] })

-- what slot s of row r holds
abbrev pub slot_in : Table → ℕ → ℕ → Slot
slot_in t r s = get_or (row_at t r).slots s vacant_slot

-- the table with another row r
abbrev pub with_row : Table → ℕ → Row → Table
with_row t r row = record { rows = set t.rows r row }

-- the table with x in slot s of row r
abbrev pub with_slot : Table → ℕ → ℕ → Slot → Table
with_slot t r s x = with_row t r (record { slots = set (row_at t r).slots s x })

-- every table that the code holds has 54 rows of 4 slots
pub record Shape (t : Table) : Type 0 where
  pub rows : length t.rows ≡ 54
  pub slots : (r : ℕ) → r < 54 → length (row_at t r).slots ≡ 4
