-- Request No. 7: "the number of slots in all rows that contain its send id. The same id in two slots counts twice."
use Rattle.std.specs.Prelude.{List, [], ◌∷◌, ℕ, ◌+◌}
use Rattle.laws.specs.Pick.{pick}
use Rattle.cap.specs.declared.CapId.{CapId}
use Rattle.cap.specs.declared.slot.Slot.{Slot}
use Rattle.capslots.specs.Rows.{names_id}
use Rattle.capslots.specs.declared.Row.{Row}
use Rattle.capslots.specs.declared.Table.{Table as Rows}

-- the sum of f over a list
unfoldable pub sum_over : {A : Type 0} → (A → ℕ) → List A → ℕ
sum_over f [] = 0
sum_over f (x ∷ xs) = f x + sum_over f xs

-- the sum of f over every slot of every row
unfoldable pub over_slots : (Slot → ℕ) → Rows → ℕ
over_slots f rows = sum_over (λ (row : Row). sum_over f row.slots) rows.rows

-- how many slots hold the id
abbrev pub slots_with : Rows → CapId → ℕ
slots_with rows c = over_slots (λ x. pick (names_id c x) 1 0) rows
