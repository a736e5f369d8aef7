-- Document 01, "What must change shape": a slot is a presence flag and an id that is written as 0 where vacant; and the row of four
-- read at a slot (refusals 8 and 9, with the values that they show).
use Rattle.std.specs.Prelude.{true, false, List, [], ◌∷◌, ℕ, get_or, ltb, Err, Ok, Result}
use Rattle.laws.specs.Pick.{pick}
use Rattle.laws.specs.Refusals as no
use Rattle.shown.specs.Shown.{of_either}
use Rattle.cap.specs.declared.CapId.{CapId}
use Rattle.cap.specs.declared.slot.Slot.{Slot}
use Rattle.cap.specs.declared.slot.SlotError.TheVariants.{OutOfRange, Vacant}
use Rattle.cap.specs.declared.slot.SlotError.{SlotError}

abbrev pub vacant_slot : Slot
vacant_slot = record { present = false; id = record { raw = 0 } }

abbrev pub holding : CapId → Slot
holding c = record { present = true; id = c }

abbrev pub four_vacant : List Slot
four_vacant = vacant_slot ∷ vacant_slot ∷ vacant_slot ∷ vacant_slot ∷ []

-- a slot past the row is out of range of its 4, one that holds nothing is vacant
unfoldable pub from_slot : List Slot → ℕ → Result CapId SlotError
from_slot row s =
    pick (ltb s 4)
    (pick (get_or row s vacant_slot).present (Ok (get_or row s vacant_slot).id) (Err (Vacant s)))
    (Err (OutOfRange s 4))

abbrev pub slot_error_number : SlotError → ℕ
slot_error_number (OutOfRange s n) = no.out_of_range
slot_error_number (Vacant s) = no.vacant

abbrev pub slot_error_values : SlotError → List ℕ
slot_error_values (OutOfRange s n) = s ∷ n ∷ []
slot_error_values (Vacant s) = s ∷ []

abbrev pub id_values : CapId → List ℕ
id_values c = c.raw ∷ []

abbrev pub slot_number : Result CapId SlotError → ℕ
slot_number = of_either (λ _. no.none) slot_error_number

abbrev pub slot_values : Result CapId SlotError → List ℕ
slot_values = of_either id_values slot_error_values
