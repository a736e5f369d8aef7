-- Document 01, "Rows and binding": get, holds, seed, install and drain, on every row and slot; and, for whoever places ids himself, the
-- lowest empty slot of a row, and ids forgotten in every row.
use Rattle.std.specs.Prelude.{Bool, false, ◌||◌, List, [], ◌∷◌, map, ℕ, eqb, leb, get_or, None, Option, Err, Ok, Result, ⊤}
use Rattle.laws.specs.Pick.{pick}
use Rattle.laws.specs.Every.{some}
use Rattle.laws.specs.Search.{lowest_free}
use Rattle.cap.specs.Slot.{vacant_slot, four_vacant, holding, from_slot}
use Rattle.cap.specs.Word.{words_read, slot_at}
use Rattle.cap.specs.declared.CapId.{CapId}
use Rattle.cap.specs.declared.slot.Slot.{Slot}
use Rattle.cap.specs.declared.slot.SlotError.TheVariants.{OutOfRange}
use Rattle.capslots.specs.Table.{empty_row, row_at, slot_in, with_row, with_slot}
use Rattle.capslots.specs.declared.Row.{Row}
use Rattle.capslots.specs.declared.Table.{Table}
use Rattle.capslots.specs.declared.Drained.{Drained}
use Rattle.cap.specs.declared.word.WordError.TheVariants.{BadWord}
use Rattle.capslots.specs.declared.answers.InstallError.TheVariants.{BadSlot}
use Rattle.cap.specs.declared.slot.SlotError.{SlotError}
use Rattle.cap.specs.declared.word.WordError.{WordError}
use Rattle.shown.specs.declared.Answered.{Answered}
use Rattle.capslots.specs.declared.answers.InstallError.{InstallError}

-- a bad row is out of range as one of 0 slots (8), else the row is read at the slot (8 with 4, or 9)
unfoldable pub get_of : Table → ℕ → ℕ → Result CapId SlotError
get_of t r s = pick (leb 54 r) (Err (OutOfRange s 0)) (from_slot (row_at t r).slots s)

-- a slot holds the id: it is not vacant, and the id in it is that one
abbrev pub names_id : CapId → Slot → Bool
names_id c x = pick x.present (eqb x.id.raw c.raw) false

-- some slot of the row holds the id; a bad row holds none
unfoldable pub holds_of : Table → ℕ → CapId → Bool
holds_of t r c = pick (leb 54 r) false (some (λ s. names_id c (slot_in t r s)) 4)

-- the list's first four slots, vacant past its end
abbrev pub row_of : List ℕ → Row
row_of words = record { slots = slot_at words 0 ∷ slot_at words 1 ∷ slot_at words 2 ∷ slot_at words 3 ∷ [] }

-- a list that does not read is refused before all else (21); a row from 54 up is without effect; else the list fills the row
unfoldable pub seed_of : Table → ℕ → List ℕ → Answered (Result ⊤ WordError) Table
seed_of t r words =
    pick (words_read words)
    (pick (leb 54 r) (record { answer = Ok tt; table = t }) (record { answer = Ok tt; table = with_row t r (row_of words) }))
    (record { answer = Err BadWord; table = t })

-- a bad row, a bad slot or an occupied one is refused (10)
unfoldable pub install_of : Table → ℕ → ℕ → CapId → Answered (Result ⊤ InstallError) Table
install_of t r s c =
    pick (leb 54 r) (record { answer = Err BadSlot; table = t })
    (pick (leb 4 s) (record { answer = Err BadSlot; table = t })
    (pick (slot_in t r s).present (record { answer = Err BadSlot; table = t })
    (record { answer = Ok tt; table = with_slot t r s (holding c) })))

-- the row's four slots, which are then vacant; four vacant and no change for a bad row
unfoldable pub drain_of : Table → ℕ → Drained
drain_of t r =
    pick (leb 54 r) (record { slots = four_vacant; table = t })
    (record { slots = (row_at t r).slots; table = with_row t r empty_row })

-- slot s of a row holds an id
abbrev pub taken_in : Row → ℕ → Bool
taken_in row s = (get_or row.slots s vacant_slot).present

-- the lowest slot of a row that holds none
abbrev pub empty_in : Row → Option ℕ
empty_in row = lowest_free (taken_in row) 0 4

-- the lowest empty slot of row r; a bad row has none
unfoldable pub empty_slot_of : Table → ℕ → Option ℕ
empty_slot_of t r = pick (leb 54 r) None (empty_in (row_at t r))

-- a slot that holds one of two ids becomes vacant, another stays as it is
unfoldable pub forget_in : CapId → CapId → Slot → Slot
forget_in a b x = pick (names_id a x || names_id b x) vacant_slot x

-- every slot of a row so
abbrev pub forget_row : CapId → CapId → Row → Row
forget_row a b row = record { slots = map (forget_in a b) row.slots }

-- and every row
unfoldable pub forgotten_of : Table → CapId → CapId → Table
forgotten_of t a b = record { rows = map (forget_row a b) t.rows }
