-- Document 01, "The operation log": a list is four times presence byte and id; and which flags and lists are well formed.
use Rattle.std.specs.Prelude.{Bool, not, ◌&&◌, ◌||◌, List, [], ◌∷◌, ℕ, ◌+◌, ◌*◌, eqb, leb, ltb}
use Rattle.laws.specs.Pick.{pick}
use Rattle.laws.specs.Every.{every}
use Rattle.cap.specs.Slot.{vacant_slot, holding}
use Rattle.cap.specs.Word.{word_of}
use Rattle.cap.specs.declared.slot.Slot.{Slot}
use Rattle.logread.specs.Little.{byte_at, little_at}

-- a flag or presence byte is 0 or 1
abbrev pub flag_ok : ℕ → Bool
flag_ok byte = leb byte 1

-- the presence byte of entry i in the list from `at` on
abbrev pub presence_at : List ℕ → ℕ → ℕ → ℕ
presence_at log at i = byte_at log (at + 5 * i)

-- the id of entry i, as a number
abbrev pub raw_at : List ℕ → ℕ → ℕ → ℕ
raw_at log at i = little_at log (at + 5 * i + 1) 4

-- entry i is well formed: its presence byte is a flag, and presence 0 comes with id 0 alone
unfoldable pub entry_ok : List ℕ → ℕ → ℕ → Bool
entry_ok log at i = flag_ok (presence_at log at i) && (not (eqb (presence_at log at i) 0) || eqb (raw_at log at i) 0)

-- the four entries from `at` on are well formed
unfoldable pub list_ok : List ℕ → ℕ → Bool
list_ok log at = every (entry_ok log at) 4

-- entry i as a slot: presence 0 is vacant, and there is nothing past the fourth
unfoldable pub list_slot : List ℕ → ℕ → ℕ → Slot
list_slot log at i =
    pick (ltb i 4)
    (pick (eqb (presence_at log at i) 0) vacant_slot (holding (record { raw = raw_at log at i })))
    vacant_slot

-- the list as a row of four slots
abbrev pub list_slots : List ℕ → ℕ → List Slot
list_slots log at = list_slot log at 0 ∷ list_slot log at 1 ∷ list_slot log at 2 ∷ list_slot log at 3 ∷ []

-- the list as four words
abbrev pub list_words : List ℕ → ℕ → List ℕ
list_words log at = word_of (list_slot log at 0) ∷ word_of (list_slot log at 1) ∷ word_of (list_slot log at 2) ∷ word_of (list_slot log at 3) ∷ []
