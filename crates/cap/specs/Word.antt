-- Document 01, "What must change shape": lists come as words, 0 vacant, 4,294,967,296 + raw present, others refused (21).
use Rattle.std.specs.Prelude.{Bool, ◌||◌, List, [], ◌∷◌, ℕ, ◌+◌, ◌/◌, ◌%◌, get_or, length, eqb, Err, Ok, Result}
use Rattle.laws.specs.Pick.{pick}
use Rattle.laws.specs.Every.{every}
use Rattle.laws.specs.Refusals as no
use Rattle.shown.specs.Shown.{of_either}
use Rattle.cap.specs.Slot.{vacant_slot, holding}
use Rattle.cap.specs.declared.slot.Slot.{Slot}
use Rattle.cap.specs.declared.word.WordError.TheVariants.{BadWord}
use Rattle.cap.specs.declared.word.WordError.{WordError}

-- the slot that a word stands for
unfoldable pub read_word : ℕ → Result Slot WordError
read_word w =
    pick (eqb w 0) (Ok vacant_slot)
    (pick (eqb (w / 4294967296) 1) (Ok (holding (record { raw = w % 4294967296 })))
    (Err BadWord))

abbrev pub word_error_number : WordError → ℕ
word_error_number BadWord = no.bad_word

abbrev pub word_number : Result Slot WordError → ℕ
word_number = of_either (λ _. no.none) word_error_number

-- a word shows no values, whether it reads or not: the call that it is for does
abbrev pub word_values : Result Slot WordError → List ℕ
word_values = of_either (λ _. []) (λ _. [])

-- the word that stands for a slot
unfoldable pub word_of : Slot → ℕ
word_of s = pick s.present (4294967296 + s.id.raw) 0

-- a word that reads: 0, or one from 4,294,967,296 up to twice that
abbrev pub is_word : ℕ → Bool
is_word w = eqb w 0 || eqb (w / 4294967296) 1

-- every word of the list reads
abbrev pub words_read : List ℕ → Bool
words_read l = every (λ i. is_word (get_or l i 0)) (length l)

-- the slot that was read, vacant where the word did not read
unfoldable pub or_vacant : Result Slot WordError → Slot
or_vacant (Ok s) = s
or_vacant (Err e) = vacant_slot

abbrev pub slot_of : ℕ → Slot
slot_of w = or_vacant (read_word w)

-- what a list holds at i: vacant past its end
abbrev pub slot_at : List ℕ → ℕ → Slot
slot_at l i = slot_of (get_or l i 0)

-- the slots that a list of words stands for
unfoldable pub slots_of : List ℕ → List Slot
slots_of [] = []
slots_of (w ∷ l) = slot_of w ∷ slots_of l
