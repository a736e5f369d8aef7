-- Document 01, "Every no, by number": the numbers and values of what the calls on rows answer.
use Rattle.std.specs.Prelude.{Bool, List, [], ◌∷◌, ◌++◌, ℕ, get_or, Result, ⊤}
use Rattle.laws.specs.Pick.{pick}
use Rattle.laws.specs.Refusals as no
use Rattle.shown.specs.Shown.{of_either}
use Rattle.cap.specs.Word.{word_error_number}
use Rattle.cap.specs.Slot.{vacant_slot}
use Rattle.cap.specs.declared.slot.Slot.{Slot}
use Rattle.capslots.specs.declared.answers.InstallError.TheVariants.{BadSlot}
use Rattle.capslots.specs.declared.answers.TransferError.TheVariants.{BadFromSlot, ToSlotFull, ToSlotOob, Untransferable, BadRow}
use Rattle.cap.specs.declared.word.WordError.{WordError}
use Rattle.capslots.specs.declared.answers.InstallError.{InstallError}
use Rattle.capslots.specs.declared.answers.TransferError.{TransferError}

abbrev pub install_error_number : InstallError → ℕ
install_error_number BadSlot = no.bad_slot

abbrev pub transfer_error_number : TransferError → ℕ
transfer_error_number BadFromSlot = no.bad_from_slot
transfer_error_number ToSlotFull = no.to_slot_full
transfer_error_number ToSlotOob = no.to_slot_oob
transfer_error_number Untransferable = no.untransferable
transfer_error_number BadRow = no.bad_row

abbrev pub seed_number : Result ⊤ WordError → ℕ
seed_number = of_either (λ _. no.none) word_error_number

abbrev pub install_number : Result ⊤ InstallError → ℕ
install_number = of_either (λ _. no.none) install_error_number

abbrev pub transfer_number : Result ⊤ TransferError → ℕ
transfer_number = of_either (λ _. no.none) transfer_error_number

-- none of the three shows a value
abbrev pub seed_values : Result ⊤ WordError → List ℕ
seed_values = of_either (λ _. []) (λ _. [])

abbrev pub install_values : Result ⊤ InstallError → List ℕ
install_values = of_either (λ _. []) (λ _. [])

abbrev pub transfer_values : Result ⊤ TransferError → List ℕ
transfer_values = of_either (λ _. []) (λ _. [])

-- ---- calls that nothing refuses
-- a slot as `0`, or `1 id`
unfoldable pub held_values : Slot → List ℕ
held_values s = pick s.present (1 ∷ s.id.raw ∷ []) (0 ∷ [])

-- a drain shows four of them
abbrev pub drain_values : List Slot → List ℕ
drain_values ss = held_values (get_or ss 0 vacant_slot) ++ held_values (get_or ss 1 vacant_slot) ++ held_values (get_or ss 2 vacant_slot) ++ held_values (get_or ss 3 vacant_slot)

-- whether a row holds an id: yes is 1 and no is 0
unfoldable pub holds_values : Bool → List ℕ
holds_values b = pick b (1 ∷ []) (0 ∷ [])
