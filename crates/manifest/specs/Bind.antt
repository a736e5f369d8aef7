-- Document 01, "Rows and binding": `bind`, with refusals 16, 17, 18 and 21.
use Rattle.std.specs.Prelude.{Bool, not, ◌&&◌, List, [], ◌∷◌, ℕ, get_or, length, leb, Option, None, Some, Result, Ok, Err, ⊤}
use Rattle.laws.specs.Pick.{pick}
use Rattle.laws.specs.Refusals as no
use Rattle.shown.specs.Shown.{of_either}
use Rattle.cap.specs.Slot.{vacant_slot, four_vacant}
use Rattle.cap.specs.Word.{words_read, slots_of}
use Rattle.cap.specs.declared.slot.Slot.{Slot}
use Rattle.manifest.specs.declared.AgentEntry.{AgentEntry}
use Rattle.manifest.specs.declared.BindError.TheVariants.{NoSuchCapability, PacketPoolRequired, HeldVacant, BadWord}
use Rattle.manifest.specs.declared.Binding.{Binding}
use Rattle.manifest.specs.declared.BindError.{BindError}

-- what entry slot k wants: past the four, nothing
abbrev pub want_at : AgentEntry → ℕ → Option ℕ
want_at e k = get_or e.slots k None

-- the place of a held list at the wanted index: vacant where nothing is wanted, and past the list's end
abbrev pub found_in : Option ℕ → List Slot → Slot
found_in None held = vacant_slot
found_in (Some i) held = get_or held i vacant_slot

-- what slot k takes by its want, `found` being the place of a held list of n places at the wanted index: nothing wanted is vacant;
-- an index at or past the held length is refused (16), then one from 3 up without packet pool (17), then a vacant place (18)
unfoldable pub choice_from : Option ℕ → Slot → ℕ → Bool → ℕ → Result Slot BindError
choice_from None found n pool k = Ok vacant_slot
choice_from (Some i) found n pool k =
    pick (leb n i) (Err (NoSuchCapability k i n))
    (pick (leb 3 i && not pool) (Err (PacketPoolRequired k i))
    (pick (not found.present) (Err (HeldVacant k i))
    (Ok found)))

-- what entry slot k takes from a held list
abbrev pub choice_of : AgentEntry → List Slot → ℕ → Result Slot BindError
choice_of e held k = choice_from (want_at e k) (found_in (want_at e k) held) (length held) e.packet_pool k

-- a refused bind gives four vacant places
abbrev pub refused_by : BindError → Binding
refused_by a = record { answer = Err a; slots = four_vacant }

-- a place taken before others, where none of these is refused
unfoldable pub with_place : Slot → Result (List Slot) BindError → Result (List Slot) BindError
with_place s (Ok taken) = Ok (s ∷ taken)
with_place s (Err a) = Err a

-- the places that choices take, upward; the first fault stands for them all
unfoldable pub taken : List (Result Slot BindError) → Result (List Slot) BindError
taken [] = Ok []
taken (Ok s ∷ choices) = with_place s (taken choices)
taken (Err a ∷ choices) = Err a

-- what follows from the places taken: a fault ends the bind
unfoldable pub bound : Result (List Slot) BindError → Binding
bound (Ok places) = record { answer = Ok tt; slots = places }
bound (Err a) = refused_by a

-- choices upward, stopping at the first fault
abbrev pub in_order : List (Result Slot BindError) → Binding
in_order choices = bound (taken choices)

-- what the entry's slots take from a held list, upward
abbrev pub choices_of : AgentEntry → List Slot → List (Result Slot BindError)
choices_of e held = choice_of e held 0 ∷ choice_of e held 1 ∷ choice_of e held 2 ∷ choice_of e held 3 ∷ []

-- the entry's slots upward, against a list of slots
unfoldable pub bind_slots : AgentEntry → List Slot → Binding
bind_slots e held = in_order (choices_of e held)

-- the held list as words: one that does not read is refused before all else (21)
unfoldable pub bind_of : AgentEntry → List ℕ → Binding
bind_of e words = pick (words_read words) (bind_slots e (slots_of words)) (refused_by BadWord)

abbrev pub bind_error_number : BindError → ℕ
bind_error_number (NoSuchCapability k i n) = no.no_such_capability
bind_error_number (PacketPoolRequired k i) = no.packet_pool_required
bind_error_number (HeldVacant k i) = no.held_vacant
bind_error_number BadWord = no.bad_word

-- the values that a refused bind shows
abbrev pub bind_error_values : BindError → List ℕ
bind_error_values (NoSuchCapability k i n) = k ∷ i ∷ n ∷ []
bind_error_values (PacketPoolRequired k i) = k ∷ i ∷ []
bind_error_values (HeldVacant k i) = k ∷ i ∷ []
bind_error_values BadWord = []

abbrev pub bind_number : Result ⊤ BindError → ℕ
bind_number = of_either (λ _. no.none) bind_error_number

abbrev pub bind_values : Result ⊤ BindError → List ℕ
bind_values = of_either (λ _. []) bind_error_values
