-- Document 01, "What must change shape": `bind` takes the held list also as a lent slice of slot records, without 21. Its rule is
-- `bind_slots`, on which the word form rests too; here is how the walk of the records goes.
use Rattle.std.specs.Prelude.{List, [], ◌∷◌, ℕ, ◌+◌, eqb, get_or, Option, None, Some, Result, ⊤}
use Rattle.laws.specs.Pick.{pick}
use Rattle.cap.specs.Slot.{vacant_slot}
use Rattle.cap.specs.declared.slot.Slot.{Slot}
use Rattle.manifest.specs.Bind.{want_at, choice_from}
use Rattle.manifest.specs.declared.AgentEntry.{AgentEntry}
use Rattle.manifest.specs.declared.BindError.{BindError}

-- the index that an entry slot asks for; one that wants nothing asks for 0, and what it finds is not looked at
abbrev pub index_of : Option ℕ → ℕ
index_of None = 0
index_of (Some i) = i

-- the four indices
abbrev pub wanted_of : AgentEntry → List ℕ
wanted_of e = index_of (want_at e 0) ∷ index_of (want_at e 1) ∷ index_of (want_at e 2) ∷ index_of (want_at e 3) ∷ []

-- the record at the wanted index, once the walk is there
abbrev pub taken : ℕ → Slot → ℕ → Slot → Slot
taken i found at s = pick (eqb i at) s found

-- what slot k has found after one record more, that at place `at`
abbrev pub taken_at : List ℕ → List Slot → ℕ → Slot → ℕ → Slot
taken_at wanted found at s k = taken (get_or wanted k 0) (get_or found k vacant_slot) at s

-- one record more, for all four slots
abbrev pub gathered : List ℕ → List Slot → ℕ → Slot → List Slot
gathered wanted found at s = taken_at wanted found at s 0 ∷ taken_at wanted found at s 1 ∷ taken_at wanted found at s 2 ∷ taken_at wanted found at s 3 ∷ []

-- a turn of the walk: what the slots have found and the place that it has come to, after one record more
abbrev pub walked : List ℕ → List Slot × ℕ → Slot → List Slot × ℕ
walked wanted g s = (gathered wanted g.0 g.1 s, g.1 + 1)

-- slot k's choice by what it has found in a list of n records
abbrev pub choice_at : AgentEntry → List Slot → ℕ → ℕ → Result Slot BindError
choice_at e found n k = choice_from (want_at e k) (get_or found k vacant_slot) n e.packet_pool k

-- the four choices upward
abbrev pub choices_at : AgentEntry → List Slot → ℕ → List (Result Slot BindError)
choices_at e found n = choice_at e found n 0 ∷ choice_at e found n 1 ∷ choice_at e found n 2 ∷ choice_at e found n 3 ∷ []

-- what stands in a list at the four indices
abbrev pub standing_at : List ℕ → List Slot → ℕ → Slot
standing_at wanted held k = get_or held (get_or wanted k 0) vacant_slot

abbrev pub found_all : List ℕ → List Slot → List Slot
found_all wanted held = standing_at wanted held 0 ∷ standing_at wanted held 1 ∷ standing_at wanted held 2 ∷ standing_at wanted held 3 ∷ []
