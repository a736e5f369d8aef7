-- Every lent list of slot records is answered as the words that stand for it: all of them read, and the id of a vacant record is never
-- read. Assumes nothing.
use mathlib.Core.Path.{◌≡◌, refl, sym, ap, ◌∙◌}
use mathlib.Core.Bool.{Bool, true, false}
use mathlib.Core.List.{List, [], ◌∷◌, map}
use Prim.Native.Nat.{ℕ, zero, suc, ◌<◌}
use lib.ListN.{get_or, length, length-map}
use Rattle.std.specs.Prelude.{None, Option, Some, Ok}
use Rattle.laws.specs.Pick.{pick}
use Rattle.laws.proofs.Every.{at_every}
use Rattle.laws.proofs.Lists.{all_map}
use Rattle.cap.specs.Slot.{vacant_slot}
use Rattle.cap.specs.Word.{read_word, word_of, is_word, or_vacant, words_read, slots_of}
use Rattle.cap.specs.declared.slot.Slot.{Slot}
use Rattle.cap.proofs.Words.{holding_back, vacant_back, reads_test}
use Rattle.ipc_rules.specs.Opening.{opened, hold_of}
use Rattle.ipc_rules.specs.Holds.{registered, registered_all}
use Rattle.ipc_sound.specs.Border.{register_call}
use Rattle.ipc_rules.specs.declared.state.Table.{Table}
use Rattle.manifest.specs.Bind.{want_at, found_in, choice_from, choice_of, bind_slots, bind_of}
use Rattle.manifest.specs.declared.AgentEntry.{AgentEntry}
use Rattle.lent.specs.Holds.{register_slots}
use Rattle.lent.proofs.Agree.{register_agrees, bind_agrees}

-- what a u32 says of a record's id
abbrev pub Fits : List Slot → Type 0
Fits xs = (i : ℕ) → (get_or xs i vacant_slot).id.raw < 4294967296

-- the words that stand for the records
abbrev pub words_of : List Slot → List ℕ
words_of xs = map word_of xs

-- a record with nothing in it where it is vacant
abbrev cleared : Slot → Slot
cleared x = pick x.present x vacant_slot

-- ---- words
read_back : (x : Slot) → x.id.raw < 4294967296 → read_word (word_of x) ≡ Ok (cleared x)
unfolding word_of pick
read_back x h = by x.present
  where
    by : (b : Bool) → read_word (word_of (record { present = b; id = x.id })) ≡ Ok (cleared (record { present = b; id = x.id }))
    by true = holding_back x.id h
    by false = vacant_back

all_read : (xs : List Slot) → Fits xs → words_read (words_of xs) ≡ true
unfolding word_of pick
all_read xs h =
    at_every (λ i. is_word (get_or (words_of xs) i 0)) (length (words_of xs)) (λ k _.
    all_map (λ _ w. is_word w ≡ true) word_of xs vacant_slot 0 refl (λ i. reads_test (word_of (get_or xs i vacant_slot)) (cleared (get_or xs i vacant_slot)) (read_back (get_or xs i vacant_slot) (h i))) k)

back : (xs : List Slot) → Fits xs → slots_of (words_of xs) ≡ map cleared xs
unfolding slots_of or_vacant
back [] h = refl
back (x ∷ xs) h = λ i. or_vacant (read_back x (h zero) i) ∷ back xs (λ k. h (suc k)) i

-- ---- the id of a vacant record is not read
cleared_registered : (t : Table) (x : Slot) → registered t (cleared x) ≡ registered t x
unfolding registered hold_of opened pick
cleared_registered t x = by x.present
  where
    by : (b : Bool) → registered t (cleared (record { present = b; id = x.id })) ≡ registered t (record { present = b; id = x.id })
    by true = refl
    by false = refl

cleared_all : (t : Table) (xs : List Slot) → registered_all t (map cleared xs) ≡ registered_all t xs
unfolding registered_all
cleared_all t [] = refl
cleared_all t (x ∷ xs) = ap (λ (u : Table). registered_all u (map cleared xs)) (cleared_registered t x) ∙ cleared_all (registered t x) xs

cleared_choice : (w : Option ℕ) (x : Slot) (n : ℕ) (pool : Bool) (k : ℕ) → choice_from w (cleared x) n pool k ≡ choice_from w x n pool k
unfolding choice_from pick
cleared_choice None x n pool k = refl
cleared_choice (Some i) x n pool k = by x.present
  where
    by : (b : Bool) → choice_from (Some i) (cleared (record { present = b; id = x.id })) n pool k ≡ choice_from (Some i) (record { present = b; id = x.id }) n pool k
    by true = refl
    by false = refl

cleared_at : (xs : List Slot) (i : ℕ) → get_or (map cleared xs) i vacant_slot ≡ cleared (get_or xs i vacant_slot)
unfolding pick
cleared_at [] i = refl
cleared_at (x ∷ xs) zero = refl
cleared_at (x ∷ xs) (suc i) = cleared_at xs i

cleared_found : (w : Option ℕ) (xs : List Slot) → found_in w (map cleared xs) ≡ cleared (found_in w xs)
unfolding pick
cleared_found None xs = refl
cleared_found (Some i) xs = cleared_at xs i

cleared_slot : (e : AgentEntry) (xs : List Slot) (k : ℕ) → choice_of e (map cleared xs) k ≡ choice_of e xs k
cleared_slot e xs k = rw (cleared_found (want_at e k) xs, length-map xs cleared) (cleared_choice (want_at e k) (found_in (want_at e k) xs) (length xs) e.packet_pool k)

cleared_bind : (e : AgentEntry) (xs : List Slot) → bind_slots e (map cleared xs) ≡ bind_slots e xs
unfolding bind_slots
cleared_bind e xs = rw (cleared_slot e xs 0, cleared_slot e xs 1, cleared_slot e xs 2, cleared_slot e xs 3)

-- ---- both calls
pub register_as_words : (t : Table) (xs : List Slot) → Fits xs → register_slots t xs ≡ register_call t (words_of xs)
register_as_words t xs h =
    sym (register_agrees t (words_of xs) (all_read xs h) ∙ ap (register_slots t) (back xs h) ∙ rw (cleared_all t xs) refl)

pub bind_as_words : (e : AgentEntry) (xs : List Slot) → Fits xs → bind_slots e xs ≡ bind_of e (words_of xs)
bind_as_words e xs h = sym (bind_agrees e (words_of xs) (all_read xs h) ∙ ap (bind_slots e) (back xs h) ∙ cleared_bind e xs)
