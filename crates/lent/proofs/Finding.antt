-- What the walk of `bind` finds is what the rule asks: the record at each wanted index. Assumes nothing.
use mathlib.Core.Path.{◌≡◌, refl, ap, ◌∙◌}
use mathlib.Core.Bool.{Bool}
use mathlib.Core.List.{List, [], ◌∷◌}
use Prim.Native.Nat.compare
use Prim.Native.Nat.{ℕ, zero, suc, ◌+◌, ◌<◌, ◌≤◌}
use native.Mathlib.Numerals.{add-one}
use native.Mathlib.Omega.{arith}
use lib.ListN.{length, get_or, take, drop, drop_of_length-le}
use lib.Seq.{take_all}
use borrow.Author.Tests.{ne_eqb}
use lib.Dec.{eqb}
use Rattle.std.specs.Prelude.{None, Option, Some}
use Rattle.std.proofs.lemmas.List.{drop_more}
use Rattle.laws.specs.Pick.{pick}
use Rattle.cap.specs.Slot.{vacant_slot, four_vacant}
use Rattle.cap.specs.declared.slot.Slot.{Slot}
use Rattle.manifest.specs.Bind.{want_at, found_in, choice_from, choices_of}
use Rattle.manifest.specs.declared.AgentEntry.{AgentEntry}
use Rattle.walks.specs.Over.{over}
use Rattle.lent.specs.Binding.{index_of, wanted_of, gathered, walked, choices_at, found_all}

-- what stands at place k of the first i + 1 records
one_more : (xs : List Slot) (i k : ℕ) → i < length xs → pick (eqb k i) (get_or xs i vacant_slot) (get_or (take i xs) k vacant_slot) ≡ get_or (take (suc i) xs) k vacant_slot
unfolding pick
one_more [] i k h = absurd (omega arith)
one_more (x ∷ xs) zero zero h = refl
one_more (x ∷ xs) zero (suc k) h = rw (ne_eqb (suc k) zero (λ e. omega arith))
one_more (x ∷ xs) (suc i) zero h = rw (ne_eqb zero (suc i) (λ e. omega arith))
one_more (x ∷ xs) (suc i) (suc k) h = rw compare.suc-suc (one_more xs i k (omega arith))

-- a turn of the walk
pub gathered_more : (wanted : List ℕ) (xs : List Slot) (i : ℕ) → i < length xs → gathered wanted (found_all wanted (take i xs)) i (get_or xs i vacant_slot) ≡ found_all wanted (take (i + 1) xs)
gathered_more wanted xs i h =
    rw add-one (λ j. one_more xs i (get_or wanted 0 0) h j ∷ one_more xs i (get_or wanted 1 0) h j ∷ one_more xs i (get_or wanted 2 0) h j ∷ one_more xs i (get_or wanted 3 0) h j ∷ [])

-- the records from place i on, after those before it
walked_from :
    (wanted : List ℕ) (xs : List Slot) (n i : ℕ) → i + n ≡ length xs → over (walked wanted) (found_all wanted (take i xs), i) (drop i xs) ≡ (found_all wanted xs, length xs)
walked_from wanted xs zero i h =
    let l : length xs ≤ i = omega arith in
    let q : i ≡ length xs = omega arith in
    rw (drop_of_length-le xs l, take_all i xs l) (ap (λ (k : ℕ). (found_all wanted xs, k)) q)
walked_from wanted xs (suc n) i h =
    let l : i < length xs = omega arith in
    ap (λ (ys : List Slot). over (walked wanted) (found_all wanted (take i xs), i) ys) (drop_more xs i vacant_slot l) ∙
    ap (λ (f : List Slot). over (walked wanted) (f, i + 1) (drop (i + 1) xs)) (gathered_more wanted xs i l) ∙ walked_from wanted xs n (i + 1) (omega arith)

-- the whole walk, before which nothing is found
pub walked_all : (wanted : List ℕ) (xs : List Slot) → over (walked wanted) (four_vacant, 0) xs ≡ (found_all wanted xs, length xs)
walked_all wanted xs = walked_from wanted xs (length xs) 0 (omega arith)

-- what a slot that wants nothing has found is not looked at
looked : (w : Option ℕ) (xs : List Slot) (n : ℕ) (pool : Bool) (k : ℕ) → choice_from w (get_or xs (index_of w) vacant_slot) n pool k ≡ choice_from w (found_in w xs) n pool k
unfolding choice_from
looked None xs n pool k = refl
looked (Some i) xs n pool k = refl

pub chosen : (e : AgentEntry) (xs : List Slot) → choices_at e (found_all (wanted_of e) xs) (length xs) ≡ choices_of e xs
chosen e xs = λ j. looked (want_at e 0) xs (length xs) e.packet_pool 0 j ∷ looked (want_at e 1) xs (length xs) e.packet_pool 1 j ∷ looked (want_at e 2) xs (length xs) e.packet_pool 2 j ∷ looked (want_at e 3) xs (length xs) e.packet_pool 3 j ∷ []
