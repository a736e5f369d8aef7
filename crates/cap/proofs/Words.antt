-- Words and slots: each way there and back is the same, and a word that reads is one that is not refused. Assumes nothing.
use Rattle.std.specs.Prelude.{Result, Err, Ok}
use mathlib.Core.Path.{◌≡◌, refl, sym, ap}
use mathlib.Core.Bool.{Bool, true, false, ◌||◌}
use mathlib.Core.List.{List, [], ◌∷◌}
use Prim.Native.Nat.{ℕ, zero, suc, ◌+◌, ◌/◌, ◌%◌, ◌<◌}
use native.Mathlib.Omega.{arith}
use borrow.Author.Tests.{eq-eqb, ne_eqb, eqb-true}
use lib.Dec.{eqb}
use lib.ListN.{get_or, length}
use Rattle.laws.specs.Pick.{pick}
use Rattle.laws.proofs.Cases.{all_pick}
use Rattle.cap.specs.Slot.{vacant_slot, holding}
use Rattle.cap.specs.Word.{read_word, word_of, is_word, or_vacant, slot_at, slots_of}
use Rattle.cap.specs.declared.CapId.{CapId}
use Rattle.cap.specs.declared.slot.Slot.{Slot}
use Rattle.cap.specs.declared.word.WordError.{WordError}
use Rattle.cap.specs.declared.word.WordError.TheVariants.{BadWord}

-- the word of an id reads as that id
pub holding_back : (c : CapId) → c.raw < 4294967296 → read_word (word_of (holding c)) ≡ Ok (holding c)
unfolding read_word word_of pick
holding_back c h =
    let e : (4294967296 + c.raw) % 4294967296 ≡ c.raw = omega arith in
    rw (ne_eqb (4294967296 + c.raw) 0 (λ z. omega arith), eq-eqb ((4294967296 + c.raw) / 4294967296) 1 (omega arith))
    (ap (λ (n : ℕ). Ok (holding (record { raw = n }))) e)

pub vacant_back : read_word (word_of vacant_slot) ≡ Ok vacant_slot
unfolding read_word word_of pick
vacant_back = refl

zeroed : (w : ℕ) (s : Slot) → w ≡ 0 → ◌≡◌ {A = Result Slot WordError} (Ok vacant_slot) (Ok s) → word_of s ≡ w
unfolding word_of pick
zeroed w s z e = let q : vacant_slot ≡ s = cc in rw (← q) (sym z)

shifted : (w : ℕ) (s : Slot) → w / 4294967296 ≡ 1 → ◌≡◌ {A = Result Slot WordError} (Ok (holding (record { raw = w % 4294967296 }))) (Ok s) → word_of s ≡ w
unfolding word_of pick
shifted w s p e = let q : holding (record { raw = w % 4294967296 }) ≡ s = cc in rw (← q) (omega arith)

-- what a word reads as has that word
pub word_back : (w : ℕ) (s : Slot) → read_word w ≡ Ok s → word_of s ≡ w
unfolding read_word
word_back w s =
    all_pick (λ a. a ≡ Ok s → word_of s ≡ w) _ _ _ (λ z e. zeroed w s (eqb-true w 0 z) e)
    (λ _. all_pick (λ a. a ≡ Ok s → word_of s ≡ w) _ _ _ (λ p e. shifted w s (eqb-true (w / 4294967296) 1 p) e)
    (λ _ e. let z : ◌≡◌ {A = ℕ} 0 1 = cc in absurd (omega arith)))

-- the test and the reading agree
pub test_reads : (w : ℕ) → is_word w ≡ false → read_word w ≡ Err BadWord
unfolding read_word pick
test_reads w h = by (eqb w 0) (eqb (w / 4294967296) 1) h
  where
    by : (a b : Bool) → (a || b) ≡ false → pick a (Ok vacant_slot) (pick b (Ok (holding (record { raw = w % 4294967296 }))) (Err BadWord)) ≡ Err BadWord
    by false false h = refl
    by true b h = let z : ◌≡◌ {A = ℕ} 0 1 = cc in absurd (omega arith)
    by false true h = let z : ◌≡◌ {A = ℕ} 0 1 = cc in absurd (omega arith)

pub reads_test : (w : ℕ) (s : Slot) → read_word w ≡ Ok s → is_word w ≡ true
unfolding read_word pick
reads_test w s = by (eqb w 0) (eqb (w / 4294967296) 1)
  where
    by : (a b : Bool) → pick a (Ok vacant_slot) (pick b (Ok (holding (record { raw = w % 4294967296 }))) (Err BadWord)) ≡ Ok s → (a || b) ≡ true
    by true b e = refl
    by false true e = refl
    by false false e = let z : ◌≡◌ {A = ℕ} 0 1 = cc in absurd (omega arith)

-- a list of words holds at each place what its list of slots has there, and is as long
pub slots_at : (l : List ℕ) (i : ℕ) → get_or (slots_of l) i vacant_slot ≡ slot_at l i
unfolding slots_of or_vacant read_word pick
slots_at [] i = refl
slots_at (w ∷ l) zero = refl
slots_at (w ∷ l) (suc i) = slots_at l i

pub slots_length : (l : List ℕ) → length (slots_of l) ≡ length l
unfolding slots_of
slots_length [] = refl
slots_length (w ∷ l) = ap suc (slots_length l)
