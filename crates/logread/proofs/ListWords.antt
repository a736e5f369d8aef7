-- The words of a list of the log all read, and stand for its four slots. Assumes nothing.
use Rattle.std.specs.Prelude.{Ok}
use mathlib.Core.Path.{◌≡◌}
use mathlib.Core.Bool.{true}
use mathlib.Core.List.{List}
use Prim.Native.Nat.{ℕ, ◌+◌, ◌*◌, ◌<◌}
use Rattle.laws.specs.Every.{every}
use Rattle.laws.proofs.Cases.{all_pick}
use Rattle.cap.specs.Word.{word_of, read_word, is_word, words_read, or_vacant, slots_of}
use Rattle.cap.specs.declared.slot.Slot.{Slot}
use Rattle.cap.proofs.Words.{holding_back, vacant_back, reads_test}
use Rattle.logread.specs.Little.{byte_at}
use Rattle.logread.specs.Lists.{list_slot, list_slots, list_words, raw_at}
use Rattle.logread.proofs.Numbers.{below}

module _ (log : List ℕ) (bytes : (i : ℕ) → byte_at log i < 256) (at : ℕ) where
  -- an entry's word reads as the entry
  pub entry_back : (i : ℕ) → read_word (word_of (list_slot log at i)) ≡ Ok (list_slot log at i)
  unfolding list_slot
  entry_back i = all_pick P _ _ _ (λ _. all_pick P _ _ _ (λ _. vacant_back) (λ _. holding_back (record { raw = raw_at log at i }) (below log bytes 4 (at + 5 * i + 1)))) (λ _. vacant_back)
    where
      P : Slot → Type 0
      P s = read_word (word_of s) ≡ Ok s

  entry_word : (i : ℕ) → is_word (word_of (list_slot log at i)) ≡ true
  entry_word i = reads_test (word_of (list_slot log at i)) (list_slot log at i) (entry_back i)

  pub list_words_read : words_read (list_words log at) ≡ true
  unfolding every
  list_words_read = rw (entry_word 0, entry_word 1, entry_word 2, entry_word 3)

  pub list_words_slots : slots_of (list_words log at) ≡ list_slots log at
  unfolding slots_of or_vacant
  list_words_slots = rw (entry_back 0, entry_back 1, entry_back 2, entry_back 3)
