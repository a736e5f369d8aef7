-- What each turn of `words_read` keeps: of each word passed whether it reads.
use mathlib.Core.Path.{◌≡◌}
use mathlib.Core.Bool.{Bool}
use mathlib.Core.List.{List}
use Prim.Native.Nat.{ℕ}
use lib.ListN.{get_or}
use Rattle.laws.specs.Every.{every}
use Rattle.cap.specs.Word.{is_word}
use Rattle.cap.proofs.word.words_read.Given as goal

abbrev reads : List ℕ → ℕ → Bool
reads list i = is_word (get_or list i 0)

abbrev pub invariant-loop-word : goal.invariant-loop-word
invariant-loop-word l = l.ok ≡ every (reads l.list) l.word-index
