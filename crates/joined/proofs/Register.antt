-- What a list that reads registers, and what a list of one word does; what a row that was let go holds once a list is in it; and an
-- install's two ways. Assumes nothing.
use Rattle.std.specs.Prelude.{Err, Ok, Result, ⊤}
use mathlib.Core.Path.{◌≡◌, refl, ◌∙◌}
use mathlib.Core.Bool.{true}
use mathlib.Core.List.{List, [], ◌∷◌}
use Prim.Native.Nat.{ℕ, ◌<◌}
use borrow.Author.Tests.{lt-leb}
use Rattle.laws.specs.Pick.{pick}
use Rattle.laws.specs.Every.{every}
use Rattle.cap.specs.Word.{read_word, words_read, or_vacant, slots_of}
use Rattle.cap.specs.declared.slot.Slot.{Slot}
use Rattle.cap.proofs.Words.{reads_test}
use Rattle.capslots.specs.Rows.{row_of, seed_of, drain_of}
use Rattle.capslots.specs.Table.{row_at, Shape}
use Rattle.capslots.specs.declared.Table.{Table as Rows}
use Rattle.capslots.specs.declared.answers.InstallError.TheVariants.{BadSlot}
use Rattle.capslots.proofs.Calls.{seed_fills, drain_shape}
use Rattle.ipc_rules.specs.Holds.{registered, registered_all, register_of}
use Rattle.ipc_rules.specs.declared.state.Table.{Table as Channels}
use Rattle.joined.specs.Steps.{installs}
use Rattle.capslots.specs.declared.answers.InstallError.{InstallError}

pub list_registered : (t : Channels) (words : List ℕ) → words_read words ≡ true → (register_of t words).table ≡ registered_all t (slots_of words)
unfolding register_of pick
list_registered t words h = rw h

module _ (t : Channels) (w : ℕ) (s : Slot) (e : read_word w ≡ Ok s) where
  reads : words_read (w ∷ []) ≡ true
  unfolding every
  reads = reads_test w s e

  slots : slots_of (w ∷ []) ≡ s ∷ []
  unfolding slots_of or_vacant
  slots = rw e

  pub word_registered : (register_of t (w ∷ [])).table ≡ registered t s
  unfolding registered_all
  word_registered = list_registered t (w ∷ []) reads ∙ rw slots

-- a list that reads is in the row
seeds : (u : Rows) (r : ℕ) (words : List ℕ) → words_read words ≡ true → r < 54 → (seed_of u r words).answer ≡ Ok tt
unfolding seed_of pick
seeds u r words w l = rw (w, lt-leb 54 r l)

pub seeded_row : (rows : Rows) (r : ℕ) (words : List ℕ) → Shape rows → words_read words ≡ true → r < 54 → row_at (seed_of (drain_of rows r).table r words).table r ≡ row_of words
seeded_row rows r words shape w l = seed_fills (drain_of rows r).table r words (drain_shape rows r shape) (seeds (drain_of rows r).table r words w l) l

-- q is what the code's install answered, and p what the rule's does
module _ {A : Type 0} {r : A} {q p : Result ⊤ InstallError} (e : q ≡ p) where
  pub refuses : {a : A} {x : InstallError} (b : A) → q ≡ Err x → r ≡ a → r ≡ installs p a b
  unfolding installs
  refuses b n h = rw (← e, n) h

  pub succeeds : {b : A} (a : A) → q ≡ Ok tt → r ≡ b → r ≡ installs p a b
  unfolding installs
  succeeds a y h = rw (← e, y) h

pub all_installs : {A : Type 0} (P : A → Type 0) (o : Result ⊤ InstallError) (a b : A) → (o ≡ Err BadSlot → P a) → (o ≡ Ok tt → P b) → P (installs o a b)
unfolding installs
all_installs P (Err BadSlot) a b n y = n refl
all_installs P (Ok tt) a b n y = y refl
