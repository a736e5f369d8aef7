-- What a lookup answers at each of its tests, where the id's class was read as q. Assumes nothing.
use Rattle.std.specs.Prelude.{None, Some, Err, Result}
use mathlib.Core.Path.{◌≡◌, refl}
use mathlib.Core.List.{List}
use Prim.Native.Nat.{ℕ, ◌≤◌, ◌<◌}
use borrow.Author.Tests.{lt-ltb, le-ltb, ne_eqb}
use lib.Dec.{eqb}
use Rattle.laws.specs.Pick.{pick}
use Rattle.laws.specs.Search.{found}
use Rattle.cap.specs.Id.{class_of, generation_of}
use Rattle.cap.specs.declared.CapId.{CapId}
use Rattle.cap.specs.declared.CapClass.{CapClass}
use Rattle.cap.specs.declared.CapClass.TheVariants.{Endpoint, Task, Irq, Invalid}
use Rattle.mint.specs.Entry.{names_of}
use Rattle.mint.specs.Entries.{entry_at, entry_of, lookup_in}
use Rattle.mint.specs.declared.Entry.{Entry}
use Rattle.mint.specs.declared.LookupError.{LookupError}
use Rattle.mint.specs.declared.LookupError.TheVariants.{BadCap}

-- the class is not the one whose ids name entries of the table that begins at `base`
abbrev pub Others : ℕ → CapClass → Type 0
Others base q = (p : ℕ) → q ≡ pick (eqb base 16384) (Task p) (Irq p) → ⊥

elsewhere : (base : ℕ) (q : CapClass) → Others base q → entry_of base q ≡ None
unfolding entry_of pick
elsewhere base (Endpoint p) k = refl
elsewhere base (Task p) k = rw (ne_eqb base 16384 (λ e. k p (rw e)))
elsewhere base (Irq p) k = rw (ne_eqb base 32768 (λ e. k p (rw e)))
elsewhere base Invalid k = refl

module _ (n base : ℕ) (es : List Entry) (c : CapId) {q : CapClass} (class : q ≡ class_of c) where
  pub wrong_class : Others base q → Err BadCap ≡ lookup_in n base es c
  unfolding lookup_in found
  wrong_class k = rw (← class, elsewhere base q k)

  pub past_table : {r : CapClass} {i : ℕ} → q ≡ r → entry_of base r ≡ Some i → n ≤ i → Err BadCap ≡ lookup_in n base es c
  unfolding lookup_in found pick
  past_table {r} {i} e a h = rw (← class, e, a, le-ltb i n h)

  pub at_entry :
      {r : CapClass} {i g : ℕ} {a : Result ℕ LookupError} → q ≡ r → entry_of base r ≡ Some i → i < n → g ≡ generation_of c →
      a ≡ names_of (entry_at es i) g → a ≡ lookup_in n base es c
  unfolding lookup_in found pick
  at_entry {r} {i} e a h g l = rw (← class, e, a, lt-ltb i n h, ← g) l
