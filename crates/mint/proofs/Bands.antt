-- The bands of the two tables: the id of base + entry is of the table's class and names that entry. Assumes nothing.
use Rattle.std.specs.Prelude.{Some}
use mathlib.Core.Path.{◌≡◌, ap}
use mathlib.Core.Logic.{◌⊎◌, inl, inr}
use Prim.Native.Nat.{ℕ, ◌+◌, ◌<◌}
use native.Mathlib.Omega.{arith}
use borrow.Author.Tests.{eq-eqb, ne_eqb}
use Rattle.laws.specs.Pick.{pick}
use Rattle.cap.specs.Id.{id_of, index_of, bit, class_of}
use Rattle.mint.specs.Entries.{entry_of}

-- where a table's ids begin
abbrev pub Band : ℕ → Type 0
Band base = (base ≡ 16384) ⊎ (base ≡ 32768)

module _ (i g : ℕ) (h : i < 16384) where
  task : entry_of 16384 (class_of (id_of (16384 + i) g)) ≡ Some i
  unfolding entry_of class_of pick
  task =
      let index = index_of (id_of (16384 + i) g) in
      rw (ne_eqb (bit 15 index) 1 (λ q. omega arith), eq-eqb (bit 14 index) 1 (omega arith)) (ap Some (omega arith))

  irq : entry_of 32768 (class_of (id_of (32768 + i) g)) ≡ Some i
  unfolding entry_of class_of pick
  irq =
      let index = index_of (id_of (32768 + i) g) in
      rw (eq-eqb (bit 15 index) 1 (omega arith), ne_eqb (bit 14 index) 1 (λ q. omega arith)) (ap Some (omega arith))

  pub entry_of_id : {base : ℕ} → Band base → entry_of base (class_of (id_of (base + i) g)) ≡ Some i
  entry_of_id (inl e) = rw e task
  entry_of_id (inr e) = rw e irq
