-- A loop over all elements of a list that changes those of which a test holds, and counts them: where it stands after i turns, each
-- turn, and the end. Assumes nothing.
use mathlib.Core.Path.{◌≡◌, refl, ◌∙◌}
use mathlib.Core.Bool.{Bool, true, false}
use mathlib.Core.List.{List, map}
use Prim.Native.Nat.{ℕ, ◌+◌, ◌≤◌}
use lib.ListN.{get_or, length, set}
use Rattle.laws.specs.Pick.{pick, change_if}
use Rattle.laws.specs.Every.{count}
use Rattle.laws.proofs.Every.{count_none, count_yes, count_no, count_most}
use Rattle.laws.proofs.Through.{through, through_at, through_store, through_leave, through_all}

-- of the elements `before`, the first i have been swept, and those of which the test holds were counted
pub record Swept {A : Type 0} (test : A → Bool) (change : A → A) (d : A) (before : List A) (i : ℕ) (now : List A) (counted : ℕ) : Type 0 where
  pub elements : now ≡ through (change_if test change) i before
  pub counts : counted ≡ count (λ k. test (get_or before k d)) i

module _ {A : Type 0} (test : A → Bool) (change : A → A) (d : A) (before : List A) where
  pub swept_none : Swept test change d before 0 before 0
  unfolding through
  swept_none = record { elements = refl; counts = count_none _ }

  module _ (i : ℕ) {now : List A} {counted : ℕ} (so_far : Swept test change d before i now counted) where
    next : get_or now i d ≡ get_or before i d
    next = rw so_far.elements (through_at (change_if test change) d i before)

    pub swept_yes :
        {after : List A} {raised : ℕ} → test (get_or now i d) ≡ true → after ≡ set now i (change (get_or now i d)) →
        raised ≡ counted + 1 → Swept test change d before (i + 1) after raised
    unfolding pick
    swept_yes y a r =
        let h : test (get_or before i d) ≡ true = rw (← next) y in
        let s : change_if test change (get_or before i d) ≡ change (get_or before i d) = rw h in
        record {
          elements = rw (a, next, so_far.elements, ← s) (through_store (change_if test change) d i before);
          counts = r ∙ count_yes _ i counted so_far.counts h;
        }

    pub swept_no :
        {after : List A} {raised : ℕ} → test (get_or now i d) ≡ false → after ≡ now → raised ≡ counted →
        Swept test change d before (i + 1) after raised
    unfolding pick
    swept_no n a r =
        let h : test (get_or before i d) ≡ false = rw (← next) n in
        let s : change_if test change (get_or before i d) ≡ get_or before i d = rw h in
        record {
          elements = a ∙ (so_far.elements ∙ through_leave (change_if test change) d i before s);
          counts = r ∙ count_no _ i counted so_far.counts h;
        }

  pub swept_all : (n : ℕ) {now : List A} {counted : ℕ} → length before ≤ n → Swept test change d before n now counted → now ≡ map (change_if test change) before
  swept_all n h e = e.elements ∙ through_all (change_if test change) n before h

  pub swept_few : {i counted : ℕ} {now : List A} → Swept test change d before i now counted → counted ≤ i
  swept_few {i} e = rw e.counts (count_most _ i)
