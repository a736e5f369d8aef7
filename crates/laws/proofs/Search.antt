-- The lowest free place: one turn of a search for it, a search by `position`, and what is known of a place that was found. Assumes nothing.
use Rattle.std.specs.Prelude.{None, Option, Some, position}
use Rattle.std.specs.List.{position_from}
use Rattle.std.proofs.lemmas.Iterator.Adapters.{position_from-zero}
use mathlib.Core.Path.{◌≡◌, refl, sym, ◌∙◌}
use mathlib.Core.Bool.{Bool, true, false, not, cond}
use mathlib.Core.List.{List, [], ◌∷◌}
use borrow.Author.Tests.{not-true, not-false}
use Prim.Native.Nat.{ℕ, zero, suc, ◌+◌, ◌-◌, ◌≤◌, ◌<◌}
use mathlib.Core.Logic.{⊎_elim}
use native.Mathlib.Nat.{eq-or-lt_of_le}
use native.Mathlib.Numerals.{add-one}
use native.Mathlib.Omega.{arith}
use lib.ListN.{get_or, length}
use Rattle.laws.specs.Pick.{pick}
use Rattle.laws.specs.Search.{lowest, lowest_free}
use Rattle.laws.proofs.Cases.{all_pick}

module _ (used : ℕ → Bool) (i end : ℕ) where
  pub past : end ≤ i → None ≡ lowest_free used i end
  unfolding lowest lowest_free pick
  past h = let e : end - i ≡ 0 = omega arith in rw e

  pub here : i < end → used i ≡ false → Some i ≡ lowest_free used i end
  unfolding lowest lowest_free pick
  here h u = let e : end - i ≡ suc (end - suc i) = omega arith in rw (e, u)

  pub next : i < end → used i ≡ true → lowest_free used (i + 1) end ≡ lowest_free used i end
  unfolding lowest lowest_free pick
  next h u = let e : end - i ≡ suc (end - suc i) = omega arith in rw (e, u, add-one)

-- a loop `if i >= end { break None; } if !used(i) { break Some(i); } i += 1;` at i, where what is left of the search finds r: it ends at r
module _ (used : ℕ → Bool) (i end : ℕ) {r : Option ℕ} (left : lowest_free used i end ≡ r) where
  pub search_ends : end ≤ i → None ≡ r
  search_ends h = past used i end h ∙ left

  pub search_finds : i < end → used i ≡ false → Some i ≡ r
  search_finds h u = here used i end h u ∙ left

  pub search_goes_on : i < end → used i ≡ true → lowest_free used (i + 1) end ≡ r
  search_goes_on h u = next used i end h u ∙ left

pub ruleset searching = (search_ends, search_finds, search_goes_on, not-true, not-false)

-- `l.iter().position(|a| !used(a))` finds the lowest free place of a list
module _ {A : Type 0} (used : A → Bool) (d : A) where
  turn : (b : Bool) (i : ℕ) {p q : Option ℕ} → p ≡ q → cond (not b) (Some i) p ≡ pick b q (Some i)
  unfolding pick
  turn true i e = e
  turn false i e = refl

  from : (f : ℕ → Bool) (i : ℕ) (l : List A) → ((k : ℕ) → f (i + k) ≡ used (get_or l k d)) → position_from (λ a. not (used a)) i l ≡ lowest f i (length l)
  unfolding lowest
  from f i [] h = refl
  from f i (a ∷ l) h =
      let e : f i ≡ used a = let z : i + 0 ≡ i = omega arith in rw z at (h 0) in
      rw (e, add-one) (turn (used a) i (from f (suc i) l (λ k. let z : suc i + k ≡ i + suc k = omega arith in rw z (h (suc k)))))

  pub position_lowest : (l : List A) → position (λ a. not (used a)) l ≡ lowest_free (λ k. used (get_or l k d)) 0 (length l)
  unfolding lowest_free
  position_lowest l =
      let e : length l - 0 ≡ length l = omega arith in
      rw e (position_from-zero _ l ∙ from _ 0 l (λ k. let z : 0 + k ≡ k = omega arith in rw z))

-- k is the lowest place from i up and below `end` that is not used
pub record Lowest (used : ℕ → Bool) (i end k : ℕ) : Type 0 where
  pub from : i ≤ k
  pub below : k < end
  pub free : used k ≡ false
  pub lower : (j : ℕ) → i ≤ j → j < k → used j ≡ true

scan : (used : ℕ → Bool) (i n k : ℕ) → lowest used i n ≡ Some k → Lowest used i (i + n) k
unfolding lowest
scan used i zero k e = let z : ◌≡◌ {A = ℕ} 0 1 = cc in absurd (omega arith)
scan used i (suc n) k e =
    all_pick (λ p. p ≡ Some k → Lowest used i (i + suc n) k) (used i) _ _
    (λ u h. let r = scan used (suc i) n k h in
    record { from = omega arith; below = omega arith; free = r.free; lower = first r u })
    (λ u h. let q : i ≡ k = cc in
    record { from = omega arith; below = omega arith; free = rw (← q) u; lower = λ j a b. absurd (omega arith) })
    e
  where
    first : Lowest used (suc i) (suc i + n) k → used i ≡ true → (j : ℕ) → i ≤ j → j < k → used j ≡ true
    first r u j a b = ⊎_elim (λ e. rw (← e) u) (λ l. r.lower j l b) (eq-or-lt_of_le a)

pub lowest_at : (used : ℕ → Bool) (i end k : ℕ) → lowest_free used i end ≡ Some k → Lowest used i end k
unfolding lowest_free
lowest_at used i end k e =
    let r = scan used i (end - i) k e in record { from = r.from; below = omega arith; free = r.free; lower = r.lower }

-- the same of what the code found
pub found_below : (used : ℕ → Bool) (i end k : ℕ) {q : Option ℕ} → q ≡ lowest_free used i end → q ≡ Some k → k < end
found_below used i end k e n = (lowest_at used i end k (sym e ∙ n)).below

-- a search that finds nothing passed every place, and all are used
all_used : (used : ℕ → Bool) (i n : ℕ) → lowest used i n ≡ None → (j : ℕ) → i ≤ j → j < i + n → used j ≡ true
unfolding lowest
all_used used i zero e = λ j a b. absurd (omega arith)
all_used used i (suc n) e =
    all_pick (λ p. p ≡ None → (j : ℕ) → i ≤ j → j < i + suc n → used j ≡ true) (used i) _ _
    (λ u h j a b. ⊎_elim (λ q. rw (← q) u) (λ l. all_used used (suc i) n h j l (omega arith)) (eq-or-lt_of_le a))
    (λ _ h j a b. let z : ◌≡◌ {A = ℕ} 0 1 = cc in absurd (omega arith))
    e

pub none_free : (used : ℕ → Bool) (i end : ℕ) → lowest_free used i end ≡ None → (j : ℕ) → i ≤ j → j < end → used j ≡ true
unfolding lowest_free
none_free used i end e j a b = all_used used i (end - i) e j a (omega arith)
