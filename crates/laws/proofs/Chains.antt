-- What a chain of iterators over a list comes to, in the words of the rules: a search by position, and a test of each element. Assumes
-- nothing.
use Rattle.std.specs.Prelude.{Some}
use mathlib.Core.Path.{◌≡◌, refl, ◌∙◌}
use mathlib.Core.Bool.{Bool, true, false, not, cond, ◌&&◌}
use mathlib.Core.List.{List, [], ◌∷◌}
use Prim.Native.Nat.{ℕ, zero, suc, ◌+◌, ◌-◌, ◌<◌, ◌≤◌}
use native.Mathlib.Numerals.{add-one}
use native.Mathlib.Omega.{arith}
use lib.ListN.{get_or, length, take}
use Rattle.std.specs.List.{list_all, position, position_from}
use Rattle.std.proofs.lemmas.Iterator.Adapters.{position_from-zero}
use Rattle.std.proofs.lemmas.List.Folds.{list_all_more}
use Rattle.laws.specs.Pick.{pick}
use Rattle.laws.specs.Every.{every}
use Rattle.laws.specs.Search.{lowest, lowest_free}

module _ {A : Type 0} (p : A → Bool) (d : A) where
  first : (used : ℕ → Bool) (i : ℕ) (x : A) (l : List A) → used i ≡ not (p x) → position_from p (i + 1) l ≡ lowest used (suc i) (length l) →
      (b : Bool) → p x ≡ b → cond (p x) (Some i) (position_from p (i + 1) l) ≡ pick (used i) (lowest used (suc i) (length l)) (Some i)
  unfolding pick
  first used i x l e n true q = rw (e, q) refl
  first used i x l e n false q = rw (e, q) n

  from_free : (used : ℕ → Bool) (i : ℕ) (l : List A) → ((k : ℕ) → k < length l → used (i + k) ≡ not (p (get_or l k d))) →
      position_from p i l ≡ lowest used i (length l)
  unfolding lowest
  from_free used i [] h = refl
  from_free used i (x ∷ l) h =
      let here : i + 0 ≡ i = omega arith in
      let rest : (k : ℕ) → k < length l → used (suc i + k) ≡ not (p (get_or l k d)) =
      λ k b. let e : suc i + k ≡ i + suc k = omega arith in rw e (h (suc k) (omega arith)) in
      first used i x l (rw here at (h 0 (omega arith))) (rw add-one (from_free used (suc i) l rest)) (p x) refl

  -- the first element that passes stands at the lowest place that is free, where those are free at which the element passes
  pub position_free : (used : ℕ → Bool) (n : ℕ) (l : List A) → length l ≡ n → ((k : ℕ) → k < n → used k ≡ not (p (get_or l k d))) →
      position p l ≡ lowest_free used 0 n
  unfolding lowest_free
  position_free used n l e h =
      let whole : n - 0 ≡ length l = omega arith in
      rw whole (position_from-zero p l ∙ from_free used 0 l (λ k b. let z : 0 + k ≡ k = omega arith in rw z (h k (omega arith))))

  -- the first n elements pass where f holds at each place below n
  pub all_every : (f : ℕ → Bool) (n : ℕ) (l : List A) → n ≤ length l → ((k : ℕ) → k < n → p (get_or l k d) ≡ f k) →
      list_all p (take n l) ≡ every f n
  unfolding every
  all_every f zero l h e = refl
  all_every f (suc n) l h e =
      let more : list_all p (take (suc n) l) ≡ (list_all p (take n l) && p (get_or l n d)) = rw (← add-one n) (list_all_more p l n d h) in
      let less : list_all p (take n l) ≡ every f n = all_every f n l (omega arith) (λ k b. e k (omega arith)) in
      rw (more, less, e n (omega arith)) refl
