-- The records from the left, at a loop's turn by an index: what is gathered of those passed, over those still to come, is what is gathered of all. Assumes nothing.
use mathlib.Core.Path.{◌≡◌, sym, ◌∙◌, ap}
use Prim.Native.Nat.{ℕ, ◌+◌, ◌≤◌, ◌<◌}
use mathlib.Core.List.{List}
use lib.ListN.{length, get_or, drop, drop_of_length-le}
use Rattle.std.proofs.lemmas.List.{drop_more}
use Rattle.walks.specs.Over.{over}

module _ {A X : Type 0} (step : A → X → A) (a : A) (xs : List X) (i : ℕ) where
  -- one record more
  pub turned : (d : X) {r : A} → i < length xs → r ≡ step a (get_or xs i d) → over step r (drop (i + 1) xs) ≡ over step a (drop i xs)
  turned d l e = ap (λ (z : A). over step z (drop (i + 1) xs)) e ∙ ap (over step a) (sym (drop_more xs i d l))

  -- no record more
  pub passed : length xs ≤ i → over step a (drop i xs) ≡ a
  passed l = ap (over step a) (drop_of_length-le xs l)
