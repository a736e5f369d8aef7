-- The computed test and the proposition say the same of a dispatcher's variants: `bound_test` decides `Bound`. Assumes nothing.
use mathlib.Core.Path.{◌≡◌}
use mathlib.Core.Bool.{true, not}
use mathlib.Core.List.{List}
use Prim.Native.Nat.{ℕ}
use borrow.Author.Tests.{leb-true, le-leb, ltb-true, lt-ltb, not-true}
use lib.Dec.{ltb, leb}
use Rattle.laws.specs.Every.{every}
use Rattle.laws.proofs.Every.{and_left, and_right, and_both, every_at, at_every}
use Rattle.dispatcher_rules.specs.State.{variant_in}
use Rattle.dispatcher_rules.specs.Bound.{alike, new_tag, variant_ok, Bound, bound_test}
use Rattle.dispatcher_rules.specs.declared.state.Variant.{Variant}

module _ (n : ℕ) (vs : List Variant) where
  -- variants that pass the test keep making's rules
  pub bound_of : bound_test n vs ≡ true → Bound n vs
  unfolding bound_test
  bound_of h =
      let each = every_at (variant_ok vs) n (and_right (leb n 16) (every (variant_ok vs) n) h) in
      record {
        few = leb-true n 16 (and_left (leb n 16) (every (variant_ok vs) n) h);
        rows = λ i l. ltb-true _ 54 (and_left (ltb (variant_in vs i).row 54) (new_tag vs i) (each i l));
        tags = λ i j l m. not-true (alike vs i j) (every_at (λ k. not (alike vs i k)) i (and_right (ltb (variant_in vs i).row 54) (new_tag vs i) (each i l)) j m);
      }

  -- and back
  pub test_of : Bound n vs → bound_test n vs ≡ true
  unfolding bound_test
  test_of b =
      and_both (leb n 16) (every (variant_ok vs) n) (le-leb n 16 b.few)
      (at_every (variant_ok vs) n (λ i l. and_both (ltb (variant_in vs i).row 54) (new_tag vs i) (lt-ltb _ 54 (b.rows i l)) (at_every (λ k. not (alike vs i k)) i (λ j m. rw (b.tags i j l m)))))
