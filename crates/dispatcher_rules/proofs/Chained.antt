-- What a chain over a dispatcher's variants or its places comes to, in the words of the rules. Assumes nothing.
use mathlib.Core.Path.{◌≡◌, refl, sym, ap, ◌∙◌}
use mathlib.Core.Bool.{Bool, true, false, not, ◌&&◌}
use mathlib.Core.List.{List, []}
use Prim.Native.Nat.{ℕ, ◌+◌, ◌<◌, ◌≤◌}
use native.Mathlib.Omega.{arith}
use lib.Dec.{eqb, ltb}
use lib.ListN.{get_or, length, take}
use lib.Seq.{take_all}
use Rattle.std.specs.Cmp.Lexicographic.{pointwise}
use Rattle.std.specs.List.{list_all, position, enumerate_from}
use Rattle.std.proofs.lemmas.Grind.{common_steps}
use Rattle.std.proofs.lemmas.List.{get_or-take, length-take-le}
use Rattle.std.proofs.lemmas.List.FromFn.{length-enumerate_from, get_or-enumerate_from}
use Rattle.laws.specs.Every.{every}
use Rattle.laws.specs.Search.{lowest_free}
use Rattle.laws.proofs.Chains.{position_free, all_every}
use Rattle.dispatcher_rules.specs.Bound.{same_tag, alike, new_tag, variant_ok}
use Rattle.dispatcher_rules.specs.Open.{free_place}
use Rattle.dispatcher_rules.specs.State.{variant_in, job_at}
use Rattle.dispatcher_rules.specs.declared.state.Job.{Job}
use Rattle.dispatcher_rules.specs.declared.state.Tag.{Tag}
use Rattle.dispatcher_rules.specs.declared.state.Variant.{Variant}
use Rattle.dispatcher_rules.specs.declared.state.Dispatcher.{Dispatcher}

-- ---- the places
not_not : (b : Bool) → not (not b) ≡ b
not_not true = refl
not_not false = refl

-- the lowest place that is not open
pub first_closed : (d : Dispatcher) → length d.jobs ≡ 16 → position (λ (j : Job). not j.«open») d.jobs ≡ free_place d
first_closed d w =
    position_free (λ (j : Job). not j.«open») _ (λ p. (job_at d p).«open») 16 d.jobs w (λ k b. sym (not_not _))

-- ---- the variants
-- `==` at tags of five bytes is the rule's test
pub one_tag : (x y : Tag) → length x.bytes ≡ 5 → length y.bytes ≡ 5 → pointwise eqb x.bytes y.bytes ≡ same_tag x y
one_tag x y h g = grind (arith, common_steps)

pub one_tag_back : (x y : Tag) → length x.bytes ≡ 5 → length y.bytes ≡ 5 → pointwise eqb y.bytes x.bytes ≡ same_tag x y
one_tag_back x y h g = grind (arith, common_steps)

-- the variant's tag has these bytes, as `==` tests it
abbrev pub tagged : Tag → Variant → Bool
tagged tag v = pointwise eqb v.tag.bytes tag.bytes

-- variant q.1, at place q.0, is bound to a row that is there, by a tag that none before it has
abbrev pub passes : List Variant → ℕ × Variant → Bool
passes vs q = ltb q.1.row 54 && list_all (λ v. not (tagged q.1.tag v)) (take q.0 vs)

-- sixteen variants, each with a tag of five bytes: what their type says of them
pub record Whole (vs : List Variant) : Type 0 where
  pub sixteen : length vs ≡ 16
  pub five : (i : ℕ) (d : Variant) → i < length vs → length (get_or vs i d).tag.bytes ≡ 5

module _ (vs : List Variant) (w : Whole vs) where
  nothing : Variant
  nothing = record { tag = record { bytes = [] }; row = 0 }

  five_bytes : (i : ℕ) → i < 16 → length (variant_in vs i).tag.bytes ≡ 5
  five_bytes i b = let s = w.sixteen in w.five i _ (omega arith)

  -- the first of the first n that has the tag
  pub first_tagged : (n : ℕ) (tag : Tag) → n ≤ 16 → length tag.bytes ≡ 5 →
      position (tagged tag) (take n vs) ≡ lowest_free (λ i. not (same_tag (variant_in vs i).tag tag)) 0 n
  unfolding nothing
  first_tagged n tag h t =
      let s = w.sixteen in
      position_free (tagged tag) nothing (λ i. not (same_tag (variant_in vs i).tag tag)) n (take n vs) (length-take-le n vs (omega arith))
      (λ k b. rw (get_or-take n vs k nothing b) (ap not (sym (one_tag (variant_in vs k).tag tag (five_bytes k (omega arith)) t))))

  -- no variant below i has its tag
  none_alike : (i : ℕ) → i < 16 → list_all (λ v. not (tagged (variant_in vs i).tag v)) (take i vs) ≡ new_tag vs i
  unfolding nothing
  none_alike i h =
      let s = w.sixteen in
      all_every (λ v. not (tagged (variant_in vs i).tag v)) nothing (λ j. not (alike vs i j)) i vs (omega arith)
      (λ k b. ap not (one_tag_back (variant_in vs i).tag (variant_in vs k).tag (five_bytes i h) (five_bytes k (omega arith))))

  -- the first n keep making's rules
  pub all_pass : (n : ℕ) → n ≤ 16 → list_all (passes vs) (enumerate_from 0 (take n vs)) ≡ every (variant_ok vs) n
  unfolding nothing
  all_pass n h =
      let s = w.sixteen in
      let few : length (take n vs) ≡ n = length-take-le n vs (omega arith) in
      let numbered : length (enumerate_from 0 (take n vs)) ≡ n = length-enumerate_from 0 (take n vs) ∙ few in
      sym (ap (list_all (passes vs)) (take_all n (enumerate_from 0 (take n vs)) (omega arith)))
      ∙ all_every (passes vs) (0, nothing) (variant_ok vs) n (enumerate_from 0 (take n vs)) (omega arith)
      (λ k b. let z : 0 + k ≡ k = omega arith in
      rw (get_or-enumerate_from 0 (take n vs) k (0, nothing) (omega arith), z, get_or-take n vs k nothing b)
      (ap (λ (t : Bool). ltb (variant_in vs k).row 54 && t) (none_alike k (omega arith))))
