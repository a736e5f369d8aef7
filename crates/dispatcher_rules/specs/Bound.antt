-- Request No. 5, making: up to 16 different tags, each bound to a row. As a proposition, and as the test that is computed; that they say the
-- same is proved in proofs/Binds.antt.
use Rattle.std.specs.Prelude.{◌≡◌, Bool, false, not, ◌&&◌, List, ℕ, ◌≤◌, ◌<◌, eqb, ltb, leb, get_or}
use Rattle.laws.specs.Every.{every}
use Rattle.dispatcher_rules.specs.State.{variant_in}
use Rattle.dispatcher_rules.specs.declared.state.Tag.{Tag}
use Rattle.dispatcher_rules.specs.declared.state.Variant.{Variant}

-- byte k of a tag
abbrev pub byte_at : Tag → ℕ → ℕ
byte_at x k = get_or x.bytes k 0

-- two tags are one where all five bytes agree
abbrev pub same_tag : Tag → Tag → Bool
same_tag x y =
    eqb (byte_at x 0) (byte_at y 0) && eqb (byte_at x 1) (byte_at y 1) && eqb (byte_at x 2) (byte_at y 2) && eqb (byte_at x 3) (byte_at y 3)
    && eqb (byte_at x 4) (byte_at y 4)

-- variants i and j have one tag
abbrev pub alike : List Variant → ℕ → ℕ → Bool
alike vs i j = same_tag (variant_in vs i).tag (variant_in vs j).tag

-- n variants: at most 16, each to a row that is there, no two of one tag
pub record Bound (n : ℕ) (vs : List Variant) : Type 0 where
  pub few : n ≤ 16
  pub rows : (i : ℕ) → i < n → (variant_in vs i).row < 54
  pub tags : (i j : ℕ) → i < n → j < i → alike vs i j ≡ false

-- no lower variant has the tag of variant i
abbrev pub new_tag : List Variant → ℕ → Bool
new_tag vs i = every (λ j. not (alike vs i j)) i

-- variant i is bound to a row that is there, by a new tag
abbrev pub variant_ok : List Variant → ℕ → Bool
variant_ok vs i = ltb (variant_in vs i).row 54 && new_tag vs i

unfoldable pub bound_test : ℕ → List Variant → Bool
bound_test n vs = leb n 16 && every (variant_ok vs) n
