-- What `starts_with` says of a script that has two bytes or more: whether it has the mark. Assumes nothing.
use mathlib.Core.Path.{◌≡◌, sym, ap, ◌∙◌}
use mathlib.Core.Bool.{Bool, true, false, not}
use mathlib.Core.List.{List, [], ◌∷◌}
use Prim.Native.Nat.{ℕ, ◌≤◌}
use native.Mathlib.Omega.{arith}
use lib.Dec.{eqb}
use lib.ListN.{length}
use Rattle.std.specs.List.{starts_with}
use Rattle.std.proofs.lemmas.Grind.{common_steps}
use Rattle.laws.proofs.Cases.{cases}
use Rattle.jobscript.specs.Read.{marked}

both : (s : List ℕ) → 2 ≤ length s → starts_with eqb s (75 ∷ 74 ∷ []) ≡ marked s
both s h = grind (arith, common_steps)

-- q is what the code was told
module _ (s : List ℕ) {q : Bool} (h : 2 ≤ length s) (e : q ≡ starts_with eqb s (75 ∷ 74 ∷ [])) where
  pub is_marked : q ≡ true → not (marked s) ≡ false
  is_marked y = ap not (sym (both s h) ∙ sym e ∙ y)

  pub not_marked : q ≡ false → not (marked s) ≡ true
  not_marked n = ap not (sym (both s h) ∙ sym e ∙ n)

pub ruleset marking = (cases, is_marked, not_marked)
