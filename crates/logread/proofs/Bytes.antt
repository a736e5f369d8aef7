-- What an array has that was made index by index, by a closure that no call changes. Assumes nothing.
use mathlib.Core.Path.{◌≡◌, subst}
use mathlib.Core.List.{List}
use Prim.Native.Nat.{ℕ, zero, suc, ◌+◌, ◌<◌}
use native.Mathlib.Omega.{arith}
use lib.ListN.{get_or}
use denote.Param.Members.{Mut, Called}
use Rattle.std.specs.Array.{IsFromFnResultFrom}

module _ {F B : Type 0} (g : Mut F (ℕ × Unit {0}) B) (P : ℕ → B → Type 0) (f : F) (one : (i : ℕ) (y : B) (q : F) → Called g f (i, tt) y q → P i y × (q ≡ f)) where
  made_from : (ys : List B) (n i j k : ℕ) (d : B) → IsFromFnResultFrom g f ys i n → j < n → i + j ≡ k → P k (get_or ys k d)
  made_from ys zero i j k d h l e = absurd (omega arith)
  made_from ys (suc n) i zero k d h l e =
      let a : i ≡ k = omega arith in
      rw (← a, h.2.1 d) (one i h.1 h.0 h.3).0
  made_from ys (suc n) i (suc j) k d h l e =
      made_from ys n (i + 1) j k d (subst (λ (p : F). IsFromFnResultFrom g p ys (i + 1) n) (one i h.1 h.0 h.3).1 h.4) (omega arith) (omega arith)

  pub each_made : (ys : List B) (n i : ℕ) (d : B) → IsFromFnResultFrom g f ys 0 n → i < n → P i (get_or ys i d)
  each_made ys n i d h l = made_from ys n 0 i i d h l (omega arith)
