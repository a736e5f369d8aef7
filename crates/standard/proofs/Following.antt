-- Where a part is followed by another, it is at the place that was told. Assumes nothing.
use Rattle.std.specs.Option.{IfSome}
use Rattle.std.specs.Bool.{then_some}
use mathlib.Core.Path.{◌≡◌, refl}
use mathlib.Core.Bool.{Bool, true, false}
use Prim.Native.Nat.{ℕ}

pub goes_on : (follows : Bool) (place : ℕ) → IfSome (then_some follows place) (λ n. n ≡ place)
goes_on true place = refl
goes_on false place = tt
