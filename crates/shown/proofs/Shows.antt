-- What was made of an answer's number and its values is what is shown of it. Assumes nothing.
use mathlib.Core.Path.{◌≡◌}
use mathlib.Core.List.{List}
use Prim.Native.Nat.{ℕ}
use Rattle.shown.specs.Shown.{shown}
use Rattle.shown.specs.declared.Shown.{Shown}

pub shows : {r : Shown} {n m : ℕ} {vs ws : List ℕ} → r ≡ shown n vs → n ≡ m → ws ≡ vs → r ≡ shown m ws
shows e a b = rw (← a, b) e
