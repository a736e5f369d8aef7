-- A contract that is an equation determines the result: two that meet it are equal. Assumes nothing.
use mathlib.Core.Path.{◌≡◌, sym, ◌∙◌}

pub same_result : {A : Type 0} {rule a b : A} → a ≡ rule → b ≡ rule → a ≡ b
same_result p q = p ∙ sym q
