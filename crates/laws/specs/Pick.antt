-- A choice by a test: how every definition of the crates chooses.
use Rattle.std.specs.Prelude.{Bool, true, false}

-- the first where the test holds, the second where it does not
unfoldable pub pick : {A : Type 0} → Bool → A → A → A
pick true a b = a
pick false a b = b

-- an element changed where a test holds of it
abbrev pub change_if : {A : Type 0} → (A → Bool) → (A → A) → A → A
change_if test change x = pick (test x) (change x) x
