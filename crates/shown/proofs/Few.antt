-- A line has room for twelve values. Assumes nothing.
use Rattle.std.specs.Prelude.{Result, Ok, Err}
use mathlib.Core.Path.{◌≡◌, refl}
use mathlib.Core.List.{List, [], ◌++◌}
use Prim.Native.Nat.{ℕ, ◌≤◌}
use native.Mathlib.Omega.{arith}
use lib.Dec.{lit≤}
use lib.ListN.{length, length-append}
use Rattle.shown.specs.Shown.{of_either}

abbrev pub Few : List ℕ → Type 0
Few vs = length vs ≤ 12

pub none_few : Few []
none_few = lit≤ tt

-- an answer that shows nothing, whether it is a refusal or not
pub shows_nothing : {T E : Type 0} (a : Result T E) → ◌≡◌ {A = List ℕ} (of_either (λ _. []) (λ _. []) a) []
shows_nothing (Ok x) = refl
shows_nothing (Err e) = refl

pub neither_few : {T E : Type 0} (a : Result T E) → Few (of_either (λ _. []) (λ _. []) a)
neither_few a = rw (shows_nothing a) none_few

-- four showings of at most three values each
pub four_few : {A : Type 0} (values : A → List ℕ) → ((a : A) → length (values a) ≤ 3) → (a b c d : A) → Few (values a ++ values b ++ values c ++ values d)
four_few values h a b c d =
    let p = h a in
    let q = h b in
    let r = h c in
    let s = h d in
    simp length-append (omega arith)
