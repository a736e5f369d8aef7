-- A line grows piece after piece: a text, a number after its space, the values. Each lemma says what stands before the place that the code
-- has reached. Assumes nothing.
use mathlib.Core.Path.{◌≡◌, sym, ap, ◌∙◌}
use mathlib.Core.List.{List, [], ◌∷◌, ◌++◌, append_assoc, append-nil}
use Prim.Native.Nat.{ℕ, ◌+◌, ◌<◌, ◌≤◌}
use native.Mathlib.Numerals.{add-one}
use native.Mathlib.Omega.{arith}
use lib.ListN.{length, take, drop, set, get_or, length-append}
use lib.Seq.{take-suc, take-suc-set, take_at, length-take-le}
use Rattle.line.specs.Line.{decimal_of, spaced_of, closed_by, text_of, line_of}

-- a text put past a text
pub placed : (out text rest : List ℕ) (at : ℕ) → at ≤ length out → take (at + length text) (take at out ++ (text ++ rest)) ≡ take at out ++ text
placed out text rest at h =
    ap (λ (b : List ℕ). take (at + length text) b) (sym (append_assoc (take at out) text rest)) ∙
    take_at (take at out ++ text) rest (at + length text) (omega (arith, length-append (take at out) text, length-take-le at out h))

-- a byte put past a text
more : (out : List ℕ) (at b : ℕ) → at < length out → take (at + 1) (set out at b) ≡ take at out ++ (b ∷ [])
more out at b h = rw add-one (take-suc-set out at b h)

-- ---- a number after its space
pub space : (out out₂ : List ℕ) (at r n : ℕ) → at < length out → take r out₂ ≡ take (at + 1) (set out at 32) ++ decimal_of n →
    take r out₂ ≡ take at out ++ (32 ∷ decimal_of n)
space out out₂ at r n l e = e ∙ ap (λ (t : List ℕ). t ++ decimal_of n) (more out at 32 l) ∙ append_assoc (take at out) (32 ∷ []) (decimal_of n)

-- ---- the values: none yet, and one more
pub no_fields : (out vs : List ℕ) (at : ℕ) → take at out ≡ take at out ++ spaced_of (take 0 vs)
unfolding spaced_of
no_fields out vs at = sym (append-nil (take at out))

spaced_more : (xs : List ℕ) (n : ℕ) → spaced_of (xs ++ (n ∷ [])) ≡ spaced_of xs ++ (32 ∷ decimal_of n)
unfolding spaced_of
spaced_more [] n = ap (λ (t : List ℕ). 32 ∷ t) (append-nil (decimal_of n))
spaced_more (x ∷ xs) n =
    ap (λ (t : List ℕ). 32 ∷ t)
    (ap (λ (t : List ℕ). decimal_of x ++ t) (spaced_more xs n) ∙ sym (append_assoc (decimal_of x) (spaced_of xs) (32 ∷ decimal_of n)))

pub field : (out out₂ out₀ vs : List ℕ) (at end r i : ℕ) → i < length vs → take end out ≡ take at out₀ ++ spaced_of (take i vs) →
    take r out₂ ≡ take end out ++ (32 ∷ decimal_of (get_or vs i 0)) → take r out₂ ≡ take at out₀ ++ spaced_of (take (i + 1) vs)
field out out₂ out₀ vs at end r i l e f =
    f ∙ ap (λ (t : List ℕ). t ++ (32 ∷ decimal_of (get_or vs i 0))) e ∙
    append_assoc (take at out₀) (spaced_of (take i vs)) (32 ∷ decimal_of (get_or vs i 0)) ∙
    ap (λ (t : List ℕ). take at out₀ ++ t)
    (sym (ap spaced_of (ap (λ (k : ℕ). take k vs) (add-one i) ∙ take-suc vs i 0 l) ∙ spaced_more (take i vs) (get_or vs i 0)))

-- ---- whole lines
pub pieces : (o₁ o₂ o₃ o₄ vs : List ℕ) (a b c d n op answer : ℕ) →
    take a o₁ ≡ decimal_of n → take b o₂ ≡ take a o₁ ++ (32 ∷ decimal_of op) → take c o₃ ≡ take b o₂ ++ (32 ∷ decimal_of answer) →
    take d o₄ ≡ take c o₃ ++ closed_by vs → take d o₄ ≡ line_of n op answer vs
unfolding spaced_of
pieces o₁ o₂ o₃ o₄ vs a b c d n op answer e₁ e₂ e₃ e₄ =
    e₄ ∙ ap (λ (t : List ℕ). t ++ closed_by vs) (e₃ ∙ ap (λ (t : List ℕ). t ++ (32 ∷ decimal_of answer)) (e₂ ∙ ap (λ (t : List ℕ). t ++ (32 ∷ decimal_of op)) e₁)) ∙
    simp append_assoc

-- a word of three letters, copied to the front
pub worded : (out o₁ o₂ w vs : List ℕ) (r : ℕ) → length w ≡ 3 → o₁ ≡ w ++ drop (length w) out →
    take r o₂ ≡ take 3 o₁ ++ closed_by vs → take r o₂ ≡ text_of w vs
worded out o₁ o₂ w vs r l f e =
    e ∙ ap (λ (t : List ℕ). t ++ closed_by vs)
    (ap (λ (o : List ℕ). take 3 o) f ∙ take_at w (drop (length w) out) 3 l)
