-- The digits that std writes of a number are those of the rule. Assumes nothing.
use mathlib.Core.Path.{◌≡◌, refl, sym, subst, ◌∙◌}
use mathlib.Core.Bool.{false}
use mathlib.Core.List.{List, [], ◌∷◌, ◌++◌, append_assoc, append-nil}
use Prim.Native.Nat.{ℕ, zero, suc, ◌+◌, ◌/◌, ◌%◌, ◌^◌, ◌*◌, ◌<◌, ◌≤◌}
use native.Mathlib.Nat.{pow-suc}
use native.Mathlib.Omega.{arith}
use lib.Dec.{ltb}
use borrow.Author.Tests.{lt-ltb, ltb-true, ltb-false, ne_eqb}
use Rattle.laws.proofs.Cases.{all_pick}
use Rattle.std.specs.Fmt.{decimal, digits, digits_onto, digit_glyph}
use Rattle.line.specs.Line.{decimal_in, decimal_of}

positive : (k n : ℕ) → n < 10 ^ k → (n ≡ 0 → ⊥) → 0 < k
positive zero n b f = absurd (f (omega arith))
positive (suc k) n b f = omega arith

-- where k places are enough, the digits before a text, in as many turns as are allowed
onto : (k l n : ℕ) (text : List ℕ) → 0 < k → k ≤ l → n < 10 ^ k → digits_onto l 10 false n text ≡ decimal_in k n ++ text
unfolding decimal_in
onto zero l n text z h b = absurd (omega arith)
onto (suc k) zero n text z h b = absurd (omega arith)
onto (suc k) (suc l) n text z h b =
    all_pick (λ (ds : List ℕ). digits_onto (suc l) 10 false n text ≡ ds ++ text) (ltb n 10) _ _
    (λ e.
    let t : n < 10 = ltb-true n 10 e in
    let q : n / 10 ≡ 0 = omega arith in
    let r : n % 10 ≡ n = omega arith in
    rw (q, r, lt-ltb n 10 t) refl)
    (λ e.
    let t : 10 ≤ n = ltb-false n 10 e in
    let q : n / 10 ≡ 0 → ⊥ = λ y. omega arith in
    let m : n < 10 ^ k * 10 = subst (λ (m : ℕ). n < m) (pow-suc 10 k) b in
    let b' : n / 10 < 10 ^ k = omega arith in
    rw (ne_eqb (n / 10) 0 q, onto k l (n / 10) (digit_glyph false (n % 10) ∷ text) (positive k (n / 10) b' q) (omega arith) b', lt-ltb (n % 10) 10 (omega arith))
    (sym (append_assoc (decimal_in k (n / 10)) ((48 + n % 10) ∷ []) text)))

pub decimal_same : (n : ℕ) → n < 2 ^ 64 → decimal n ≡ decimal_of n
unfolding digits
decimal_same n h = onto 20 64 n [] (omega arith) (omega arith) (omega arith) ∙ append-nil (decimal_in 20 n)
