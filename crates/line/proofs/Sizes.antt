-- How long a line can be, so that the local buffer holds it and a buffer with that much free has room. Assumes nothing.
use Rattle.std.specs.Prelude.{Ok}
use mathlib.Core.Path.{◌≡◌, sym}
use mathlib.Core.List.{List, [], ◌∷◌}
use Prim.Native.Nat.{ℕ, zero, suc, ◌+◌, ◌*◌, ◌/◌, ◌%◌, ◌≤◌}
use native.Mathlib.Omega.{arith}
use lib.Dec.{ltb}
use lib.ListN.{length, length-append}
use Rattle.laws.proofs.Cases.{all_pick}
use Rattle.line.specs.Line.{decimal_in, decimal_of, spaced_of, closed_by, text_of, line_of, end_of, bad_of}
use Rattle.line.specs.Put.{put_of}
use Rattle.line.proofs.Room.{has_room}

digits_few : (k n : ℕ) → length (decimal_in k n) ≤ k
unfolding decimal_in
digits_few zero n = omega arith
digits_few (suc k) n =
    all_pick (λ (ds : List ℕ). length ds ≤ suc k) (ltb n 10) _ _ (λ _. omega arith)
    (λ _. omega (arith, length-append (decimal_in k (n / 10)) ((48 + n % 10) ∷ []), digits_few k (n / 10)))

spaced_few : (ns : List ℕ) → length (spaced_of ns) ≤ 21 * length ns
unfolding spaced_of
spaced_few [] = omega arith
spaced_few (n ∷ ns) = omega (arith, length-append (decimal_of n) (spaced_of ns), digits_few 20 n, spaced_few ns)

text_few : (head ns : List ℕ) → length (text_of head ns) ≤ length head + 21 * length ns + 1
text_few head ns = omega (arith, length-append head (closed_by ns), length-append (spaced_of ns) (10 ∷ []), spaced_few ns)

-- the line of a record with at most twelve values
pub line_few : (number op answer : ℕ) (values : List ℕ) → length values ≤ 12 → length (line_of number op answer values) ≤ 315
line_few number op answer values h = omega (arith, text_few (decimal_of number) (op ∷ answer ∷ values), digits_few 20 number)

pub end_few : (records : ℕ) → length (end_of records) ≤ 25
end_few records = text_few (101 ∷ 110 ∷ 100 ∷ []) (records ∷ [])

pub bad_few : (offset fault : ℕ) → length (bad_of offset fault) ≤ 46
bad_few offset fault = text_few (98 ∷ 97 ∷ 100 ∷ []) (offset ∷ fault ∷ [])

-- where 315 places are free, the line of a record has room
pub line_has_room : (out : List ℕ) (at number op answer : ℕ) (values : List ℕ) → length values ≤ 12 → at + 315 ≤ length out →
    put_of out at (line_of number op answer values) ≡ Ok (at + length (line_of number op answer values))
line_has_room out at number op answer values v h =
    sym (has_room out at (line_of number op answer values) (omega (arith, line_few number op answer values v))).0
