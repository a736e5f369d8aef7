-- A buffer filled with one text after another: what a line's writer does that is lent the free tail, and what all lines come to. Assumes
-- nothing.
use Rattle.std.specs.Prelude.{Err, Ok, Result}
use mathlib.Core.Path.{◌≡◌, sym, ap, ◌∙◌}
use mathlib.Core.List.{List, [], ◌++◌, append_assoc}
use Prim.Native.Nat.{ℕ, ◌+◌, ◌-◌, ◌<◌, ◌≤◌}
use native.Mathlib.Nat.{add-zero}
use native.Mathlib.Omega.{arith}
use borrow.Author.Tests.{leb-false}
use lib.ListN.{length, take, drop, length-append, take-append-drop}
use lib.Seq.{length-take-le, take_at, drop_at, drop-drop}
use Rattle.laws.proofs.Cases.{all_pick}
use Rattle.line.specs.Put.{fits, written, put_of, from_tail}
use Rattle.line.specs.declared.RoomError.TheVariants.{NoRoom as Crowded}
use Rattle.line.proofs.Room as room
use Rattle.line.specs.declared.RoomError.{RoomError}

-- ---- nothing written
pub nothing_written : (out : List ℕ) (at : ℕ) → at ≤ length out → out ≡ written out at []
nothing_written out at h =
    let r = (room.has_room out at [] (omega arith)).1 in
    sym (take-append-drop at out) ∙ (rw add-zero at r)

-- ---- the tail from `at` on was lent: w is what the line's writer answered, left the tail then
module _ (out : List ℕ) (at : ℕ) (line : List ℕ) where
  crowded_out : put_of out at line ≡ Err Crowded → length out < at + length line
  unfolding put_of
  crowded_out =
      all_pick (λ (w : Result ℕ RoomError). w ≡ Err Crowded → length out < at + length line) (fits out at line) _ _
      (λ _ e. let z : ◌≡◌ {A = ℕ} 0 1 = cc in absurd (omega arith)) (λ f _. leb-false (at + length line) (length out) f)

  module _ (h : at ≤ length out) (left : List ℕ) (w : Result ℕ RoomError) (ew : w ≡ put_of (take (length out - at) (drop at out)) 0 line)
      (el : left ≡ written (take (length out - at) (drop at out)) 0 line) where
    abbrev whole : List ℕ
    whole = take at out ++ (left ++ drop (length out - at) (drop at out))

    back : (from_tail at w ≡ put_of out at line) × (whole ≡ written out at line)
    back = room.lent out at line h ew el

    pub line_stands : (n : ℕ) → w ≡ Ok n → (at + n ≡ at + length line) × (at + length line ≤ length out) × (whole ≡ written out at line)
    unfolding from_tail
    line_stands n e =
        let u = room.upto_fits out at line (at + n) (sym back.0 ∙ ap (from_tail at) e) in
        (u.0, omega arith, back.1)

    pub line_crowded : w ≡ Err Crowded → (length out < at + length line) × (whole ≡ written out at line)
    unfolding from_tail
    line_crowded e = (crowded_out (sym back.0 ∙ ap (from_tail at) e), back.1)

-- ---- out is the buffer once its first `at` bytes were written
module _ (out₀ out : List ℕ) (at : ℕ) (inside : at ≤ length out) (long : length out ≡ length out₀) (same : drop at out ≡ drop at out₀) where
  later : (n : ℕ) → drop (at + n) out ≡ drop (at + n) out₀
  later n = sym (drop-drop n at out) ∙ ap (λ (l : List ℕ). drop n l) same ∙ drop-drop n at out₀

  pub text_long : (t : List ℕ) → length (take at out ++ t) ≡ at + length t
  text_long t = length-append (take at out) t ∙ ap (λ (k : ℕ). k + length t) (length-take-le at out inside)

  module _ (t : List ℕ) (has : at + length t ≤ length out) where
    parted : written out at t ≡ (take at out ++ t) ++ drop (at + length t) out
    parted = sym (room.has_room out at t has).1 ∙ sym (append_assoc (take at out) t (drop (at + length t) out))

    -- the next text stands after the others, and the rest is as it was
    pub next_stands : take (at + length t) (written out at t) ≡ take at out ++ t
    next_stands = ap (λ (l : List ℕ). take (at + length t) l) parted ∙ take_at (take at out ++ t) (drop (at + length t) out) (at + length t) (text_long t)

    pub next_free : drop (at + length t) (written out at t) ≡ drop (at + length t) out₀
    next_free = ap (λ (l : List ℕ). drop (at + length t) l) parted ∙ drop_at (take at out ++ t) (drop (at + length t) out) (at + length t) (text_long t) ∙ later (length t)

    -- it is as if all had been written at once
    pub filled : written out at t ≡ written out₀ 0 (take at out ++ t)
    filled =
        let l = text_long t in
        let e : at + length t ≡ 0 + length (take at out ++ t) = omega arith in
        parted ∙ ap (λ (l : List ℕ). (take at out ++ t) ++ l) (later (length t) ∙ ap (λ (n : ℕ). drop n out₀) e) ∙ (room.has_room out₀ 0 (take at out ++ t) (omega arith)).1

  pub unfilled : out ≡ written out₀ 0 (take at out ++ [])
  unfilled = nothing_written out at inside ∙ filled [] (omega arith)
