-- A text put, or not: what the buffer holds and what is answered. Assumes nothing.
use Rattle.std.specs.Prelude.{Err, Ok, Result}
use mathlib.Core.Path.{◌≡◌, refl, sym, ap, ◌∙◌}
use mathlib.Core.Bool.{Bool, true, false}
use mathlib.Core.List.{List, [], ◌++◌, append_assoc, append-nil}
use Prim.Native.Nat.{ℕ, ◌+◌, ◌-◌, ◌<◌, ◌≤◌}
use native.Mathlib.Nat.{zero-add}
use native.Mathlib.Omega.{arith}
use lib.ListN.{length, take, drop, length-append, length-drop, drop_of_length-le, take-append-drop}
use lib.Seq.{take_all, length-take-le, drop-drop, take_at}
use borrow.Author.Tests.{lt-leb, le-leb, leb-true, leb-false}
use Rattle.laws.specs.Pick.{pick}
use Rattle.laws.proofs.Cases.{all_pick}
use Rattle.line.specs.Put.{fits, written, put_of, from_tail}
use Rattle.line.specs.declared.RoomError.TheVariants.{NoRoom}
use Rattle.line.specs.declared.RoomError.{RoomError}

-- a part to the end
module _ (out : List ℕ) (at : ℕ) where
  pub whole_tail : take (length out - at) (drop at out) ≡ drop at out
  whole_tail = take_all (length out - at) (drop at out) (omega (arith, length-drop at out))

  past_tail : drop (length out - at) (drop at out) ≡ []
  past_tail = drop_of_length-le (drop at out) {i = length out - at} (omega (arith, length-drop at out))

module _ (out : List ℕ) (at : ℕ) (text : List ℕ) where
  -- ---- a text that does not fit, and one that does
  pub no_room : length out < at + length text → (Err NoRoom ≡ put_of out at text) × (out ≡ written out at text)
  unfolding written put_of pick
  no_room h = (rw (lt-leb _ _ h) refl, rw (lt-leb _ _ h) refl)

  pub has_room : at + length text ≤ length out →
      (Ok (at + length text) ≡ put_of out at text) × (take at out ++ (text ++ drop (at + length text) out) ≡ written out at text)
  unfolding written put_of pick
  has_room h = (rw (le-leb _ _ h) refl, rw (le-leb _ _ h) refl)

  -- ---- what the answer says of the buffer
  pub upto_fits : (n : ℕ) → put_of out at text ≡ Ok n → (n ≡ at + length text) × (n ≤ length out)
  unfolding put_of
  upto_fits n = all_pick (λ (w : Result ℕ RoomError). w ≡ Ok n → (n ≡ at + length text) × (n ≤ length out)) (fits out at text) _ _
      (λ f e. let q : at + length text ≡ n = cc in (sym q, omega (arith, leb-true (at + length text) (length out) f)))
      (λ _ e. let z : ◌≡◌ {A = ℕ} 0 1 = cc in absurd (omega arith))

  -- before the place answered stands what stood before, and the text
  pub upto_stands : (n : ℕ) → put_of out at text ≡ Ok n → take n (written out at text) ≡ take at out ++ text
  upto_stands n e =
      let u = upto_fits n e in
      ap (λ (b : List ℕ). take n b) (sym (has_room (omega arith)).1 ∙ sym (append_assoc (take at out) text (drop (at + length text) out))) ∙
      take_at (take at out ++ text) (drop (at + length text) out) n
      (omega (arith, length-append (take at out) text, length-take-le at out (omega arith)))

  pub no_room_keeps : put_of out at text ≡ Err NoRoom → written out at text ≡ out
  unfolding put_of written
  no_room_keeps = all_pick (λ (w : Result ℕ RoomError). w ≡ Err NoRoom → written out at text ≡ out) (fits out at text) _ _
      (λ f e. let z : ◌≡◌ {A = ℕ} 0 1 = cc in absurd (omega arith))
      (λ f _. sym (no_room (leb-false (at + length text) (length out) f)).1)

  -- writing leaves the buffer's length
  pub written_length : length (written out at text) ≡ length out
  unfolding written
  written_length = all_pick (λ (b : List ℕ). length b ≡ length out) (fits out at text) _ _
      (λ f.
      let h : at + length text ≤ length out = leb-true (at + length text) (length out) f in
      simp (length-append, length-drop) (omega (arith, length-take-le at out (omega arith))))
      (λ _. refl)

-- a text copied to the start of a buffer
pub copied : (out text : List ℕ) → length text ≤ length out →
    (Ok (length text) ≡ put_of out 0 text) × (text ++ drop (length text) out ≡ written out 0 text)
copied out text h = let r = has_room out 0 text (omega arith) in simp zero-add at r

-- ---- the free tail of a buffer, lent to a writer
module _ (out : List ℕ) (at : ℕ) (text : List ℕ) (h : at ≤ length out) where
  abbrev Same : Type 0
  Same = (from_tail at (put_of (drop at out) 0 text) ≡ put_of out at text) × (take at out ++ written (drop at out) 0 text ≡ written out at text)

  by_room : (b : Bool) → fits out at text ≡ b → Same
  unfolding from_tail
  by_room true f =
      let l = leb-true (at + length text) (length out) f in
      let t = has_room (drop at out) 0 text (omega (arith, length-drop at out)) in
      let w = has_room out at text l in
      (rw (← t.0, zero-add) w.0, rw (← t.1, zero-add, drop-drop) w.1)
  by_room false f =
      let l = leb-false (at + length text) (length out) f in
      let t = no_room (drop at out) 0 text (omega (arith, length-drop at out)) in
      let w = no_room out at text l in
      (rw (← t.0) w.0, rw (← t.1, take-append-drop) w.1)

  -- a text put at the start of the tail is put from `at` on
  pub tail_put : Same
  tail_put = by_room (fits out at text) refl

  -- the same as code has it: w is what the writer answered, left the tail then
  pub lent : {w : Result ℕ RoomError} {left : List ℕ} → w ≡ put_of (take (length out - at) (drop at out)) 0 text → left ≡ written (take (length out - at) (drop at out)) 0 text →
      (from_tail at w ≡ put_of out at text) × (take at out ++ (left ++ drop (length out - at) (drop at out)) ≡ written out at text)
  lent ew el = rw (ew, el, whole_tail out at, past_tail out at, append-nil) tail_put

  pub lent_within : {w : Result ℕ RoomError} → w ≡ put_of (take (length out - at) (drop at out)) 0 text → (n : ℕ) → w ≡ Ok n → at + n ≤ length out
  unfolding from_tail
  lent_within ew n e = (upto_fits out at text (at + n) (sym (lent ew refl).0 ∙ ap (from_tail at) e)).1

-- the one refusal of a writer
pub refused : {w : Result ℕ RoomError} {e : RoomError} → w ≡ Err e → w ≡ Err NoRoom
refused {e = NoRoom} h = h
