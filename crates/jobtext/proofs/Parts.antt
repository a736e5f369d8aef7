-- The next part of a script's text, by what the tests before it say. Assumes nothing.
use Rattle.std.specs.Prelude.{Err}
use mathlib.Core.Path.{◌≡◌, refl, sym, ap, ◌∙◌}
use mathlib.Core.Bool.{Bool, true, false, ◌&&◌}
use mathlib.Core.List.{List}
use Prim.Native.Nat.{ℕ, ◌-◌, ◌<◌, ◌≤◌}
use native.Mathlib.Omega.{arith}
use borrow.Author.Tests.{lt-ltb, le-ltb, leb-true}
use lib.Dec.{leb}
use lib.ListN.{length, take, drop}
use Rattle.laws.specs.Pick.{pick}
use Rattle.laws.proofs.Every.{and_left, and_right}
use Rattle.line.specs.Put.{written}
use Rattle.line.proofs.Room.{whole_tail}
use Rattle.dispatcher_rules.specs.Border.{ready_test}
use Rattle.jobtext.specs.Answer.{part_at, last_in, part_from, place_fits, answer_of}
use Rattle.jobscript.specs.declared.StepError.TheVariants.{BadTable}
use Rattle.jobtext.specs.declared.Place.{Place}
use Rattle.jobtext.specs.declared.Part.{Part}
use Rattle.jobtext.proofs.Filling.{nothing_written}

-- q is what the test of the desk answered
module _ (script out : List ℕ) (p : Place) (q : Bool) (e : q ≡ ready_test p.desk.dispatcher p.desk.channels) where
  abbrev test : Bool
  test = (leb p.offset (length script) && leb p.done p.offset) && q

  same : test ≡ place_fits script p
  same = ap (λ (b : Bool). (leb p.offset (length script) && leb p.done p.offset) && b) e

  abbrev Gives : Part → List ℕ → Type 0
  Gives r left = (r ≡ part_at 0 (answer_of script (length out) p)) × (left ≡ written out 0 (answer_of script (length out) p).text)

  pub misplaced : test ≡ false → Gives (record { answer = Err BadTable; at = 0; place = p }) out
  unfolding answer_of pick
  misplaced n =
      let f : place_fits script p ≡ false = sym same ∙ n in
      (rw f refl, rw f (nothing_written out 0 (omega arith)))

  -- a place that passed the test
  module _ (n : test ≡ true) where
    fits : place_fits script p ≡ true
    fits = sym same ∙ n

    pub desk_ready : q ≡ true
    desk_ready = and_right (leb p.offset (length script) && leb p.done p.offset) q n

    both : leb p.offset (length script) && leb p.done p.offset ≡ true
    both = and_left (leb p.offset (length script) && leb p.done p.offset) q n

    pub offset_inside : p.offset ≤ length script
    offset_inside = leb-true _ _ (and_left (leb p.offset (length script)) (leb p.done p.offset) both)

    pub done_counted : p.done ≤ p.offset
    done_counted = leb-true _ _ (and_right (leb p.offset (length script)) (leb p.done p.offset) both)

    -- r is the part that was made, left the buffer then
    pub too_long : 65536 < length script → {r : Part} {left : List ℕ} →
        r ≡ part_at 0 (last_in (length out) 0 28 65536 p) → left ≡ written out 0 (last_in (length out) 0 28 65536 p).text → Gives r left
    unfolding answer_of pick
    too_long l er el = (rw (fits, lt-ltb 65536 (length script) l) er, rw (fits, lt-ltb 65536 (length script) l) el)

    pub part_run : length script ≤ 65536 → {r : Part} {left : List ℕ} → let rest = take (length script - p.offset) (drop p.offset script) in
        r ≡ part_at 0 (part_from (length rest) (length out) 0 rest p) → left ≡ written out 0 (part_from (length rest) (length out) 0 rest p).text → Gives r left
    unfolding answer_of pick
    part_run l er el =
        let w = whole_tail script p.offset in
        (rw (fits, le-ltb 65536 (length script) l) (rw w at er), rw (fits, le-ltb 65536 (length script) l) (rw w at el))
