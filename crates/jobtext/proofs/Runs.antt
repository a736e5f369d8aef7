-- The turns of a run over a script: a record taken, and the ways in which a part ends. Assumes nothing.
use Rattle.std.specs.Prelude.{Err}
use mathlib.Core.Path.{◌≡◌, refl, sym, ap, ◌∙◌}
use mathlib.Core.List.{List, [], ◌++◌, append_assoc}
use Prim.Native.Nat.{ℕ, zero, suc, ◌+◌, ◌-◌, ◌<◌, ◌≤◌}
use native.Mathlib.Nat.{add-zero}
use native.Mathlib.Omega.{arith}
use borrow.Author.Tests.{lt-ltb, le-ltb, le-leb, lt-leb, eq-eqb, ne_eqb}
use lib.ListN.{length, take, drop, length-drop}
use Rattle.laws.specs.Pick.{pick}
use Rattle.line.specs.Put.{written}
use Rattle.line.proofs.Room as room
use Rattle.line.proofs.Room.{whole_tail, written_length}
use Rattle.jobscript.specs.Done.{ReadyDesk}
use Rattle.jobscript.specs.Step.{step_number}
use Rattle.jobtext.specs.Text.{Said, said_at, place_after}
use Rattle.jobtext.specs.Answer.{Spoken, spoken, after_text, part_at, told_of, last_in, part_from}
use Rattle.jobscript.specs.declared.StepError.TheVariants.{NoRoom}
use Rattle.jobtext.specs.declared.Place.{Place}
use Rattle.jobtext.specs.declared.Part.{Part}
use Rattle.jobtext.specs.declared.inner.Told.{Told}
use Rattle.jobtext.proofs.Filling.{nothing_written, text_long, next_stands, next_free, filled, unfilled}
use Rattle.jobtext.proofs.Saids.{said_ready, said_silent, said_roomy, said_used}
use Rattle.jobtext.proofs.Tells.{Tells, taken, crowded, faulty, told_ways, last_fits}

-- a part of the script to its end
pub tail_long : (script : List ℕ) (at : ℕ) → length (take (length script - at) (drop at script)) ≡ length script - at
tail_long script at = rw (whole_tail script at) (length-drop at script)

-- ---- the rule's turns
module _ (size at : ℕ) (rest : List ℕ) (p : Place) where
  pub finishes : (k : ℕ) → length rest ≤ 0 → part_from k size at rest p ≡ last_in size at 0 p.offset p
  unfolding part_from pick
  finishes zero h = refl
  finishes (suc k) h = rw (le-ltb 0 (length rest) h) refl

  module _ (k : ℕ) (h : 0 < length rest) where
    pub stops : (step_number (said_at rest p).answer ≡ 0 → ⊥) → part_from (suc k) size at rest p ≡ last_in size at (step_number (said_at rest p).answer) p.offset p
    unfolding part_from pick
    stops n = rw (lt-ltb 0 (length rest) h, ne_eqb (step_number (said_at rest p).answer) 0 n) refl

    module _ (e : step_number (said_at rest p).answer ≡ 0) where
      pub lacks : size < at + length (said_at rest p).text → part_from (suc k) size at rest p ≡ spoken [] (Err NoRoom) p
      unfolding part_from pick
      lacks f = rw (lt-ltb 0 (length rest) h, eq-eqb (step_number (said_at rest p).answer) 0 e, lt-leb (at + length (said_at rest p).text) size f) refl

      pub goes_on : at + length (said_at rest p).text ≤ size → part_from (suc k) size at rest p
          ≡ after_text (said_at rest p).text (part_from k size (at + length (said_at rest p).text) (drop (said_at rest p).used rest) (place_after p (said_at rest p)))
      unfolding part_from pick
      goes_on f = rw (lt-ltb 0 (length rest) h, eq-eqb (step_number (said_at rest p).answer) 0 e, le-leb (at + length (said_at rest p).text) size f) refl

-- two texts before a part
regrouped : (a b : List ℕ) (s : Spoken) → after_text (a ++ b) s ≡ after_text a (after_text b s)
regrouped a b s = ap (λ (l : List ℕ). spoken l s.answer s.place) (append_assoc a b s.text)

-- what holds after a turn that took its record: t is what was told of it, left the buffer then, and E what the whole part comes to
pub record Goes (out₀ left rest : List ℕ) (p : Place) (E : Spoken) (j : ℕ) (t : Told) : Type 0 where
  pub inside : t.at ≤ length left
  pub long : length left ≡ length out₀
  pub same : drop t.at left ≡ drop t.at out₀
  pub whole : after_text (take t.at left) (part_from j (length out₀) t.at (take (length rest - t.used) (drop t.used rest)) (record { offset = p.offset + t.used; done = p.done + 1; desk = t.desk })) ≡ E
  pub least : 3 ≤ t.used
  pub most : t.used ≤ length rest
  pub ready : ReadyDesk p.desk → ReadyDesk t.desk

-- ---- as the code has it: out is the buffer with its first `at` bytes written, and E what the whole part comes to
module _ (out₀ out : List ℕ) (at : ℕ) (inside : at ≤ length out) (long : length out ≡ length out₀) (same : drop at out ≡ drop at out₀) (E : Spoken) where
  abbrev Ends : Part → List ℕ → Type 0
  Ends r left = (r ≡ part_at 0 E) × (left ≡ written out₀ 0 E.text)

  part_is : (L : Spoken) → after_text (take at out) L ≡ E → part_at at L ≡ part_at 0 E
  part_is L i =
      let e : at + length L.text ≡ 0 + length (take at out ++ L.text) = omega (arith, text_long out₀ out at inside long same L.text) in
      ap (λ (n : ℕ). record { answer = L.answer; at = n; place = L.place }) e ∙ ap (part_at 0) i

  -- the last line: r is the part that it ends, left the buffer then
  pub last_ends : (number offset : ℕ) (p : Place) → after_text (take at out) (last_in (length out) at number offset p) ≡ E →
      {r : Part} {left : List ℕ} → r ≡ part_at at (last_in (length out) at number offset p) → left ≡ written out at (last_in (length out) at number offset p).text → Ends r left
  last_ends number offset p i er el =
      let L = last_in (length out) at number offset p in
      (er ∙ part_is L i, el ∙ filled out₀ out at inside long same L.text (last_fits (length out) at number offset p inside) ∙ ap (λ (s : Spoken). written out₀ 0 s.text) i)

  module _ (rest : List ℕ) (p : Place) where
    pub script_ends : (k : ℕ) → length rest ≤ 0 → after_text (take at out) (part_from k (length out₀) at rest p) ≡ E →
        {r : Part} {left : List ℕ} → r ≡ part_at at (last_in (length out) at 0 p.offset p) → left ≡ written out at (last_in (length out) at 0 p.offset p).text → Ends r left
    script_ends k h i = last_ends 0 p.offset p (rw long (ap (after_text (take at out)) (sym (finishes (length out₀) at rest p k h)) ∙ i))

    -- a turn: t is what was told of the next record, left the buffer then
    module _ (k j : ℕ) (m : k ≡ suc j) (h : 0 < length rest) (i : after_text (take at out) (part_from k (length out₀) at rest p) ≡ E)
        (t : Told) (left : List ℕ) (et : t ≡ told_of (length out) at p.desk (said_at rest p)) (el : left ≡ written out at (said_at rest p).text) where
      abbrev said : Said
      said = said_at rest p

      i' : after_text (take at out) (part_from (suc j) (length out) at rest p) ≡ E
      i' = rw (long, ← m) i

      ways : Tells (length out) at p.desk said t
      ways = rw et (told_ways (length out) at p.desk said)

      pub room_ends : step_number t.answer ≡ 26 → Ends (record { answer = t.answer; at = at; place = p }) left
      room_ends = by t ways
        where
          by : (u : Told) → Tells (length out) at p.desk said u → step_number u.answer ≡ 26 → Ends (record { answer = u.answer; at = at; place = p }) left
          by u (taken e f) z = absurd (omega arith)
          by u (crowded e f) z =
              let x : after_text (take at out) (spoken [] (Err NoRoom) p) ≡ E = ap (after_text (take at out)) (sym (lacks (length out) at rest p j h e f)) ∙ i' in
              let l : left ≡ out = el ∙ sym (room.no_room out at said.text f).1 in (
                ap (λ (n : ℕ). record { answer = Err NoRoom; at = n; place = p }) (sym (add-zero at)) ∙ part_is (spoken [] (Err NoRoom) p) x,
                l ∙ unfilled out₀ out at inside long same ∙ ap (λ (s : Spoken). written out₀ 0 s.text) x,
              )
          by u (faulty n) z = absurd (said_roomy rest (p.done + 1) p.desk z)

      -- r is the part that the last line ends, last the buffer then
      pub fault_ends : (step_number t.answer ≡ 26 → ⊥) → (step_number t.answer ≡ 0 → ⊥) → {r : Part} {last : List ℕ} →
          r ≡ part_at at (last_in (length left) at (step_number t.answer) p.offset p) → last ≡ written left at (last_in (length left) at (step_number t.answer) p.offset p).text → Ends r last
      fault_ends = by t ways
        where
          by : (u : Told) → Tells (length out) at p.desk said u → (step_number u.answer ≡ 26 → ⊥) → (step_number u.answer ≡ 0 → ⊥) → {r : Part} {last : List ℕ} →
              r ≡ part_at at (last_in (length left) at (step_number u.answer) p.offset p) → last ≡ written left at (last_in (length left) at (step_number u.answer) p.offset p).text → Ends r last
          by u (taken e f) x y er ez = absurd (y refl)
          by u (crowded e f) x y er ez = absurd (x refl)
          by u (faulty n) x y er ez =
              let l : left ≡ out = el ∙ ap (written out at) (said_silent rest (p.done + 1) p.desk n) ∙ sym (nothing_written out at inside) in
              last_ends (step_number said.answer) p.offset p (ap (after_text (take at out)) (sym (stops (length out) at rest p j h n)) ∙ i') (rw l at er) (rw l at ez)

      pub goes : step_number t.answer ≡ 0 → Goes out₀ left rest p E j t
      goes = by t ways
        where
          by : (u : Told) → Tells (length out) at p.desk said u → step_number u.answer ≡ 0 → Goes out₀ left rest p E j u
          by u (taken e f) z =
              let s = said_used rest (p.done + 1) p.desk e in
              let b = written_length out at said.text in
              record {
                inside = rw (el, b) f;
                long = rw (el, b) long;
                same = rw el (next_free out₀ out at inside long same said.text f);
                whole = rw (el, whole_tail rest said.used, next_stands out₀ out at inside long same said.text f) (regrouped (take at out) said.text _ ∙ ap (after_text (take at out)) (on e f) ∙ i');
                least = s.0;
                most = s.1;
                ready = said_ready rest (p.done + 1) p.desk;
              }
            where
              on : step_number said.answer ≡ 0 → at + length said.text ≤ length out → after_text said.text (part_from j (length out₀) (at + length said.text) (drop said.used rest) (place_after p said)) ≡ part_from (suc j) (length out) at rest p
              on e f = rw (← long) (sym (goes_on (length out) at rest p j h e f))
          by u (crowded e f) z = absurd (omega arith)
          by u (faulty n) z = absurd (n z)

-- ---- what the loop keeps, from place p₀ of the script and an empty buffer out₀ on
pub record Going (script out₀ : List ℕ) (p₀ : Place) (out rest : List ℕ) (p : Place) (at : ℕ) : Type 0 where
  pub grew : p₀.done ≤ p.done
  pub counted : p.done - p₀.done + length rest ≤ length script
  pub placed : p.offset + length rest ≡ p₀.offset + length script
  pub inside : at ≤ length out
  pub long : length out ≡ length out₀
  pub same : drop at out ≡ drop at out₀
  pub ready : ReadyDesk p.desk
  pub whole : after_text (take at out) (part_from (p₀.done + length script - p.done) (length out₀) at rest p) ≡ part_from (length script) (length out₀) 0 script p₀

pub begins : (script out : List ℕ) (p : Place) → ReadyDesk p.desk → Going script out p out script p 0
begins script out p w =
    let f : p.done + length script - p.done ≡ length script = omega arith in
    record { grew = omega arith; counted = omega arith; placed = refl; inside = omega arith; long = refl; same = refl; ready = w; whole = rw f refl }

-- the last line after a fault has the buffer that the fault left
pub still_inside : (out : List ℕ) (at : ℕ) (text left : List ℕ) → left ≡ written out at text → at ≤ length out → at ≤ length left
still_inside out at text left e h = rw (e, written_length out at text) h
