-- A record told, and the last line, by what their writers answered. Assumes nothing.
use Rattle.std.specs.Prelude.{Err, Ok, Result, ⊤}
use mathlib.Core.Path.{◌≡◌, refl, sym, ap, ◌∙◌}
use mathlib.Core.List.{List, [], ◌++◌}
use Prim.Native.Nat.{ℕ, ◌+◌, ◌-◌, ◌<◌, ◌≤◌}
use native.Mathlib.Nat.{add-zero}
use native.Mathlib.Omega.{arith}
use borrow.Author.Tests.{le-leb, lt-leb, leb-true, leb-false, eq-eqb, ne_eqb, eqb-true, eqb-false}
use lib.ListN.{length, take, drop}
use Rattle.laws.specs.Pick.{pick}
use Rattle.laws.proofs.Cases.{all_pick}
use Rattle.line.specs.Line.{line_of, end_of, bad_of}
use Rattle.line.specs.Put.{written, put_of}
use Rattle.line.specs.declared.RoomError.TheVariants.{NoRoom as Crowded}
use Rattle.dispatcher_rules.specs.declared.state.Desk.{Desk}
use Rattle.jobscript.specs.Step.{step_number, step_of}
use Rattle.jobtext.specs.Text.{Said, said_of, last_line}
use Rattle.jobtext.specs.Answer.{Spoken, spoken, told, told_of, part_at, last_in}
use Rattle.jobscript.specs.declared.StepError.TheVariants.{NoRoom}
use Rattle.jobscript.specs.declared.Stepped.{Stepped}
use Rattle.jobtext.specs.declared.Place.{Place}
use Rattle.jobtext.specs.declared.Part.{Part}
use Rattle.jobtext.specs.declared.inner.Told.{Told}
use Rattle.jobtext.proofs.Filling.{nothing_written, line_stands, line_crowded}
use Rattle.jobtext.proofs.Saids.{Agrees, agrees, said_silent}
use Rattle.jobscript.specs.declared.StepError.{StepError}
use Rattle.line.specs.declared.RoomError.{RoomError}

-- ---- the ways of a record told
module _ (size at : ℕ) (d : Desk) (s : Said) where
  pub data Tells : Told → Type 0 where
    taken : step_number s.answer ≡ 0 → at + length s.text ≤ size → Tells (told (Ok tt) s.used (at + length s.text) s.desk)
    crowded : step_number s.answer ≡ 0 → size < at + length s.text → Tells (told (Err NoRoom) 0 at d)
    faulty : (step_number s.answer ≡ 0 → ⊥) → Tells (told s.answer 0 at d)

  pub told_ways : Tells (told_of size at d s)
  unfolding told_of
  told_ways =
      all_pick Tells _ _ _
      (λ e. all_pick Tells _ _ _ (λ f. taken (eqb-true _ _ e) (leb-true _ _ f)) (λ f. crowded (eqb-true _ _ e) (leb-false _ _ f)))
      (λ e. faulty (eqb-false _ _ e))

  pub tells_fault : (a : Result ⊤ StepError) → s.answer ≡ a → (step_number a ≡ 0 → ⊥) → told a 0 at d ≡ told_of size at d s
  unfolding told_of pick
  tells_fault a e n = rw (e, ne_eqb (step_number a) 0 n) refl

  module _ (e : step_number s.answer ≡ 0) where
    pub tells_taken : at + length s.text ≤ size → told (Ok tt) s.used (at + length s.text) s.desk ≡ told_of size at d s
    unfolding told_of pick
    tells_taken h = rw (eq-eqb (step_number s.answer) 0 e, le-leb (at + length s.text) size h) refl

    pub tells_crowded : size < at + length s.text → told (Err NoRoom) 0 at d ≡ told_of size at d s
    unfolding told_of pick
    tells_crowded h = rw (eq-eqb (step_number s.answer) 0 e, lt-leb (at + length s.text) size h) refl

-- ---- as the code has it: s is what the step gave
module _ (script : List ℕ) (number : ℕ) (d : Desk) (out : List ℕ) (at : ℕ) (h : at ≤ length out) (s : Stepped) (es : s ≡ step_of script d) where
  abbrev said : Said
  said = said_of script number d

  agreed : Agrees number s said
  agreed = rw es (agrees script number d)

  pub fault_told : (step_number s.answer ≡ 0 → ⊥) → (told s.answer 0 at d ≡ told_of (length out) at d said) × (out ≡ written out at said.text)
  fault_told n =
      let e = agreed.same_answer in
      let q = said_silent script number d (λ z. n (ap step_number (sym e) ∙ z)) in
      (tells_fault (length out) at d said s.answer e n, nothing_written out at h ∙ ap (written out at) (sym q))

  -- the tail was lent: w is what the line's writer answered, left the tail then
  module _ (z : step_number s.answer ≡ 0) (left : List ℕ) (w : Result ℕ RoomError)
      (ew : w ≡ put_of (take (length out - at) (drop at out)) 0 (line_of number s.op s.shown.number (take s.shown.count s.shown.values)))
      (el : left ≡ written (take (length out - at) (drop at out)) 0 (line_of number s.op s.shown.number (take s.shown.count s.shown.values))) where
    ew' : w ≡ put_of (take (length out - at) (drop at out)) 0 said.text
    ew' = ew ∙ ap (λ (l : List ℕ). put_of (take (length out - at) (drop at out)) 0 l) (agreed.line z)

    el' : left ≡ written (take (length out - at) (drop at out)) 0 said.text
    el' = el ∙ ap (λ (l : List ℕ). written (take (length out - at) (drop at out)) 0 l) (agreed.line z)

    zero : step_number said.answer ≡ 0
    zero = ap step_number agreed.same_answer ∙ z

    pub line_told : (n : ℕ) → w ≡ Ok n →
        (told (Ok tt) s.used (at + n) s.desk ≡ told_of (length out) at d said) × (take at out ++ (left ++ drop (length out - at) (drop at out)) ≡ written out at said.text)
    line_told n e =
        let r = line_stands out at said.text h left w ew' el' n e in
        (rw (r.0, ← agreed.same_used, ← agreed.same_desk) (tells_taken (length out) at d said zero r.1), r.2)

    pub crowded_told : w ≡ Err Crowded →
        (told (Err NoRoom) 0 at d ≡ told_of (length out) at d said) × (take at out ++ (left ++ drop (length out - at) (drop at out)) ≡ written out at said.text)
    crowded_told e =
        let r = line_crowded out at said.text h left w ew' el' e in
        (tells_crowded (length out) at d said zero r.0, r.1)

-- ---- the last line
module _ (number offset done : ℕ) where
  pub is_end_lem : number ≡ 0 → end_of done ≡ last_line number offset done
  unfolding last_line pick
  is_end_lem e = rw (eq-eqb number 0 e) refl

  pub is_bad : (number ≡ 0 → ⊥) → bad_of offset number ≡ last_line number offset done
  unfolding last_line pick
  is_bad e = rw (ne_eqb number 0 e) refl

-- it has room, or nothing is put
pub last_fits : (size at number offset : ℕ) (p : Place) → at ≤ size → at + length (last_in size at number offset p).text ≤ size
unfolding last_in
last_fits size at number offset p h =
    all_pick (λ (s : Spoken). at + length s.text ≤ size) _ (spoken (last_line number offset p.done) (Ok tt) p) (spoken [] (Err NoRoom) p) (λ f. leb-true _ _ f)
    (λ _. omega arith)

module _ (out : List ℕ) (at number offset : ℕ) (p : Place) (h : at ≤ length out) (left : List ℕ) (w : Result ℕ RoomError)
    (ew : w ≡ put_of (take (length out - at) (drop at out)) 0 (last_line number offset p.done))
    (el : left ≡ written (take (length out - at) (drop at out)) 0 (last_line number offset p.done)) where
  pub last_stands : (n : ℕ) → w ≡ Ok n →
      (◌≡◌ {A = Part} (record { answer = Ok tt; at = at + n; place = p }) (part_at at (last_in (length out) at number offset p)))
      × (take at out ++ (left ++ drop (length out - at) (drop at out)) ≡ written out at (last_in (length out) at number offset p).text)
  unfolding last_in pick
  last_stands n e =
      let r = line_stands out at (last_line number offset p.done) h left w ew el n e in
      let f = le-leb (at + length (last_line number offset p.done)) (length out) r.1 in
      (rw (r.0, f) refl, rw f r.2)

  pub last_crowded : w ≡ Err Crowded →
      (◌≡◌ {A = Part} (record { answer = Err NoRoom; at = at; place = p }) (part_at at (last_in (length out) at number offset p)))
      × (take at out ++ (left ++ drop (length out - at) (drop at out)) ≡ written out at (last_in (length out) at number offset p).text)
  unfolding last_in pick written
  last_crowded e =
      let r = line_crowded out at (last_line number offset p.done) h left w ew el e in
      let f = lt-leb (at + length (last_line number offset p.done)) (length out) r.0 in
      let k : out ≡ written out at [] = nothing_written out at h in
      (rw (f, add-zero) refl, rw f ((rw f at r.1) ∙ k))
