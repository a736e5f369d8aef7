-- What is printed of a script, part after part, is the script's text, whatever buffers are lent. Assumes nothing.
use Rattle.std.specs.Prelude.{Err, Ok}
use mathlib.Core.Path.{◌≡◌, refl, sym, ap, ◌∙◌}
use mathlib.Core.Bool.{Bool, true, false}
use mathlib.Core.List.{List, [], ◌++◌, append_assoc}
use Prim.Native.Nat.{ℕ, zero, suc, ◌+◌, ◌<◌, ◌≤◌}
use native.Mathlib.Omega.{arith}
use borrow.Author.Tests.{lt-ltb, le-ltb, ltb-true, ltb-false, leb-true, leb-false, eq-eqb, ne_eqb, eqb-true, eqb-false}
use lib.Dec.{ltb, leb, eqb}
use lib.ListN.{length, drop, length-append, length-drop}
use lib.Seq.{drop-drop}
use Rattle.laws.specs.Pick.{pick}
use Rattle.laws.proofs.Cases.{all_pick}
use Rattle.line.specs.Put.{written}
use Rattle.line.proofs.Room.{written_length}
use Rattle.jobscript.specs.Step.{step_number}
use Rattle.jobtext.specs.Text.{said_at, place_after, last_line, text_from, most, text_at}
use Rattle.jobtext.specs.Answer.{Spoken, spoken, after_text, part_at, last_in, part_from, answer_of, Prints, last, next, AnswersPrint}
use Rattle.jobscript.specs.declared.StepError.TheVariants.{NoRoom, BadTable}
use Rattle.jobtext.specs.declared.Place.{Place}
use Rattle.jobtext.specs.declared.Part.{Part}
use Rattle.jobtext.proofs.Saids.{said_used}
use Rattle.jobtext.proofs.Tells.{last_fits}
use Rattle.jobtext.proofs.Runs.{finishes, stops, lacks, goes_on}

either : {R : Type 0} (b : Bool) → (b ≡ true → R) → (b ≡ false → R) → R
either true y n = y refl
either false y n = n refl

-- ---- a part has room in its buffer
fits_after : (size at : ℕ) (t : List ℕ) (s : Spoken) → at + length t + length s.text ≤ size → at + length (after_text t s).text ≤ size
fits_after size at t s h = omega (arith, length-append t s.text)

part_fits : (k size at : ℕ) (rest : List ℕ) (p : Place) → at ≤ size → at + length (part_from k size at rest p).text ≤ size
unfolding part_from
part_fits zero size at rest p h = last_fits size at 0 p.offset p h
part_fits (suc k) size at rest p h =
    all_pick Fits _ _ _
    (λ _. all_pick Fits _ _ _
    (λ _. all_pick Fits _ _ (spoken [] (Err NoRoom) p)
    (λ f. fits_after size at (said_at rest p).text (part_from k size (at + length (said_at rest p).text) (drop (said_at rest p).used rest) (place_after p (said_at rest p)))
    (part_fits k size (at + length (said_at rest p).text) (drop (said_at rest p).used rest) (place_after p (said_at rest p)) (leb-true _ _ f)))
    (λ _. omega arith))
    (λ _. last_fits size at _ p.offset p h))
    (λ _. last_fits size at 0 p.offset p h)
  where
    Fits : Spoken → Type 0
    Fits s = at + length s.text ≤ size

answer_fits : (script : List ℕ) (size : ℕ) (p : Place) → 0 + length (answer_of script size p).text ≤ size
unfolding answer_of
answer_fits script size p =
    all_pick (λ (s : Spoken). 0 + length s.text ≤ size) _ _ (spoken [] (Err BadTable) p)
    (λ _. all_pick (λ (s : Spoken). 0 + length s.text ≤ size) _ _ _ (λ _. last_fits size 0 28 most p (omega arith)) (λ _. part_fits _ size 0 _ p (omega arith)))
    (λ _. omega arith)

-- r is the part that a call gave, left the buffer then
pub part_inside : (script out : List ℕ) (p : Place) (r : Part) (left : List ℕ) → r ≡ part_at 0 (answer_of script (length out) p) → left ≡ written out 0 (answer_of script (length out) p).text → r.at ≤ length left
part_inside script out p r left er el = rw (er, el, written_length out 0 (answer_of script (length out) p).text) (answer_fits script (length out) p)

-- ---- the text's turns
module _ (rest : List ℕ) (p : Place) where
  text_finishes : (k : ℕ) → length rest ≤ 0 → text_from k rest p ≡ last_line 0 p.offset p.done
  unfolding text_from pick
  text_finishes zero h = refl
  text_finishes (suc k) h = rw (le-ltb 0 (length rest) h) refl

  module _ (k : ℕ) (h : 0 < length rest) where
    text_stops : (step_number (said_at rest p).answer ≡ 0 → ⊥) → text_from (suc k) rest p ≡ last_line (step_number (said_at rest p).answer) p.offset p.done
    unfolding text_from pick
    text_stops n = rw (lt-ltb 0 (length rest) h, ne_eqb (step_number (said_at rest p).answer) 0 n) refl

    text_goes : step_number (said_at rest p).answer ≡ 0 → text_from (suc k) rest p ≡ (said_at rest p).text ++ text_from k (drop (said_at rest p).used rest) (place_after p (said_at rest p))
    unfolding text_from pick
    text_goes e = rw (lt-ltb 0 (length rest) h, eq-eqb (step_number (said_at rest p).answer) 0 e) refl

  -- what a record leaves of the script is shorter than the count that is left
  shorter : (k : ℕ) → length rest ≤ suc k → 0 < length rest → step_number (said_at rest p).answer ≡ 0 → length (drop (said_at rest p).used rest) ≤ k
  shorter k l h e = let u = said_used rest (p.done + 1) p.desk e in omega (arith, length-drop (said_at rest p).used rest)

-- a count that is large enough is as good as another
enough : (k j : ℕ) (rest : List ℕ) (p : Place) → length rest ≤ k → length rest ≤ j → text_from k rest p ≡ text_from j rest p
enough zero j rest p a b = text_finishes rest p zero a ∙ sym (text_finishes rest p j a)
enough (suc k) zero rest p a b = text_finishes rest p (suc k) b ∙ sym (text_finishes rest p zero b)
enough (suc k) (suc j) rest p a b =
    either (ltb 0 (length rest))
    (λ t. let h = ltb-true 0 (length rest) t in
    either (eqb (step_number (said_at rest p).answer) 0)
    (λ z. let e = eqb-true (step_number (said_at rest p).answer) 0 z in
    text_goes rest p k h e
    ∙ ap (λ (l : List ℕ). (said_at rest p).text ++ l) (enough k j (drop (said_at rest p).used rest) (place_after p (said_at rest p)) (shorter rest p k a h e) (shorter rest p j b h e))
    ∙ sym (text_goes rest p j h e))
    (λ z. let n = eqb-false (step_number (said_at rest p).answer) 0 z in text_stops rest p k h n ∙ sym (text_stops rest p j h n)))
    (λ f. let l = ltb-false 0 (length rest) f in text_finishes rest p (suc k) l ∙ sym (text_finishes rest p (suc j) l))

-- ---- a part and what is left after it
module _ (script : List ℕ) where
  abbrev rest_text : Place → List ℕ
  rest_text q = text_from (length (drop q.offset script)) (drop q.offset script) q

  -- the last part is all of the text; another, with the text of its place, is
  pub record Says (left : Place → List ℕ) (text : List ℕ) (s : Spoken) : Type 0 where
    pub whole : s.answer ≡ Ok tt → s.text ≡ text
    pub begun : s.answer ≡ Err NoRoom → s.text ++ left s.place ≡ text

  module _ (left : Place → List ℕ) where
    none_says : (text : List ℕ) (p : Place) → left p ≡ text → Says left text (spoken [] (Err NoRoom) p)
    none_says text p e = record { whole = λ x. let z : ◌≡◌ {A = ℕ} 0 1 = cc in absurd (omega arith); begun = λ _. e }

    last_says : (size at number offset : ℕ) (p : Place) (text : List ℕ) → last_line number offset p.done ≡ text → left p ≡ text → Says left text (last_in size at number offset p)
    unfolding last_in
    last_says size at number offset p text l e =
        all_pick (Says left text) _ _ _ (λ _. record { whole = λ _. l; begun = λ x. let z : ◌≡◌ {A = ℕ} 0 1 = cc in absurd (omega arith) }) (λ _. none_says text p e)

    after_says : (t text : List ℕ) (s : Spoken) → Says left text s → Says left (t ++ text) (after_text t s)
    after_says t text s h =
        record {
          whole = λ e. ap (λ (l : List ℕ). t ++ l) (h.whole e);
          begun = λ e. append_assoc t s.text (left s.place) ∙ ap (λ (l : List ℕ). t ++ l) (h.begun e);
        }

  left_is : (k : ℕ) (rest : List ℕ) (p : Place) → rest ≡ drop p.offset script → length rest ≤ k → rest_text p ≡ text_from k rest p
  left_is k rest p r l = rw (← r) (enough (length rest) k rest p (omega arith) l)

  says : (k size at : ℕ) (rest : List ℕ) (p : Place) → rest ≡ drop p.offset script → length rest ≤ k → Says rest_text (text_from k rest p) (part_from k size at rest p)
  says zero size at rest p r l = rw (finishes size at rest p zero l) (last_says rest_text size at 0 p.offset p (text_from zero rest p) (sym (text_finishes rest p zero l)) (left_is zero rest p r l))
  says (suc k) size at rest p r l =
      either (ltb 0 (length rest))
      (λ t. let h = ltb-true 0 (length rest) t in
      either (eqb (step_number (said_at rest p).answer) 0)
      (λ z. let e = eqb-true (step_number (said_at rest p).answer) 0 z in
      either (leb (at + length (said_at rest p).text) size)
      (λ f. rw (goes_on size at rest p k h e (leb-true _ _ f), text_goes rest p k h e)
      (after_says rest_text (said_at rest p).text _ _
      (says k size (at + length (said_at rest p).text) (drop (said_at rest p).used rest) (place_after p (said_at rest p))
      (ap (λ (m : List ℕ). drop (said_at rest p).used m) r ∙ drop-drop (said_at rest p).used p.offset script) (shorter rest p k l h e))))
      (λ f. rw (lacks size at rest p k h e (leb-false _ _ f)) (none_says rest_text _ p (left_is (suc k) rest p r l))))
      (λ z. let n = eqb-false (step_number (said_at rest p).answer) 0 z in
      rw (stops size at rest p k h n) (last_says rest_text size at _ p.offset p _ (sym (text_stops rest p k h n)) (left_is (suc k) rest p r l))))
      (λ f. let o = ltb-false 0 (length rest) f in
      rw (finishes size at rest p (suc k) o) (last_says rest_text size at 0 p.offset p _ (sym (text_finishes rest p (suc k) o)) (left_is (suc k) rest p r l)))

  -- over 65,536 bytes there is one line
  all_left : ltb most (length script) ≡ false → (q : Place) → text_at script q ≡ rest_text q
  unfolding text_at pick
  all_left f q = rw f refl

  one_line : ltb most (length script) ≡ true → (q : Place) → last_line 28 most q.done ≡ text_at script q
  unfolding text_at pick
  one_line t q = rw t refl

  within : (text : List ℕ) (s : Spoken) → ltb most (length script) ≡ false → Says rest_text text s → Says (text_at script) text s
  within text s f h = record { whole = h.whole; begun = λ e. ap (λ (l : List ℕ). s.text ++ l) (all_left f s.place) ∙ h.begun e }

  pub answer_says : (size : ℕ) (p : Place) → Says (text_at script) (text_at script p) (answer_of script size p)
  unfolding answer_of
  answer_says size p =
      all_pick (Says (text_at script) (text_at script p)) _ _ (spoken [] (Err BadTable) p)
      (λ _. all_pick (Says (text_at script) (text_at script p)) _ _ _
      (λ t. last_says (text_at script) size 0 28 most p (text_at script p) (one_line t p) refl)
      (λ f. rw (all_left f p) (within _ _ f (says (length (drop p.offset script)) size 0 (drop p.offset script) p refl (omega arith)))))
      (λ _. record { whole = λ x. let z : ◌≡◌ {A = ℕ} 0 1 = cc in absurd (omega arith); begun = λ x. let z : ◌≡◌ {A = ℕ} 0 1 = cc in absurd (omega arith) })

  -- ---- all parts
  pub parts_print : {p : Place} {text : List ℕ} → Prints script p text → text ≡ text_at script p
  parts_print {p} (last size e) = (answer_says size p).whole e
  parts_print {p} (next size e more) = ap (λ (l : List ℕ). (answer_of script size p).text ++ l) (parts_print more) ∙ (answer_says size p).begun e

pub answers_print : AnswersPrint
answers_print script text = parts_print script
