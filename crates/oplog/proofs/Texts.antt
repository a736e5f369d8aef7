-- A step beside what its record says, and the turns of a log's text. Assumes nothing.
use Rattle.std.specs.Prelude.{Err, Ok, Result, ⊤}
use mathlib.Core.Path.{◌≡◌, refl, sym, ap, ◌∙◌}
use mathlib.Core.List.{List, [], ◌++◌}
use Prim.Native.Nat.{ℕ, zero, suc, ◌+◌, ◌<◌, ◌≤◌}
use native.Mathlib.Omega.{arith}
use lib.ListN.{length, take, drop, length-drop}
use borrow.Author.Tests.{lt-ltb, le-ltb, eq-eqb, ne_eqb}
use Rattle.laws.specs.Pick.{pick}
use Rattle.line.specs.Line.{end_of, bad_of}
use Rattle.line.specs.Put.{written, put_of}
use Rattle.line.specs.declared.RoomError.TheVariants.{NoRoom as Crowded}
use Rattle.line.proofs.Room.{upto_fits, upto_stands, no_room_keeps, written_length}
use Rattle.logread.specs.Read.{read_of}
use Rattle.logread.specs.declared.ReadError.TheVariants as read
use Rattle.logread.proofs.Records.{whole}
use Rattle.operations.specs.Apply.{apply_of}
use Rattle.operations.specs.declared.Tables.{Tables}
use Rattle.oplog.specs.Step.{step_number, reading, writing, text_of, refused_step, step_of, step_out}
use Rattle.oplog.specs.Text.{Said, fault, said_of, text_from}
use Rattle.oplog.specs.declared.StepError.TheVariants.{Short, BadMark, BadOp, BadOperand, NoRoom, BadTable}
use Rattle.oplog.specs.declared.Stepped.{Stepped}
use Rattle.oplog.specs.declared.StepError.{StepError}
use Rattle.line.specs.declared.RoomError.{RoomError}
use Rattle.logread.specs.declared.Record.{Record}
use Rattle.logread.specs.declared.ReadError.{ReadError}

-- ---- a step
-- the record was taken and its line stands in the buffer; its line has no room; or it has a fault
pub data StepWays (say : Said) (out : List ℕ) (at : ℕ) (t : Tables) (s : Stepped) (left : List ℕ) : Type 0 where
  took : s.answer ≡ Ok tt → say.answer ≡ Ok tt → s.used ≡ say.used → s.tables ≡ say.tables → take s.at left ≡ take at out ++ say.text →
      s.at ≤ length left → StepWays say out at t s left
  crowded : s ≡ refused_step at t (Err NoRoom) → left ≡ out → StepWays say out at t s left
  faulty : s ≡ refused_step at t say.answer → (step_number say.answer ≡ 0 → ⊥) → (step_number say.answer ≡ 26 → ⊥) → left ≡ out → StepWays say out at t s left

module _ (log out : List ℕ) (number at : ℕ) (t : Tables) where
  abbrev Ways : Said → Stepped → List ℕ → Type 0
  Ways say s left = StepWays say out at t s left

  module _ (op len : ℕ) where
    abbrev text : List ℕ
    text = text_of number op (apply_of op log t)

    abbrev said : Said
    said = record { answer = Ok tt; used = len; text = text; tables = (apply_of op log t).tables }

    by_writing : (w : Result ℕ RoomError) → put_of out at text ≡ w → Ways said (writing w (refused_step at t (Err NoRoom)) (λ next. record { answer = Ok tt; used = len; at = next; tables = (apply_of op log t).tables })) (written out at text)
    unfolding writing
    by_writing (Ok n) e = took refl refl refl refl (upto_stands out at text n e) (rw (written_length out at text) (upto_fits out at text n e).1)
    by_writing (Err Crowded) e = crowded refl (no_room_keeps out at text e)

  by_reading : (q : Result Record ReadError) → Ways
      (reading q (fault t) said)
      (reading q (refused_step at t) (λ op len. writing (put_of out at (text op len)) (refused_step at t (Err NoRoom)) (λ next. record { answer = Ok tt; used = len; at = next; tables = (apply_of op log t).tables })))
      (reading q (λ _. out) (λ op len. written out at (text op len)))
  unfolding reading
  by_reading (Err read.Short) = faulty refl (λ e. omega arith) (λ e. omega arith) refl
  by_reading (Err read.BadMark) = faulty refl (λ e. omega arith) (λ e. omega arith) refl
  by_reading (Err read.BadOp) = faulty refl (λ e. omega arith) (λ e. omega arith) refl
  by_reading (Err read.BadOperand) = faulty refl (λ e. omega arith) (λ e. omega arith) refl
  by_reading (Ok r) = by_writing r.op r.len (put_of out at (text r.op r.len)) refl

  pub step_ways : StepWays (said_of log number t) out at t (step_of log number out at t) (step_out log number out at t)
  unfolding said_of step_of step_out
  step_ways = by_reading (read_of log)

-- a record that is taken has three bytes or more
abbrev Used : List ℕ → Said → Type 0
Used log s = s.answer ≡ Ok tt → (3 ≤ s.used) × (s.used ≤ length log)

number_zero : (a : Result ⊤ StepError) → step_number a ≡ 0 → a ≡ Ok tt
number_zero (Ok tt) e = refl
number_zero (Err Short) e = absurd (omega arith)
number_zero (Err BadMark) e = absurd (omega arith)
number_zero (Err BadOp) e = absurd (omega arith)
number_zero (Err BadOperand) e = absurd (omega arith)
number_zero (Err NoRoom) e = absurd (omega arith)
number_zero (Err BadTable) e = absurd (omega arith)

pub took_number : (a : Result ⊤ StepError) → a ≡ Ok tt → step_number a ≡ 0
took_number a e = rw e refl

module _ (log : List ℕ) (number : ℕ) (t : Tables) where
  by_reading_used : (q : Result Record ReadError) → read_of log ≡ q → Used log (reading q (fault t) (said log [] number 0 t))
  unfolding reading
  by_reading_used (Err read.Short) r e = absurd (let z = took_number _ e in omega arith)
  by_reading_used (Err read.BadMark) r e = absurd (let z = took_number _ e in omega arith)
  by_reading_used (Err read.BadOp) r e = absurd (let z = took_number _ e in omega arith)
  by_reading_used (Err read.BadOperand) r e = absurd (let z = took_number _ e in omega arith)
  by_reading_used (Ok one) r e = let w = whole log one.op one.len r in (omega (arith, w.counted), w.within)

  pub said_used : step_number (said_of log number t).answer ≡ 0 → (3 ≤ (said_of log number t).used) × ((said_of log number t).used ≤ length log)
  unfolding said_of
  said_used e = by_reading_used (read_of log) refl (number_zero _ e)

-- ---- the turns of a text
module _ (rest : List ℕ) (offset done : ℕ) (t : Tables) where
  abbrev say : Said
  say = said_of rest (done + 1) t

  pub text_end : (k : ℕ) → length rest ≤ 0 → text_from k rest offset done t ≡ end_of done
  unfolding text_from pick
  text_end zero h = refl
  text_end (suc k) h = rw (le-ltb 0 (length rest) h) refl

  module _ (k : ℕ) (h : 0 < length rest) where
    pub text_taken : step_number say.answer ≡ 0 → text_from (suc k) rest offset done t ≡ say.text ++ text_from k (drop say.used rest) (offset + say.used) (done + 1) say.tables
    unfolding text_from pick
    text_taken e = rw (lt-ltb 0 (length rest) h, eq-eqb (step_number say.answer) 0 e) refl

    pub text_fault : (step_number say.answer ≡ 0 → ⊥) → text_from (suc k) rest offset done t ≡ bad_of offset (step_number say.answer)
    unfolding text_from pick
    text_fault e = rw (lt-ltb 0 (length rest) h, ne_eqb (step_number say.answer) 0 e) refl

-- as many records as bytes are enough
abbrev Same : ℕ → ℕ → List ℕ → ℕ → ℕ → Tables → Type 0
Same k j rest offset done t = length rest ≤ k → length rest ≤ j → text_from k rest offset done t ≡ text_from j rest offset done t

module _ (k j : ℕ) (rest : List ℕ) (offset done : ℕ) (t : Tables) (hk : length rest ≤ suc k) (hj : length rest ≤ suc j) where
  abbrev here : Said
  here = said_of rest (done + 1) t

  one_more : 0 < length rest → Same k j (drop here.used rest) (offset + here.used) (done + 1) here.tables → (n : ℕ) → step_number here.answer ≡ n →
      text_from (suc k) rest offset done t ≡ text_from (suc j) rest offset done t
  one_more h same zero e =
      let u = said_used rest (done + 1) t e in
      let l = length-drop here.used rest in
      text_taken rest offset done t k h e
      ∙ ap (λ (x : List ℕ). here.text ++ x) (same (omega arith) (omega arith))
      ∙ sym (text_taken rest offset done t j h e)
  one_more h same (suc n) e = text_fault rest offset done t k h (λ z. omega arith) ∙ sym (text_fault rest offset done t j h (λ z. omega arith))

  some_more : (n : ℕ) → length rest ≡ n → Same k j (drop here.used rest) (offset + here.used) (done + 1) here.tables → text_from (suc k) rest offset done t ≡ text_from (suc j) rest offset done t
  some_more zero e same = text_end rest offset done t (suc k) (omega arith) ∙ sym (text_end rest offset done t (suc j) (omega arith))
  some_more (suc n) e same = one_more (omega arith) same (step_number here.answer) refl

pub enough : (k j : ℕ) (rest : List ℕ) (offset done : ℕ) (t : Tables) → Same k j rest offset done t
enough zero j rest offset done t hk hj = text_end rest offset done t zero hk ∙ sym (text_end rest offset done t j hk)
enough (suc k) zero rest offset done t hk hj = text_end rest offset done t (suc k) hj ∙ sym (text_end rest offset done t zero hj)
enough (suc k) (suc j) rest offset done t hk hj =
    let say = said_of rest (done + 1) t in
    some_more k j rest offset done t hk hj (length rest) refl (enough k j (drop say.used rest) (offset + say.used) (done + 1) say.tables)
