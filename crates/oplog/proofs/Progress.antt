-- A part of a replay that ends for want of room has taken a record, if its buffer has 315 bytes or more: so the parts come to an end.
-- Assumes nothing.
use Rattle.std.specs.Prelude.{Err, Ok, Result}
use mathlib.Core.Path.{◌≡◌, refl, ap, ◌∙◌}
use mathlib.Core.List.{List}
use Prim.Native.Nat.{ℕ, zero, suc, ◌+◌, ◌-◌, ◌<◌, ◌≤◌}
use native.Mathlib.Omega.{arith}
use lib.Dec.{ltb, eqb}
use lib.ListN.{length, drop, length-drop}
use borrow.Author.Tests.{eqb-true}
use Rattle.laws.specs.Refusals as no
use Rattle.laws.proofs.Cases.{all_pick}
use Rattle.line.specs.Put.{written, put_of, written_number}
use Rattle.line.specs.declared.RoomError.TheVariants.{NoRoom as Crowded}
use Rattle.line.proofs.Room.{has_room, written_length}
use Rattle.line.proofs.Sizes.{end_few, bad_few, line_few}
use Rattle.operations.specs.Apply.{apply_of}
use Rattle.operations.specs.declared.Tables.{Tables}
use Rattle.operations.proofs.Applied.{apply_few}
use Rattle.logread.specs.Read.{read_of}
use Rattle.logread.specs.declared.ReadError.TheVariants as read
use Rattle.oplog.specs.Step.{step_number, reading, writing, text_of, refused_step, step_of, step_out}
use Rattle.oplog.specs.Run.{Ended, run_from}
use Rattle.oplog.specs.Text.{most}
use Rattle.oplog.specs.Replay.{place_fits, Filled, filled, last_line, last_of, log_place_of, ending_of, ran_of, replay_of}
use Rattle.oplog.specs.declared.StepError.TheVariants.{NoRoom}
use Rattle.oplog.specs.declared.Stepped.{Stepped}
use Rattle.oplog.specs.declared.replay.Place.{Place}
use Rattle.oplog.proofs.Runs.{used}
use Rattle.oplog.proofs.Printed.{closes}
use Rattle.line.specs.declared.RoomError.{RoomError}
use Rattle.logread.specs.declared.Record.{Record}
use Rattle.logread.specs.declared.ReadError.{ReadError}

-- ---- a text that fits is written
fits_written : (out : List ℕ) (at : ℕ) (text : List ℕ) → at + length text ≤ length out → put_of out at text ≡ Err Crowded → ⊥
fits_written out at text h e = let z : ◌≡◌ {A = ℕ} 0 26 = ap written_number ((has_room out at text h).0 ∙ e) in omega arith

-- ---- the last line has room where 46 bytes are left
last_few : (number offset done : ℕ) → length (last_line number offset done) ≤ 46
unfolding last_line
last_few number offset done = all_pick (λ (l : List ℕ). length l ≤ 46) _ _ _ (λ _. let h = end_few done in omega arith) (λ _. bad_few offset number)

module _ (out : List ℕ) (at number offset : ℕ) (p : Place) (h : at + 46 ≤ length out) where
  abbrev line : List ℕ
  line = last_line number offset p.done

  by_written : (r : Result ℕ RoomError) → put_of out at line ≡ r → (writing r (filled (Err NoRoom) at p (written out at line)) (λ n. filled (Ok tt) n p (written out at line))).part.answer ≡ Err NoRoom → ⊥
  unfolding writing
  by_written (Ok n) e z = let y : ◌≡◌ {A = ℕ} 0 26 = ap step_number z in omega arith
  by_written (Err Crowded) e z = fits_written out at line (let l = last_few number offset p.done in omega arith) e

  last_room : (last_of out at number offset p).part.answer ≡ Err NoRoom → ⊥
  unfolding last_of
  last_room = by_written (put_of out at line) refl

-- ---- a step's line has room where 315 bytes are left
module _ (log out : List ℕ) (number at : ℕ) (t : Tables) (h : at + 315 ≤ length out) where
  abbrev Has : Stepped → Type 0
  Has s = step_number s.answer ≡ no.no_room → ⊥

  module _ (op len : ℕ) where
    abbrev text : List ℕ
    text = text_of number op (apply_of op log t)

    text_fits : at + length text ≤ length out
    text_fits = let l = line_few number op (apply_of op log t).number (apply_of op log t).values (apply_few log t op) in omega arith

    text_written : (w : Result ℕ RoomError) → put_of out at text ≡ w → Has (writing w (refused_step at t (Err NoRoom)) (λ next. record { answer = Ok tt; used = len; at = next; tables = (apply_of op log t).tables }))
    unfolding writing
    text_written (Ok n) e z = omega arith
    text_written (Err Crowded) e z = fits_written out at text text_fits e

  by_record : (q : Result Record ReadError) → Has (reading q (refused_step at t) (λ op len. writing (put_of out at (text op len)) (refused_step at t (Err NoRoom)) (λ next. record { answer = Ok tt; used = len; at = next; tables = (apply_of op log t).tables })))
  unfolding reading
  by_record (Err read.Short) z = omega arith
  by_record (Err read.BadMark) z = omega arith
  by_record (Err read.BadOp) z = omega arith
  by_record (Err read.BadOperand) z = omega arith
  by_record (Ok r) z = text_written r.op r.len (put_of out at (text r.op r.len)) refl z

  step_room : step_number (step_of log number out at t).answer ≡ no.no_room → ⊥
  unfolding step_of
  step_room = by_record (read_of log)

-- ---- a step leaves the buffer's length
module _ (log out : List ℕ) (number at : ℕ) (t : Tables) where
  by_record_length : (q : Result Record ReadError) → length (reading q (λ _. out) (λ op len. written out at (text_of number op (apply_of op log t)))) ≡ length out
  unfolding reading
  by_record_length (Err read.Short) = refl
  by_record_length (Err read.BadMark) = refl
  by_record_length (Err read.BadOp) = refl
  by_record_length (Err read.BadOperand) = refl
  by_record_length (Ok r) = written_length out at (text_of number r.op (apply_of r.op log t))

  step_length : length (step_out log number out at t) ≡ length out
  unfolding step_out
  step_length = by_record_length (read_of log)

-- ---- a run goes forward
run_past : (all k : ℕ) (rest : List ℕ) (done : ℕ) (out : List ℕ) (at : ℕ) (t : Tables) → all - length rest ≤ (run_from all k rest done out at t).answer.offset
unfolding run_from
run_past all zero rest done out at t = omega arith
run_past all (suc k) rest done out at t =
    all_pick (λ (e : Ended). all - length rest ≤ e.answer.offset) _ _ _ (λ _.
    all_pick (λ (e : Ended). all - length rest ≤ e.answer.offset) _ _ _ (λ _.
    let s = step_of rest (done + 1) out at t in
    let l = length-drop s.used rest in
    let p = run_past all k (drop s.used rest) (done + 1) (step_out rest (done + 1) out at t) s.at s.tables in
    omega arith) (λ _. omega arith))
    (λ _. omega arith)

-- a run from an empty buffer of 315 bytes or more: ended for want of room it has gone forward; where it has not, the buffer is still empty
record Forward (out : List ℕ) (e : Ended) : Type 0 where
  pub crowded : step_number e.answer.answer ≡ no.no_room → 0 < e.answer.offset
  pub unmoved : e.answer.offset ≡ 0 → (e.answer.at ≡ 0) × (length e.buffer ≡ length out)

run_forward : (k : ℕ) (rest : List ℕ) (done : ℕ) (out : List ℕ) (t : Tables) → length rest ≤ k → 315 ≤ length out → Forward out (run_from (length rest) k rest done out 0 t)
unfolding run_from
run_forward zero rest done out t hk h = record { crowded = λ z. absurd (omega arith); unmoved = λ _. (refl, refl) }
run_forward (suc k) rest done out t hk h =
    all_pick (Forward out) _ _ _ (λ some.
    all_pick (Forward out) _ _ _ (λ e.
    let s = step_of rest (done + 1) out 0 t in
    let u = used rest out (done + 1) 0 t (eqb-true _ _ e) in
    let l = length-drop s.used rest in
    let p = run_past (length rest) k (drop s.used rest) (done + 1) (step_out rest (done + 1) out 0 t) s.at s.tables in
    record { crowded = λ _. omega arith; unmoved = λ z. absurd (omega arith) }) (λ _.
    record { crowded = λ z. absurd (step_room rest out (done + 1) 0 t h z); unmoved = λ _. (refl, step_length rest out (done + 1) 0 t) }))
    (λ _. record { crowded = λ z. absurd (omega arith); unmoved = λ _. (refl, refl) })

-- ---- a call
module _ (log out : List ℕ) (p : Place) (h : 315 ≤ length out) where
  abbrev Onward : Filled → Type 0
  Onward f = f.part.answer ≡ Err NoRoom → p.offset < f.part.place.offset

  abbrev e : Ended
  e = ran_of log out p

  forward : Forward out e
  forward = run_forward (length (drop p.offset log)) (drop p.offset log) p.done out p.tables (omega arith) h

  closes_on : (n : ℕ) → e.answer.offset ≡ n → Onward (last_of e.buffer e.answer.at (step_number e.answer.answer) (p.offset + e.answer.offset) (log_place_of p.offset e.answer))
  closes_on zero z a =
      let u = forward.unmoved z in
      let at-start : e.answer.at ≡ 0 = u.0 in
      let long : length e.buffer ≡ length out = u.1 in
      absurd (last_room e.buffer e.answer.at _ _ (log_place_of p.offset e.answer) (omega arith) a)
  closes_on (suc n) z a = rw (closes e.buffer e.answer.at (step_number e.answer.answer) (p.offset + e.answer.offset) (log_place_of p.offset e.answer)).place (omega arith)

  pub moves_on : Onward (replay_of log out p)
  unfolding replay_of ending_of
  moves_on =
      all_pick Onward (place_fits log p) _ _ (λ _.
      all_pick Onward (ltb most (length log)) _ _ (λ _ z. absurd (last_room out 0 no.too_long most p (omega arith) z)) (λ _.
      all_pick Onward (eqb (step_number e.answer.answer) no.no_room) _ _ (λ n _. let c = forward.crowded (eqb-true _ _ n) in omega arith) (λ _. closes_on e.answer.offset refl)))
      (λ _ z. absurd (let y : ◌≡◌ {A = ℕ} 27 26 = ap step_number z in omega arith))
