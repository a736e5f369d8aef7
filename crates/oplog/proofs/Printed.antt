-- The parts that a replay puts into the buffers that it is lent are, one after the other, the log's text. Assumes nothing.
use Rattle.std.specs.Prelude.{Err, Ok, Result}
use mathlib.Core.Path.{◌≡◌, refl, sym, ap, ◌∙◌}
use mathlib.Core.Bool.{true}
use mathlib.Core.List.{List, ◌++◌}
use Prim.Native.Nat.{ℕ, zero, suc, ◌+◌, ◌-◌, ◌<◌, ◌≤◌}
use native.Mathlib.Omega.{arith}
use lib.Dec.{ltb, eqb}
use lib.ListN.{length, take, drop, length-drop}
use lib.Seq.{drop-drop}
use borrow.Author.Tests.{lt-ltb, le-ltb, le-leb, ne_eqb, eqb-true, eqb-false, ltb-true, ltb-false}
use Rattle.laws.specs.Pick.{pick}
use Rattle.laws.specs.Refusals as no
use Rattle.laws.proofs.Cases.{all_pick, not_both}
use Rattle.ipc_rules.specs.Sound.{Sound}
use Rattle.ipc_rules.specs.State.{sizes_of}
use Rattle.ipc_sound.proofs.Decide.{test_of}
use Rattle.ipc_rules.proofs.Fresh.{in_range_of, fresh_sound}
use Rattle.line.specs.Put.{written, put_of}
use Rattle.line.specs.declared.RoomError.TheVariants.{NoRoom as Crowded}
use Rattle.line.proofs.Room.{upto_fits, upto_stands, no_room_keeps, written_length}
use Rattle.operations.specs.declared.Tables.{Tables}
use Rattle.oplog.specs.Step.{step_number, writing, step_of, step_out}
use Rattle.oplog.specs.Run.{Ended, run_from, run_of}
use Rattle.oplog.specs.Text.{most, text_from, text_at, start_of, replay_text}
use Rattle.oplog.specs.Replay.{place_fits, Filled, filled, last_line, last_of, log_place_of, ending_of, ran_of, replay_of, Placed, part_of, Prints, last, next}
use Rattle.oplog.specs.declared.StepError.TheVariants.{NoRoom}
use Rattle.oplog.specs.declared.replay.Place.{Place}
use Rattle.oplog.proofs.Runs.{used, step_kept}
use Rattle.oplog.proofs.Replays.{is_bad}
use Rattle.oplog.proofs.Texts.{enough}
use Rattle.oplog.proofs.RunTexts.{left_of, RunPrints, run_prints}
use Rattle.line.specs.declared.RoomError.{RoomError}

-- ---- a run keeps its tables sound, and counts no more records than bytes
pub run_kept : (all k : ℕ) (rest : List ℕ) (done : ℕ) (out : List ℕ) (at : ℕ) (t : Tables) → Sound t.channels → Sound (run_from all k rest done out at t).answer.tables.channels
unfolding run_from
run_kept all zero rest done out at t s = s
run_kept all (suc k) rest done out at t s =
    all_pick (λ (e : Ended). Sound e.answer.tables.channels) _ _ _ (λ _.
    all_pick (λ (e : Ended). Sound e.answer.tables.channels) _ _ _ (λ _. run_kept all k _ _ _ _ _ (step_kept rest out (done + 1) at t s)) (λ _. s))
    (λ _. s)

abbrev Counted : ℕ → List ℕ → ℕ → Ended → Type 0
Counted all rest done e = (e.answer.offset ≤ all) × (e.answer.done + (all - e.answer.offset) ≤ done + length rest)

run_counted : (all k : ℕ) (rest : List ℕ) (done : ℕ) (out : List ℕ) (at : ℕ) (t : Tables) → length rest ≤ all → Counted all rest done (run_from all k rest done out at t)
unfolding run_from
run_counted all zero rest done out at t h = (omega arith, omega arith)
run_counted all (suc k) rest done out at t h =
    all_pick (Counted all rest done) _ _ _ (λ _.
    all_pick (Counted all rest done) _ _ _ (λ e.
    let u = used rest out (done + 1) at t (eqb-true _ _ e) in
    let l = length-drop (step_of rest (done + 1) out at t).used rest in
    let r = run_counted all k (drop (step_of rest (done + 1) out at t).used rest) (done + 1) (step_out rest (done + 1) out at t) (step_of rest (done + 1) out at t).at (step_of rest (done + 1) out at t).tables (omega arith) in
    (r.0, omega arith)) (λ _. (omega arith, omega arith)))
    (λ _. (omega arith, omega arith))

-- ---- the last line
module _ (out : List ℕ) (at number offset : ℕ) (p : Place) where
  abbrev text : List ℕ
  text = last_line number offset p.done

  -- what is in the buffer, and the line if it is left
  pub record Closes (f : Filled) : Type 0 where
    pub place : f.part.place ≡ p
    pub took : f.part.answer ≡ Ok tt → part_of f ≡ take at out ++ text
    pub left : f.part.answer ≡ Err NoRoom → part_of f ≡ take at out

  by_writing : (r : Result ℕ RoomError) → put_of out at text ≡ r → Closes (writing r (filled (Err NoRoom) at p (written out at text)) (λ n. filled (Ok tt) n p (written out at text)))
  unfolding writing
  by_writing (Ok n) e = record { place = refl; took = λ _. upto_stands out at text n e; left = λ z. absurd (let y = ap step_number z in omega arith) }
  by_writing (Err Crowded) e = record { place = refl; took = λ z. absurd (let y = ap step_number z in omega arith); left = λ _. ap (λ (l : List ℕ). take at l) (no_room_keeps out at text e) }

  pub closes : Closes (last_of out at number offset p)
  unfolding last_of
  closes = by_writing (put_of out at text) refl

-- ---- a part is inside its buffer
abbrev Inside : Filled → Type 0
Inside f = f.part.at ≤ length f.buffer

module _ (out : List ℕ) (at number offset : ℕ) (p : Place) (w : at ≤ length out) where
  abbrev line : List ℕ
  line = last_line number offset p.done

  written_inside : (r : Result ℕ RoomError) → put_of out at line ≡ r → Inside (writing r (filled (Err NoRoom) at p (written out at line)) (λ n. filled (Ok tt) n p (written out at line)))
  unfolding writing
  written_inside (Ok n) e = rw (written_length out at line) (upto_fits out at line n e).1
  written_inside (Err Crowded) e = rw (written_length out at line) w

  last_inside : Inside (last_of out at number offset p)
  unfolding last_of
  last_inside = written_inside (put_of out at line) refl

pub ran_inside : (log out : List ℕ) (before : ℕ) (t : Tables) → (run_of log before out t).answer.at ≤ length (run_of log before out t).buffer
ran_inside log out before t =
    let z : length log - length log ≡ 0 = omega arith in
    (run_prints log 0 (length log) log before out 0 t (omega arith) (omega arith) (rw z refl) (omega arith)).within

pub part_inside : (log out : List ℕ) (p : Place) → (replay_of log out p).part.at ≤ length (replay_of log out p).buffer
unfolding replay_of ending_of
part_inside log out p =
    all_pick Inside (place_fits log p) _ _ (λ _.
    all_pick Inside (ltb most (length log)) _ _ (λ _. last_inside out 0 no.too_long most p (omega arith)) (λ _.
    all_pick Inside (eqb (step_number (ran_of log out p).answer.answer) no.no_room) _ _ (λ _. ran_inside (drop p.offset log) out p.done p.tables) (λ _.
    last_inside (ran_of log out p).buffer (ran_of log out p).answer.at _ _ _ (ran_inside (drop p.offset log) out p.done p.tables))))
    (λ _. omega arith)

-- ---- a call
module _ (log : List ℕ) (p : Place) (h : Placed log p) (out : List ℕ) where
  -- the last part ends the text, another leaves the text from its place on, and the replay can go on there
  pub record Continues (f : Filled) : Type 0 where
    pub took : f.part.answer ≡ Ok tt → part_of f ≡ text_at log p
    pub left : f.part.answer ≡ Err NoRoom → part_of f ++ text_at log f.part.place ≡ text_at log p
    pub again : Placed log f.part.place

  pub fits : place_fits log p ≡ true
  fits = rw (le-leb p.offset (length log) h.inside, le-leb p.done p.offset h.counted, test_of p.tables.channels h.sound) refl

  -- too long a log
  long_text : (q : Place) → most < length log → text_at log q ≡ last_line no.too_long most p.done
  unfolding text_at pick
  long_text q l = rw (lt-ltb most (length log) l) (is_bad no.too_long most p.done (λ z. omega arith))

  long : most < length log → Continues (last_of out 0 no.too_long most p)
  long l =
      let c = closes out 0 no.too_long most p in
      record {
        took = λ e. c.took e ∙ sym (long_text p l);
        left = λ e. ap (λ (x : List ℕ). x ++ text_at log (last_of out 0 no.too_long most p).part.place) (c.left e) ∙ long_text (last_of out 0 no.too_long most p).part.place l ∙ sym (long_text p l);
        again = rw c.place h;
      }

  -- a log that is not
  module _ (l : length log ≤ most) where
    abbrev rest : List ℕ
    rest = drop p.offset log

    abbrev e : Ended
    e = ran_of log out p

    short_text : (q : Place) → text_at log q ≡ text_from (length log) (drop q.offset log) q.offset q.done q.tables
    unfolding text_at pick
    short_text q = rw (le-ltb most (length log) l) refl

    ran : RunPrints rest p.offset e (text_at log p)
    ran =
        let n = length-drop p.offset log in
        let z : length rest - length rest ≡ 0 = omega arith in
        let o : p.offset + (length rest - length rest) ≡ p.offset = omega arith in
        let x : text_from (length rest) rest (p.offset + (length rest - length rest)) p.done p.tables ≡ text_at log p =
        rw o (enough (length rest) (length log) rest p.offset p.done p.tables (omega arith) (omega arith) ∙ sym (short_text p)) in
        rw (← x) (run_prints rest p.offset (length rest) rest p.done out 0 p.tables (omega arith) (omega arith) (rw z refl) (omega arith))

    reaches : Placed log (log_place_of p.offset e.answer)
    reaches =
        let n = length-drop p.offset log in
        let i = h.inside in
        let d = h.counted in
        let c = run_counted (length rest) (length rest) rest p.done out 0 p.tables (omega arith) in
        record { inside = omega (arith, c.0); counted = omega (arith, c.0, c.1); sound = run_kept (length rest) (length rest) rest p.done out 0 p.tables h.sound }

    -- what is left at that place
    left_text : text_at log (log_place_of p.offset e.answer) ≡ left_of rest p.offset e
    left_text =
        let n = length-drop p.offset log in
        let m = length-drop (p.offset + e.answer.offset) log in
        short_text (log_place_of p.offset e.answer)
        ∙ enough (length log) (length rest) (drop (p.offset + e.answer.offset) log) (p.offset + e.answer.offset) e.answer.done e.answer.tables (omega arith) (omega arith)
        ∙ ap (λ (r : List ℕ). text_from (length rest) r (p.offset + e.answer.offset) e.answer.done e.answer.tables) (sym (drop-drop e.answer.offset p.offset log))
        ∙ ran.resumes

    -- no room for a line
    crowded : Continues (filled (Err NoRoom) e.answer.at (log_place_of p.offset e.answer) e.buffer)
    crowded =
        record {
          took = λ z. absurd (let y = ap step_number z in omega arith);
          left = λ _. ap (λ (x : List ℕ). take e.answer.at e.buffer ++ x) left_text ∙ ran.says;
          again = reaches;
        }

    -- the last line
    closed : (step_number e.answer.answer ≡ no.no_room → ⊥) → Continues (last_of e.buffer e.answer.at (step_number e.answer.answer) (p.offset + e.answer.offset) (log_place_of p.offset e.answer))
    unfolding left_of pick
    closed n =
        let c = closes e.buffer e.answer.at (step_number e.answer.answer) (p.offset + e.answer.offset) (log_place_of p.offset e.answer) in
        let x : take e.answer.at e.buffer ++ last_line (step_number e.answer.answer) (p.offset + e.answer.offset) e.answer.done ≡ text_at log p =
        rw (ne_eqb (step_number e.answer.answer) no.no_room n) at ran.says in
        record {
          took = λ z. c.took z ∙ x;
          left = λ z. rw c.place (ap (λ (y : List ℕ). y ++ text_at log (log_place_of p.offset e.answer)) (c.left z) ∙ ap (λ (y : List ℕ). take e.answer.at e.buffer ++ y) left_text ∙ ran.says);
          again = rw c.place reaches;
        }

    short : Continues (ending_of p.offset e)
    unfolding ending_of
    short = all_pick Continues (eqb (step_number e.answer.answer) no.no_room) _ _ (λ _. crowded) (λ n. closed (eqb-false _ _ n))

  pub continues : Continues (replay_of log out p)
  unfolding replay_of
  continues =
      all_pick Continues (place_fits log p) _ _ (λ _.
      all_pick Continues (ltb most (length log)) _ _ (λ a. long (ltb-true _ _ a)) (λ a. short (ltb-false _ _ a)))
      (λ f. absurd (not_both _ fits f))

-- ---- a whole replay
pub printed : (log : List ℕ) {p : Place} {text : List ℕ} → Placed log p → Prints log p text → text ≡ text_at log p
printed log {p} h (last out a) = (continues log p h out).took a
printed log {p} h (next out a more) = ap (λ (x : List ℕ). part_of (replay_of log out p) ++ x) (printed log (continues log p h out).again more) ∙ (continues log p h out).left a

pub start_placed : (log : List ℕ) → Placed log start_of
start_placed log = record { inside = omega arith; counted = omega arith; sound = fresh_sound (sizes_of 32 64 8) (in_range_of (sizes_of 32 64 8) refl) }

-- whatever buffers are lent, what a replay prints of a log is the log's text
pub replay_prints : (log : List ℕ) {text : List ℕ} → Prints log start_of text → text ≡ replay_text log
replay_prints log = printed log (start_placed log)
