-- The ways of a replay over a lent buffer: a place that is refused, a log that is too long, no room, the last line. Assumes nothing.
use Rattle.std.specs.Prelude.{Err, Ok, Result}
use mathlib.Core.Path.{◌≡◌, refl}
use mathlib.Core.Bool.{Bool, true, false, ◌&&◌}
use mathlib.Core.List.{List, ◌++◌}
use Prim.Native.Nat.{ℕ, zero, suc, ◌+◌, ◌-◌, ◌<◌, ◌≤◌}
use native.Mathlib.Omega.{arith}
use lib.Dec.{leb}
use lib.ListN.{length, take, drop}
use borrow.Author.Tests.{lt-ltb, le-ltb, eq-eqb, ne_eqb, leb-true}
use Rattle.laws.specs.Pick.{pick}
use Rattle.laws.specs.Refusals as no
use Rattle.laws.proofs.Cases.{all_pick}
use Rattle.laws.proofs.Every.{and_left, and_right}
use Rattle.ipc_sound.specs.SoundTest.{sound_test}
use Rattle.line.specs.Line.{end_of, bad_of}
use Rattle.line.specs.Put.{written, put_of, from_tail}
use Rattle.line.specs.declared.RoomError.TheVariants.{NoRoom as Crowded}
use Rattle.line.proofs.Room.{whole_tail, lent}
use Rattle.operations.specs.declared.Tables.{Tables}
use Rattle.oplog.specs.Step.{step_number, writing}
use Rattle.oplog.specs.Run.{Ended, run_from, run_of}
use Rattle.oplog.specs.Text.{most}
use Rattle.oplog.specs.Replay.{place_fits, last_line, last_of, log_place_of, ending_of, ran_of, replay_of}
use Rattle.oplog.specs.declared.StepError.TheVariants.{NoRoom, BadTable}
use Rattle.oplog.specs.declared.Ran.{Ran}
use Rattle.oplog.specs.declared.replay.Place.{Place}
use Rattle.oplog.specs.declared.replay.Part.{Part}
use Rattle.line.specs.declared.RoomError.{RoomError}

-- ---- the last line
module _ (number offset done : ℕ) where
  pub is_end_lem : number ≡ 0 → end_of done ≡ last_line number offset done
  unfolding last_line pick
  is_end_lem e = rw (eq-eqb number 0 e) refl

  pub is_bad : (number ≡ 0 → ⊥) → bad_of offset number ≡ last_line number offset done
  unfolding last_line pick
  is_bad e = rw (ne_eqb number 0 e) refl

-- the tail from `at` on was lent: w is what writing that line answered, left the tail then
module _ (out : List ℕ) (at number offset : ℕ) (p : Place) (h : at ≤ length out) (w : Result ℕ RoomError) (left : List ℕ)
    (ew : w ≡ put_of (take (length out - at) (drop at out)) 0 (last_line number offset p.done))
    (el : left ≡ written (take (length out - at) (drop at out)) 0 (last_line number offset p.done)) where
  abbrev whole : List ℕ
  whole = take at out ++ (left ++ drop (length out - at) (drop at out))

  back : (from_tail at w ≡ put_of out at (last_line number offset p.done)) × (whole ≡ written out at (last_line number offset p.done))
  back = lent out at (last_line number offset p.done) h ew el

  pub had_room : (n : ℕ) → w ≡ Ok n → (◌≡◌ {A = Part} (record { answer = Ok tt; at = at + n; place = p }) (last_of out at number offset p).part) × (whole ≡ (last_of out at number offset p).buffer)
  unfolding last_of writing from_tail
  had_room n e = (rw (← back.0, e) refl, rw (← back.0, e) back.1)

  pub crowded : w ≡ Err Crowded → (◌≡◌ {A = Part} (record { answer = Err NoRoom; at = at; place = p }) (last_of out at number offset p).part) × (whole ≡ (last_of out at number offset p).buffer)
  unfolding last_of writing from_tail
  crowded e = (rw (← back.0, e) refl, rw (← back.0, e) back.1)

-- ---- a run ends inside its log
run_within : (all k : ℕ) (rest : List ℕ) (done : ℕ) (out : List ℕ) (at : ℕ) (t : Tables) → (run_from all k rest done out at t).answer.offset ≤ all
unfolding run_from
run_within all zero rest done out at t = omega arith
run_within all (suc k) rest done out at t =
    all_pick (λ (e : Ended). e.answer.offset ≤ all) _ _ _ (λ _.
    all_pick (λ (e : Ended). e.answer.offset ≤ all) _ _ _ (λ _. run_within all k _ _ _ _ _) (λ _. omega arith))
    (λ _. omega arith)

pub ran_within : (log : List ℕ) (before : ℕ) (out : List ℕ) (t : Tables) {r : Ran} → r ≡ (run_of log before out t).answer → r.offset ≤ length log
ran_within log before out t e = rw e (run_within (length log) (length log) log before out 0 t)

-- ---- the calls: q is what the soundness test answered
module _ (log out : List ℕ) (p : Place) (q : Bool) (es : q ≡ sound_test p.tables.channels) where
  abbrev placed : Bool
  placed = leb p.offset (length log) && leb p.done p.offset

  abbrev tested : Bool
  tested = placed && q

  pub refuses : tested ≡ false → (◌≡◌ {A = Part} (record { answer = Err BadTable; at = 0; place = p }) (replay_of log out p).part) × (out ≡ (replay_of log out p).buffer)
  unfolding replay_of pick
  refuses e = let h : place_fits log p ≡ false = rw (← es) e in (rw h refl, rw h refl)

  module _ (e : tested ≡ true) where
    fits : place_fits log p ≡ true
    fits = rw (← es) e

    pub inside : p.offset ≤ length log
    inside = leb-true _ _ (and_left _ (leb p.done p.offset) (and_left placed q e))

    pub counted : p.done ≤ p.offset
    counted = leb-true _ _ (and_right (leb p.offset (length log)) _ (and_left placed q e))

    pub sound_test_lem : sound_test p.tables.channels ≡ true
    sound_test_lem = rw (← es) (and_right placed q e)

    pub too_long : {r : Part} {left : List ℕ} → most < length log → r ≡ (last_of out 0 no.too_long most p).part → left ≡ (last_of out 0 no.too_long most p).buffer
        → (r ≡ (replay_of log out p).part) × (left ≡ (replay_of log out p).buffer)
    unfolding replay_of pick
    too_long l er el = (rw (fits, lt-ltb most (length log) l) er, rw (fits, lt-ltb most (length log) l) el)

    -- r is how the run over the rest of the log ended, left the buffer then
    module _ (l : length log ≤ most) (r : Ran) (left : List ℕ) (er : r ≡ (run_of (take (length log - p.offset) (drop p.offset log)) p.done out p.tables).answer)
        (el : left ≡ (run_of (take (length log - p.offset) (drop p.offset log)) p.done out p.tables).buffer) where
      how : (r ≡ (ran_of log out p).answer) × (left ≡ (ran_of log out p).buffer)
      how = (rw (whole_tail log p.offset) at er, rw (whole_tail log p.offset) at el)

      ending : ending_of p.offset (ran_of log out p) ≡ replay_of log out p
      unfolding replay_of pick
      ending = rw (fits, le-ltb most (length log) l) refl

      pub no_room : step_number r.answer ≡ no.no_room
          → (◌≡◌ {A = Part} (record { answer = Err NoRoom; at = r.at; place = log_place_of p.offset r }) (replay_of log out p).part) × (left ≡ (replay_of log out p).buffer)
      unfolding ending_of pick
      no_room n = rw (← ending) (rw (← how.0, ← how.1, eq-eqb (step_number r.answer) no.no_room n) (refl, refl))

      pub ends : {f : Part} {o : List ℕ} → (step_number r.answer ≡ no.no_room → ⊥) → f ≡ (last_of left r.at (step_number r.answer) (p.offset + r.offset) (log_place_of p.offset r)).part
          → o ≡ (last_of left r.at (step_number r.answer) (p.offset + r.offset) (log_place_of p.offset r)).buffer
          → (f ≡ (replay_of log out p).part) × (o ≡ (replay_of log out p).buffer)
      unfolding ending_of pick
      ends n ef eo = rw (← ending) (rw (← how.0, ← how.1, ne_eqb (step_number r.answer) no.no_room n) (ef, eo))
