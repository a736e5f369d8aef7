-- The ways of a step: each fault, a line without room, a record taken. Assumes nothing.
use Rattle.std.specs.Prelude.{Err, Ok, Result}
use mathlib.Core.Path.{◌≡◌, refl, sym}
use mathlib.Core.List.{List, ◌++◌}
use Prim.Native.Nat.{ℕ, ◌+◌, ◌-◌, ◌<◌, ◌≤◌}
use native.Mathlib.Omega.{arith}
use lib.ListN.{length, take, drop}
use Rattle.shown.proofs.Read.{shown_read}
use Rattle.line.specs.Line.{line_of}
use Rattle.line.specs.Put.{written, put_of, from_tail}
use Rattle.line.specs.declared.RoomError.TheVariants.{NoRoom as Crowded}
use Rattle.line.proofs.Room as room
use Rattle.logread.specs.Read.{read_of, recorded}
use Rattle.operations.specs.Done.{packed}
use Rattle.operations.specs.Apply.{apply_of}
use Rattle.operations.specs.declared.Tables.{Tables}
use Rattle.operations.specs.declared.Outcome.{Outcome}
use Rattle.operations.proofs.Applied.{apply_few}
use Rattle.oplog.specs.Step.{refused_read, reading, writing, text_of, refused_step, step_of, step_out}
use Rattle.oplog.specs.declared.StepError.TheVariants.{NoRoom}
use Rattle.oplog.specs.declared.Stepped.{Stepped}
use Rattle.line.specs.declared.RoomError.{RoomError}
use Rattle.logread.specs.declared.ReadError.{ReadError}

module _ (log out : List ℕ) (number at : ℕ) (t : Tables) where
  pub faulty : {e : ReadError} → read_of log ≡ Err e → (refused_step at t (Err (refused_read e)) ≡ step_of log number out at t) × (out ≡ step_out log number out at t)
  unfolding step_of step_out reading
  faulty e = (rw e refl, rw e refl)

  -- d is what the operation came to
  module _ (op len : ℕ) (er : read_of log ≡ Ok (recorded op len)) (d : Outcome) (ed : d ≡ packed (apply_of op log t)) where
    abbrev line : List ℕ
    line = line_of number op d.shown.number (take d.shown.count d.shown.values)

    text : line ≡ text_of number op (apply_of op log t)
    text = rw (ed, shown_read (apply_of op log t).number (apply_of op log t).values (apply_few log t op))

    -- what the step comes to, from what writing the line comes to
    left_is : {left : List ℕ} → left ≡ written out at line → left ≡ step_out log number out at t
    unfolding step_out reading
    left_is e = rw (er, ← text) e

    crowded : put_of out at line ≡ Err Crowded → refused_step at t (Err NoRoom) ≡ step_of log number out at t
    unfolding step_of reading writing
    crowded e = rw (er, ← text, e) refl

    -- a place past the buffer's end
    pub past_end : length out < at → (refused_step at t (Err NoRoom) ≡ step_of log number out at t) × (out ≡ step_out log number out at t)
    past_end h = let r = room.no_room out at line (omega arith) in (crowded (sym r.0), left_is r.1)

    -- the tail was lent: w is what its writer answered, left the tail then
    module _ (h : at ≤ length out) (left : List ℕ) (w : Result ℕ RoomError) (ew : w ≡ put_of (take (length out - at) (drop at out)) 0 line)
        (el : left ≡ written (take (length out - at) (drop at out)) 0 line) where
      abbrev whole : List ℕ
      whole = take at out ++ (left ++ drop (length out - at) (drop at out))

      back : (from_tail at w ≡ put_of out at line) × (whole ≡ written out at line)
      back = room.lent out at line h ew el

      pub took : (n : ℕ) → w ≡ Ok n → (◌≡◌ {A = Stepped} (record { answer = Ok tt; used = len; at = at + n; tables = d.tables }) (step_of log number out at t)) × (whole ≡ step_out log number out at t)
      unfolding step_of reading writing from_tail
      took n e = (rw (er, ← text, ← back.0, e, ed) refl, left_is back.1)

      pub no_room : w ≡ Err Crowded → (refused_step at t (Err NoRoom) ≡ step_of log number out at t) × (whole ≡ step_out log number out at t)
      unfolding from_tail
      no_room e = (crowded (rw (← back.0, e) refl), left_is back.1)
