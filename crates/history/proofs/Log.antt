-- The tables of a log's run are those after its operations, `runs_over`. Assumes nothing.
use Rattle.std.specs.Prelude.{Err, Ok, Result}
use mathlib.Core.Path.{◌≡◌, refl, subst}
use mathlib.Core.List.{List, ◌∷◌}
use Prim.Native.Nat.{ℕ, zero, suc, ◌+◌, ◌-◌, ◌≤◌}
use native.Mathlib.Omega.{arith}
use borrow.Author.Tests.{eqb-true}
use lib.Dec.{eqb, ltb}
use lib.ListN.{length, take, drop}
use Rattle.laws.proofs.Cases.{all_pick}
use Rattle.line.specs.Put.{put_of}
use Rattle.line.specs.declared.RoomError.TheVariants.{NoRoom as Crowded}
use Rattle.logread.specs.Read.{read_of, recorded}
use Rattle.logread.specs.declared.ReadError.TheVariants as read
use Rattle.operations.specs.Apply.{apply_of}
use Rattle.operations.specs.declared.Tables.{Tables}
use Rattle.oplog.specs.Step.{step_number, reading, writing, text_of, refused_step, step_of}
use Rattle.oplog.specs.Run.{Ended, run_from}
use Rattle.oplog.specs.declared.StepError.TheVariants.{NoRoom}
use Rattle.oplog.specs.declared.Stepped.{Stepped}
use Rattle.history.specs.Operations.{Logged, operate, operated}
use Rattle.history.specs.Log.{records_in, RunsOver}
use Rattle.line.specs.declared.RoomError.{RoomError}
use Rattle.logread.specs.declared.Record.{Record}
use Rattle.logread.specs.declared.ReadError.{ReadError}

-- ---- a step that is taken
-- its record's operation, and the tables that it leaves
record Takes (log : List ℕ) (t : Tables) (x : Stepped) : Type 0 where
  op : ℕ
  len : ℕ
  reads : read_of log ≡ Ok (recorded op len)
  used : x.used ≡ len
  tables : x.tables ≡ (apply_of op log t).tables

module _ (log out : List ℕ) (number at : ℕ) (t : Tables) where
  module _ (op len : ℕ) (er : read_of log ≡ Ok (recorded op len)) where
    abbrev writes : Result ℕ RoomError → Stepped
    writes w = writing w (refused_step at t (Err NoRoom)) (λ next. record { answer = Ok tt; used = len; at = next; tables = (apply_of op log t).tables })

    by_writing : (w : Result ℕ RoomError) → step_number (writes w).answer ≡ 0 → Takes log t (writes w)
    unfolding writing
    by_writing (Ok next) e = record { op = op; len = len; reads = er; used = refl; tables = refl }
    by_writing (Err Crowded) e = absurd (omega arith)

  by_reading : (q : Result Record ReadError) → read_of log ≡ q → let x : Stepped = reading q (refused_step at t) (λ op len. writing (put_of out at (text_of number op (apply_of op log t))) (refused_step at t (Err NoRoom)) (λ next. record { answer = Ok tt; used = len; at = next; tables = (apply_of op log t).tables })) in
      step_number x.answer ≡ 0 → Takes log t x
  unfolding reading
  by_reading (Err read.Short) er e = absurd (omega arith)
  by_reading (Err read.BadMark) er e = absurd (omega arith)
  by_reading (Err read.BadOp) er e = absurd (omega arith)
  by_reading (Err read.BadOperand) er e = absurd (omega arith)
  by_reading (Ok r) er e = by_writing r.op r.len er _ e

  takes : step_number (step_of log number out at t).answer ≡ 0 → Takes log t (step_of log number out at t)
  unfolding step_of
  takes e = by_reading (read_of log) refl e

-- the records of what is read
records_read : (k : ℕ) (log : List ℕ) (op len : ℕ) → read_of log ≡ Ok (recorded op len) → records_in (suc k) log ≡ record { number = op; bytes = log } ∷ records_in k (drop len log)
unfolding records_in reading
records_read k log op len er = rw er

-- ---- runs
-- a run over these records, from the tables of s on, ends after n records with the tables u
abbrev Over : ℕ → List ℕ → ℕ → Logged → ℕ → Tables → Type 0
Over k rest done s n u = (done ≤ n) × (u ≡ (operated s (take (n - done) (records_in k rest))).tables)

abbrev EndsOver : ℕ → List ℕ → ℕ → Logged → Ended → Type 0
EndsOver k rest done s r = Over k rest done s r.answer.done r.answer.tables

no_more : (k : ℕ) (rest : List ℕ) (done : ℕ) (s : Logged) (u : Tables) → u ≡ s.tables → Over k rest done s done u
unfolding operated
no_more k rest done s u e = let z : done - done ≡ 0 = omega arith in (omega arith, rw z e)

one_more : (k : ℕ) (rest : List ℕ) (done : ℕ) (s : Logged) (x : Stepped) (tk : Takes rest s.tables x) (n : ℕ) (u : Tables) →
    Over k (drop x.used rest) (done + 1) (operate s (record { number = tk.op; bytes = rest })) n u → Over (suc k) rest done s n u
unfolding operated
one_more k rest done s x tk n u h =
    let l = h.0 in
    let z : n - done ≡ suc (n - (done + 1)) = omega arith in
    (omega arith, rw (z, records_read k rest tk.op tk.len tk.reads, ← tk.used) h.1)

over : (all k : ℕ) (rest : List ℕ) (done : ℕ) (out : List ℕ) (at : ℕ) (t : Tables) (s : Logged) → t ≡ s.tables → EndsOver k rest done s (run_from all k rest done out at t)
unfolding run_from operate
over all zero rest done out at t s e = no_more zero rest done s t e
over all (suc k) rest done out at t s e =
    all_pick (EndsOver (suc k) rest done s) (ltb 0 (length rest)) _ _
    (λ _. all_pick (EndsOver (suc k) rest done s) (eqb (step_number (step_of rest (done + 1) out at t).answer) 0) _ _
    (λ h. let tk = subst (λ u. Takes rest u (step_of rest (done + 1) out at t)) e (takes rest out (done + 1) at t (eqb-true (step_number (step_of rest (done + 1) out at t).answer) 0 h)) in
    one_more k rest done s (step_of rest (done + 1) out at t) tk _ _ (over all k _ (done + 1) _ _ _ (operate s (record { number = tk.op; bytes = rest })) tk.tables))
    (λ _. no_more (suc k) rest done s t e))
    (λ _. no_more (suc k) rest done s t e)

pub runs_over : RunsOver
runs_over s log out before = (over (length log) (length log) log before out 0 s.tables s refl).1
