-- What a run puts into its buffer, and what is left to print where it ended, are the text of its log. Assumes nothing.
use Rattle.std.specs.Prelude.{Err, Result, ⊤}
use mathlib.Core.Path.{◌≡◌, refl, sym, ap, ◌∙◌}
use mathlib.Core.List.{List, ◌++◌, append_assoc}
use Prim.Native.Nat.{ℕ, zero, suc, ◌+◌, ◌-◌, ◌<◌, ◌≤◌}
use native.Mathlib.Omega.{arith}
use lib.Dec.{eqb}
use lib.ListN.{length, take, drop, length-drop}
use lib.Seq.{drop-drop}
use borrow.Author.Tests.{ne_eqb}
use Rattle.laws.specs.Pick.{pick}
use Rattle.laws.specs.Refusals as no
use Rattle.operations.specs.declared.Tables.{Tables}
use Rattle.oplog.specs.Step.{step_number, step_of, step_out}
use Rattle.oplog.specs.Run.{Ended, ended, run_from}
use Rattle.oplog.specs.Text.{Said, said_of, text_from}
use Rattle.oplog.specs.Replay.{last_line}
use Rattle.oplog.specs.declared.StepError.TheVariants.{NoRoom}
use Rattle.oplog.specs.declared.Stepped.{Stepped}
use Rattle.oplog.proofs.Runs.{finish, turn, refuse}
use Rattle.oplog.proofs.Replays.{is_end_lem, is_bad}
use Rattle.oplog.proofs.Texts.{StepWays, took, crowded, faulty, step_ways, took_number, said_used, text_end, text_taken, text_fault, enough}
use Rattle.oplog.specs.declared.StepError.{StepError}

-- a run over `log`, which is what follows the first `from` bytes of a longer one
module _ (log : List ℕ) (from : ℕ) where
  abbrev all : ℕ
  all = length log

  -- what is left to print where a run ended
  unfoldable pub left_of : Ended → List ℕ
  left_of e =
      pick (eqb (step_number e.answer.answer) no.no_room)
      (text_from all (drop e.answer.offset log) (from + e.answer.offset) e.answer.done e.answer.tables)
      (last_line (step_number e.answer.answer) (from + e.answer.offset) e.answer.done)

  -- what a run put into its buffer, and what is left, make the text; what is left is the text from where it ended
  pub record RunPrints (e : Ended) (text : List ℕ) : Type 0 where
    pub within : e.answer.at ≤ length e.buffer
    pub says : take e.answer.at e.buffer ++ left_of e ≡ text
    pub resumes : text_from all (drop e.answer.offset log) (from + e.answer.offset) e.answer.done e.answer.tables ≡ left_of e

  abbrev Runs : ℕ → List ℕ → ℕ → List ℕ → ℕ → Tables → Type 0
  Runs k rest done out at t =
      length rest ≤ k → length rest ≤ all → rest ≡ drop (all - length rest) log → at ≤ length out →
      RunPrints (run_from all k rest done out at t) (take at out ++ text_from k rest (from + (all - length rest)) done t)

  module _ (rest : List ℕ) (done : ℕ) (out : List ℕ) (at : ℕ) (t : Tables) (w : at ≤ length out) where
    abbrev here : ℕ
    here = from + (all - length rest)

    at_end : (k : ℕ) → length rest ≤ 0 → RunPrints (run_from all k rest done out at t) (take at out ++ text_from k rest here done t)
    unfolding left_of pick
    at_end k h =
        let e = is_end_lem 0 (from + all) done refl in
        let l = length-drop all log in
        rw (finish all rest done out at t k h, text_end rest here done t k h)
        (record { within = w; says = ap (λ (x : List ℕ). take at out ++ x) (sym e); resumes = text_end (drop all log) (from + all) done t all (omega arith) ∙ e })

    module _ (k : ℕ) (h : 0 < length rest) (hk : length rest ≤ suc k) (ha : length rest ≤ all) (er : rest ≡ drop (all - length rest) log) where
      abbrev s : Stepped
      s = step_of rest (done + 1) out at t

      abbrev left : List ℕ
      left = step_out rest (done + 1) out at t

      abbrev say : Said
      say = said_of rest (done + 1) t

      abbrev Goal : Type 0
      Goal = RunPrints (run_from all (suc k) rest done out at t) (take at out ++ text_from (suc k) rest here done t)

      -- the text from here on, as it is read again
      resumed : text_from all (drop (all - length rest) log) here done t ≡ text_from (suc k) rest here done t
      resumed = ap (λ (r : List ℕ). text_from all r here done t) (sym er) ∙ enough all (suc k) rest here done t ha hk

      -- where a step was refused, its answer a
      stopped : (a : Result ⊤ StepError) → s.answer ≡ a → (step_number a ≡ 0 → ⊥) → left ≡ out →
          left_of (ended a (all - length rest) done at t out) ≡ text_from (suc k) rest here done t → Goal
      stopped a e n l x =
          rw (refuse all rest done out at t k h (λ z. n (sym (ap step_number e) ∙ z)), e, l)
          (record { within = w; says = ap (λ (z : List ℕ). take at out ++ z) x; resumes = resumed ∙ sym x })

      no_room_left : left_of (ended (Err NoRoom) (all - length rest) done at t out) ≡ text_from (suc k) rest here done t
      unfolding left_of pick
      no_room_left = resumed

      fault_left : (step_number say.answer ≡ 0 → ⊥) → (step_number say.answer ≡ no.no_room → ⊥) → left_of (ended say.answer (all - length rest) done at t out) ≡ text_from (suc k) rest here done t
      unfolding left_of pick
      fault_left n m = rw (ne_eqb (step_number say.answer) no.no_room m) (sym (is_bad (step_number say.answer) here done n) ∙ sym (text_fault rest here done t k h n))

      by_way : StepWays say out at t s left → Runs k (drop s.used rest) (done + 1) left s.at s.tables → Goal
      by_way (took a b u ts x i) again =
          let n = said_used rest (done + 1) t (took_number _ b) in
          let l = length-drop s.used rest in
          let place : (all - length rest) + s.used ≡ all - length (drop s.used rest) = omega arith in
          let offset : from + (all - length (drop s.used rest)) ≡ here + say.used = omega arith in
          let tail : drop s.used rest ≡ drop (all - length (drop s.used rest)) log =
          ap (λ (r : List ℕ). drop s.used r) er ∙ drop-drop s.used (all - length rest) log ∙ ap (λ (j : ℕ). drop j log) place in
          let text : take s.at left ++ text_from k (drop s.used rest) (from + (all - length (drop s.used rest))) (done + 1) s.tables ≡ take at out ++ text_from (suc k) rest here done t =
          rw (x, offset, u, ts) (append_assoc (take at out) say.text (text_from k (drop say.used rest) (here + say.used) (done + 1) say.tables)
          ∙ ap (λ (z : List ℕ). take at out ++ z) (sym (text_taken rest here done t k h (took_number _ b)))) in
          rw (turn all rest done out at t k h (took_number _ a), ← text) (again (omega arith) (omega arith) tail i)
      by_way (crowded e l) again = stopped (Err NoRoom) (ap (λ (x : Stepped). x.answer) e) (λ z. omega arith) l no_room_left
      by_way (faulty e n m l) again = stopped say.answer (ap (λ (x : Stepped). x.answer) e) n l (fault_left n m)

  pub run_prints : (k : ℕ) (rest : List ℕ) (done : ℕ) (out : List ℕ) (at : ℕ) (t : Tables) → Runs k rest done out at t
  run_prints zero rest done out at t hk ha er w = at_end rest done out at t w zero hk
  run_prints (suc k) rest done out at t hk ha er w = by_length (length rest) refl (run_prints k (drop (step_of rest (done + 1) out at t).used rest) (done + 1) (step_out rest (done + 1) out at t) (step_of rest (done + 1) out at t).at (step_of rest (done + 1) out at t).tables)
    where
      by_length : (n : ℕ) → length rest ≡ n → Runs k (drop (step_of rest (done + 1) out at t).used rest) (done + 1) (step_out rest (done + 1) out at t) (step_of rest (done + 1) out at t).at (step_of rest (done + 1) out at t).tables →
          RunPrints (run_from all (suc k) rest done out at t) (take at out ++ text_from (suc k) rest (from + (all - length rest)) done t)
      by_length zero e again = at_end rest done out at t w (suc k) (omega arith)
      by_length (suc n) e again = by_way rest done out at t w k (omega arith) hk ha er (step_ways rest out (done + 1) at t) again
