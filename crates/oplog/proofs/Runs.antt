-- The turns of a run over the log. Assumes nothing.
use Rattle.std.specs.Prelude.{Err, Ok, Result, ⊤}
use mathlib.Core.Path.{◌≡◌, refl, sym, ap, ◌∙◌}
use mathlib.Core.List.{List}
use Prim.Native.Nat.{ℕ, zero, suc, ◌+◌, ◌-◌, ◌<◌, ◌≤◌}
use native.Mathlib.Omega.{arith}
use lib.ListN.{length, take, drop, length-drop}
use borrow.Author.Tests.{lt-ltb, le-ltb, eq-eqb, ne_eqb}
use Rattle.laws.specs.Pick.{pick}
use Rattle.line.specs.declared.RoomError.TheVariants.{NoRoom as Crowded}
use Rattle.line.proofs.Room.{whole_tail}
use Rattle.logread.specs.Read.{read_of, recorded}
use Rattle.logread.specs.declared.ReadError.TheVariants as read
use Rattle.logread.proofs.Records.{whole}
use Rattle.ipc_rules.specs.Sound.{Sound}
use Rattle.operations.specs.declared.Tables.{Tables}
use Rattle.operations.proofs.Applied.{apply_kept}
use Rattle.oplog.specs.Step.{step_number, reading, writing, step_of, step_out}
use Rattle.oplog.specs.Run.{Ended, ended, run_from}
use Rattle.oplog.specs.declared.StepError.TheVariants.{Short, BadMark, BadOp, BadOperand}
use Rattle.oplog.specs.declared.Stepped.{Stepped}
use Rattle.oplog.specs.declared.Ran.{Ran}
use Rattle.oplog.specs.declared.StepError.{StepError}
use Rattle.line.specs.declared.RoomError.{RoomError}
use Rattle.logread.specs.declared.Record.{Record}
use Rattle.logread.specs.declared.ReadError.{ReadError}

-- a part to the end
pub tail_long : (out : List ℕ) (at : ℕ) → length (take (length out - at) (drop at out)) ≡ length out - at
tail_long out at = rw (whole_tail out at) (length-drop at out)

-- ---- what a step does to the log and the tables
all_reading : {A : Type 0} (P : A → Type 0) (q : Result Record ReadError) (f : Result ⊤ StepError → A) (g : ℕ → ℕ → A) → P (f (Err Short)) → P (f (Err BadMark)) → P (f (Err BadOp)) → P (f (Err BadOperand)) → ((op len : ℕ) → q ≡ Ok (recorded op len) → P (g op len)) → P (reading q f g)
unfolding reading
all_reading P (Err read.Short) f g x y z v w = x
all_reading P (Err read.BadMark) f g x y z v w = y
all_reading P (Err read.BadOp) f g x y z v w = z
all_reading P (Err read.BadOperand) f g x y z v w = v
all_reading P (Ok r) f g x y z v w = w r.op r.len refl

all_writing : {A : Type 0} (P : A → Type 0) (q : Result ℕ RoomError) (x : A) (g : ℕ → A) → P x → ((n : ℕ) → P (g n)) → P (writing q x g)
unfolding writing
all_writing P (Err Crowded) x g a b = a
all_writing P (Ok n) x g a b = b n

-- a step that is not refused uses its record, of three bytes or more
abbrev Used : List ℕ → Stepped → Type 0
Used log s = step_number s.answer ≡ 0 → (3 ≤ s.used) × (s.used ≤ length log)

pub used : (log out : List ℕ) (number at : ℕ) (t : Tables) → Used log (step_of log number out at t)
unfolding step_of
used log out number at t =
    all_reading (Used log) (read_of log) _ _ (λ e. absurd (omega arith)) (λ e. absurd (omega arith)) (λ e. absurd (omega arith)) (λ e. absurd (omega arith)) (λ op len r.
    all_writing (Used log) _ _ _ (λ e. absurd (omega arith)) (λ next e. let w = whole log op len r in (omega (arith, w.counted), w.within)))

-- a step keeps the channel table sound
pub step_kept : (log out : List ℕ) (number at : ℕ) (t : Tables) → Sound t.channels → Sound (step_of log number out at t).tables.channels
unfolding step_of
step_kept log out number at t s =
    all_reading (λ (r : Stepped). Sound r.tables.channels) (read_of log) _ _ s s s s (λ op len _.
    all_writing (λ (r : Stepped). Sound r.tables.channels) _ _ _ s (λ _. apply_kept log t op s))

-- ---- the turns
module _ (all : ℕ) (rest : List ℕ) (done : ℕ) (out : List ℕ) (at : ℕ) (t : Tables) where
  pub finish : (k : ℕ) → length rest ≤ 0 → run_from all k rest done out at t ≡ ended (Ok tt) all done at t out
  unfolding run_from pick
  finish zero h = refl
  finish (suc k) h = rw (le-ltb 0 (length rest) h) refl

  module _ (k : ℕ) (h : 0 < length rest) where
    pub turn : step_number (step_of rest (done + 1) out at t).answer ≡ 0 →
        run_from all (suc k) rest done out at t ≡ run_from all k (drop (step_of rest (done + 1) out at t).used rest) (done + 1) (step_out rest (done + 1) out at t) (step_of rest (done + 1) out at t).at (step_of rest (done + 1) out at t).tables
    unfolding run_from pick
    turn e = rw (lt-ltb 0 (length rest) h, eq-eqb (step_number (step_of rest (done + 1) out at t).answer) 0 e) refl

    pub refuse : (step_number (step_of rest (done + 1) out at t).answer ≡ 0 → ⊥) →
        run_from all (suc k) rest done out at t ≡ ended (step_of rest (done + 1) out at t).answer (all - length rest) done at t (step_out rest (done + 1) out at t)
    unfolding run_from pick
    refuse e = rw (lt-ltb 0 (length rest) h, ne_eqb (step_number (step_of rest (done + 1) out at t).answer) 0 e) refl

-- ---- the same, as the code has a turn: s is what the step gave, left the buffer then, and E how the whole run ends
module _ (all : ℕ) (rest : List ℕ) (done : ℕ) (out : List ℕ) (at : ℕ) (t : Tables) (E : Ended) where
  pub last : (k : ℕ) → length rest ≤ 0 → run_from all k rest done out at t ≡ E →
      (◌≡◌ {A = Ran} (record { answer = Ok tt; offset = all; done = done; at = at; tables = t }) E.answer) × (out ≡ E.buffer)
  last k h i =
      let q : ended (Ok tt) all done at t out ≡ E = sym (finish all rest done out at t k h) ∙ i in
      (ap (λ (x : Ended). x.answer) q, ap (λ (x : Ended). x.buffer) q)

  module _ (f k : ℕ) (m : f ≡ suc k) (h : 0 < length rest) (i : run_from all f rest done out at t ≡ E)
      (s : Stepped) (left : List ℕ) (es : s ≡ step_of rest (done + 1) out at t) (el : left ≡ step_out rest (done + 1) out at t) where
    pub stops : (step_number s.answer ≡ 0 → ⊥) →
        (◌≡◌ {A = Ran} (record { answer = s.answer; offset = all - length rest; done = done; at = at; tables = t }) E.answer) × (left ≡ E.buffer)
    stops e =
        let q : ended s.answer (all - length rest) done at t left ≡ E = rw (es, el) (sym (refuse all rest done out at t k h (rw es at e)) ∙ (rw m at i)) in
        (ap (λ (x : Ended). x.answer) q, ap (λ (x : Ended). x.buffer) q)

    pub within : step_number s.answer ≡ 0 → (3 ≤ s.used) × (s.used ≤ length rest)
    within e = rw es (used rest out (done + 1) at t (rw es at e))

    pub goes : step_number s.answer ≡ 0 → run_from all k (take (length rest - s.used) (drop s.used rest)) (done + 1) left s.at s.tables ≡ E
    goes e = rw (whole_tail rest s.used, es, el) (sym (turn all rest done out at t k h (rw es at e)) ∙ (rw m at i))

    pub still_sound : Sound t.channels → Sound s.tables.channels
    still_sound x = rw es (step_kept rest out (done + 1) at t x)
