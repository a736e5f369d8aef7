-- What replay prints of a log is the lines of its operations and one more, `logs_print`. Assumes nothing.
use Rattle.std.specs.Prelude.{Ok, Err, Result}
use mathlib.Core.Path.{◌≡◌, refl, sym, ap, ◌∙◌}
use mathlib.Core.List.{List, [], ◌∷◌, ◌++◌, append_assoc}
use Prim.Native.Nat.{ℕ, zero, suc, ◌+◌, ◌≤◌}
use native.Mathlib.Omega.{arith}
use borrow.Author.Tests.{lt-ltb, le-ltb, ltb-false, eq-eqb, ne_eqb}
use lib.Dec.{eqb, ltb}
use lib.ListN.{length, drop}
use Rattle.laws.specs.Pick.{pick}
use Rattle.laws.proofs.Cases.{all_pick}
use Rattle.line.specs.Line.{bad_of}
use Rattle.logread.specs.Read.{read_of}
use Rattle.logread.specs.declared.ReadError.TheVariants as read
use Rattle.operations.specs.Apply.{apply_of}
use Rattle.operations.specs.declared.Tables.{Tables}
use Rattle.oplog.specs.Step.{step_number, reading, text_of}
use Rattle.oplog.specs.Text.{Said, fault, said_of, text_from, text_at, most}
use Rattle.history.specs.Operations.{Operation, done_by, Logged, operate, beginning}
use Rattle.history.specs.Log as log
use Rattle.history.specs.Log.{records_in, lines_of, Last, finished, Printed, LogsPrint}
use Rattle.logread.specs.declared.Record.{Record}
use Rattle.logread.specs.declared.ReadError.{ReadError}

-- ---- what a record comes to, beside the operations that it begins
data Says (k : ℕ) (rest : List ℕ) (number : ℕ) (t : Tables) (x : Said) (os : List Operation) : Type 0 where
  taken : (op : ℕ) → step_number x.answer ≡ 0 → x.text ≡ text_of number op (apply_of op rest t) → x.tables ≡ (apply_of op rest t).tables →
      os ≡ record { number = op; bytes = rest } ∷ records_in k (drop x.used rest) → Says k rest number t x os
  faulty : (step_number x.answer ≡ 0 → ⊥) → os ≡ [] → Says k rest number t x os

module _ (k : ℕ) (rest : List ℕ) (number : ℕ) (t : Tables) where
  abbrev Beside : Said → List Operation → Type 0
  Beside x os = Says k rest number t x os

  by_reading : (q : Result Record ReadError) → Beside
      (reading q (fault t) (λ op len. record { answer = Ok tt; used = len; text = text_of number op (apply_of op rest t); tables = (apply_of op rest t).tables }))
      (reading q (λ _. []) (λ op len. record { number = op; bytes = rest } ∷ records_in k (drop len rest)))
  unfolding reading
  by_reading (Err read.Short) = faulty (λ e. omega arith) refl
  by_reading (Err read.BadMark) = faulty (λ e. omega arith) refl
  by_reading (Err read.BadOp) = faulty (λ e. omega arith) refl
  by_reading (Err read.BadOperand) = faulty (λ e. omega arith) refl
  by_reading (Ok r) = taken r.op refl refl refl refl

  says : Beside (said_of rest number t) (records_in (suc k) rest)
  unfolding said_of records_in
  says = by_reading (read_of rest)

-- nothing is left: no operation
none_left : (k : ℕ) (rest : List ℕ) → length rest ≤ 0 → records_in (suc k) rest ≡ []
unfolding records_in read_of reading pick
none_left k rest h = rw (lt-ltb (length rest) 2 (omega arith))

no_fuel : (rest : List ℕ) → records_in 0 rest ≡ []
unfolding records_in
no_fuel rest = refl

-- ---- the text
stops : (before : ℕ) (s : Logged) (os : List Operation) (x : List ℕ) → os ≡ [] → Last before x → Printed before s os x
unfolding lines_of
stops before s os x e l = rw e (record { last = x; is = let z : before + 0 ≡ before = omega arith in rw z l; lines = refl })

goes_on : (before : ℕ) (s : Logged) (o : Operation) (os : List Operation) (x y : List ℕ) → x ≡ text_of (before + 1) o.number (done_by o s.tables) → Printed (before + 1) (operate s o) os y → Printed before s (o ∷ os) (x ++ y)
unfolding lines_of
goes_on before s o os x y e p =
    record {
      last = p.last;
      is = let z : before + suc (length os) ≡ before + 1 + length os = omega arith in rw z p.is;
      lines = rw (e, p.lines) (sym (append_assoc (text_of (before + 1) o.number (done_by o s.tables)) (lines_of (before + 1) (operate s o) os) p.last));
    }

-- one record, and then the rest
module _ (k : ℕ) (rest : List ℕ) (offset before : ℕ) (t : Tables) (s : Logged) (e : t ≡ s.tables) where
  abbrev said : Said
  said = said_of rest (before + 1) t

  abbrev left : List ℕ
  left = text_from k (drop said.used rest) (offset + said.used) (before + 1) said.tables

  turn : ((u : Logged) → said.tables ≡ u.tables → Printed (before + 1) u (records_in k (drop said.used rest)) left) →
      Says k rest (before + 1) t said (records_in (suc k) rest) → Printed before s (records_in (suc k) rest) (pick (eqb (step_number said.answer) 0) (said.text ++ left) (bad_of offset (step_number said.answer)))
  unfolding operate pick
  turn more (taken op n x u os) =
      rw (eq-eqb (step_number said.answer) 0 n, os) (goes_on before s (record { number = op; bytes = rest }) _ _ _ (x ∙ ap (λ v. text_of (before + 1) op (apply_of op rest v)) e)
      (more (operate s (record { number = op; bytes = rest })) (u ∙ ap (λ v. (apply_of op rest v).tables) e)))
  turn more (faulty n os) = rw (ne_eqb (step_number said.answer) 0 n) (stops before s _ _ os (log.fault offset _))

prints : (k : ℕ) (rest : List ℕ) (offset before : ℕ) (t : Tables) (s : Logged) → t ≡ s.tables → Printed before s (records_in k rest) (text_from k rest offset before t)
unfolding text_from
prints zero rest offset before t s e = stops before s _ _ (no_fuel rest) finished
prints (suc k) rest offset before t s e =
    all_pick (Printed before s (records_in (suc k) rest)) (ltb 0 (length rest)) _ _
    (λ _. turn k rest offset before t s e (prints k _ _ (before + 1) _) (says k rest (before + 1) t))
    (λ h. stops before s _ _ (none_left k rest (ltb-false 0 (length rest) h)) finished)

pub logs_print : LogsPrint
unfolding text_at pick
logs_print l h = rw (le-ltb most (length l) h) (prints (length l) l 0 0 _ beginning refl)
