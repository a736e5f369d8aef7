-- Document 01, "The operation log": "A step reads one record and hands on the log from the end of that record." The operations of a log
-- are its records', one after the other up to its first fault; at any time of a run, the tables are those after as many of them as there
-- are lines.
use Rattle.std.specs.Prelude.{◌≡◌, List, [], ◌∷◌, ◌++◌, ℕ, zero, suc, ◌+◌, ◌-◌, ◌≤◌, length, take, drop}
use Rattle.line.specs.Line.{decimal_of, text_of, end_of, bad_of}
use Rattle.logread.specs.Read.{read_of}
use Rattle.oplog.specs.Step.{reading}
use Rattle.oplog.specs.Run.{run_of}
use Rattle.oplog.specs.Text.{most, replay_text}
use Rattle.oplog.specs.declared.Ran.{Ran}
use Rattle.history.specs.Operations.{Operation, Logged, operate, operated, beginning}
use Rattle.history.specs.Lines.{line_in}

-- the operations of a log, of k records at most
unfoldable pub records_in : ℕ → List ℕ → List Operation
records_in zero log = []
records_in (suc k) log =
    reading (read_of log) (λ _. []) (λ op len. record { number = op; bytes = log } ∷ records_in k (drop len log))

-- a record takes three bytes or more
abbrev pub records_of : List ℕ → List Operation
records_of log = records_in (length log) log

-- a run that goes on from the tables of s after `before` records, and ends as r
abbrev pub ran_over : Logged → List ℕ → ℕ → Ran → Logged
ran_over s log before r = operated s (take (r.done - before) (records_of log))

abbrev pub RunsOver : Type 0
RunsOver = (s : Logged) (log out : List ℕ) (before : ℕ) → let r = (run_of log before out s.tables).answer in r.tables ≡ (ran_over s log before r).tables

-- ---- what replay prints
-- the lines of operations, after `before` records: each is its record's number and then `line_in`, in decimal
unfoldable pub lines_of : ℕ → Logged → List Operation → List ℕ
lines_of before s [] = []
lines_of before s (o ∷ os) = text_of (decimal_of (before + 1)) (line_in s o) ++ lines_of (before + 1) (operate s o) os

-- the last line, after n records
pub data Last (n : ℕ) : List ℕ → Type 0 where
  finished : Last n (end_of n)
  fault : (offset number : ℕ) → Last n (bad_of offset number)

-- a text that is their lines and the last one
pub record Printed (before : ℕ) (s : Logged) (os : List Operation) (text : List ℕ) : Type 0 where
  pub last : List ℕ
  pub is : Last (before + length os) last
  pub lines : text ≡ lines_of before s os ++ last

abbrev pub LogsPrint : Type 0
LogsPrint = (log : List ℕ) → length log ≤ most → Printed 0 beginning (records_of log) (replay_text log)
