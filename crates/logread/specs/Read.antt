-- Document 01, "The operation log": the mark, the operand lengths, and which bytes are a record; where they are none, the order of the
-- faults.
use Rattle.std.specs.Prelude.{Bool, not, ◌&&◌, List, [], ◌∷◌, ℕ, ◌+◌, length, get_or, ltb, eqb, Err, Ok, Result}
use Rattle.laws.specs.Pick.{pick}
use Rattle.laws.specs.Refusals as no
use Rattle.shown.specs.Shown.{of_either}
use Rattle.logread.specs.Little.{byte_at}
use Rattle.logread.specs.Operands.{operands_ok}
use Rattle.logread.specs.declared.ReadError.TheVariants.{Short, BadMark, BadOp, BadOperand}
use Rattle.logread.specs.declared.Record.{Record}
use Rattle.logread.specs.declared.ReadError.{ReadError}

-- the operand lengths by operation, 0 upward; with request No. 10 send has 25
unfoldable pub lengths : List ℕ
lengths = 3 ∷ 1 ∷ 25 ∷ 4 ∷ 8 ∷ 4 ∷ 4 ∷ 20 ∷ 20 ∷ 4 ∷ 4 ∷ 0 ∷ 0 ∷ 2 ∷ 5 ∷ 21 ∷ 6 ∷ 4 ∷ 1 ∷ 4 ∷ 4 ∷ 4 ∷ 4 ∷ 4 ∷ 21 ∷ 1 ∷ 6 ∷ 0 ∷ []

-- how many bytes of operands an operation has
unfoldable pub length_of : ℕ → ℕ
length_of op = get_or lengths op 0

-- a log starts with the mark 4B 43 (hex)
abbrev pub marked : List ℕ → Bool
marked log = eqb (byte_at log 0) 75 && eqb (byte_at log 1) 67

-- a record's operation and its whole length
abbrev pub recorded : ℕ → ℕ → Record
recorded op len = record { op = op; len = len }

-- under 2 bytes is Short; BadMark; no operation byte is Short; BadOp above 27; too few operands is Short; BadOperand; else the record, with
-- its operation and its whole length
unfoldable pub read_of : List ℕ → Result Record ReadError
read_of log =
    pick (ltb (length log) 2) (Err Short)
    (pick (not (marked log)) (Err BadMark)
    (pick (ltb (length log) 3) (Err Short)
    (pick (ltb 27 (byte_at log 2)) (Err BadOp)
    (pick (ltb (length log) (3 + length_of (byte_at log 2))) (Err Short)
    (pick (operands_ok (byte_at log 2) log) (Ok (recorded (byte_at log 2) (3 + length_of (byte_at log 2))))
    (Err BadOperand))))))

-- ---- the answer's number and values
abbrev pub read_error_number : ReadError → ℕ
read_error_number Short = no.short
read_error_number BadMark = no.bad_mark
read_error_number BadOp = no.bad_op
read_error_number BadOperand = no.bad_operand

abbrev pub record_values : Record → List ℕ
record_values r = r.op ∷ r.len ∷ []

abbrev pub read_number : Result Record ReadError → ℕ
read_number = of_either (λ _. no.none) read_error_number

abbrev pub read_values : Result Record ReadError → List ℕ
read_values = of_either record_values (λ _. [])
