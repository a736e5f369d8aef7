-- The job script: the mark, the operand lengths, and which bytes are a record; where they are none, the order of the faults, which is the
-- operation log's.
use Rattle.std.specs.Prelude.{Bool, not, ◌&&◌, List, [], ◌∷◌, ℕ, ◌+◌, length, get_or, ltb, eqb, Err, Ok, Result}
use Rattle.laws.specs.Pick.{pick}
use Rattle.logread.specs.Read.{recorded}
use Rattle.logread.specs.Little.{byte_at}
use Rattle.logread.specs.declared.ReadError.TheVariants.{Short, BadMark, BadOp}
use Rattle.logread.specs.declared.Record.{Record}
use Rattle.logread.specs.declared.ReadError.{ReadError}

-- the operand lengths by operation: new, open, close, send, receive, park, row, counts
unfoldable pub lengths : List ℕ
lengths = 100 ∷ 6 ∷ 1 ∷ 22 ∷ 2 ∷ 6 ∷ 1 ∷ 0 ∷ []

-- how many bytes of operands an operation has
unfoldable pub length_of : ℕ → ℕ
length_of op = get_or lengths op 0

-- a record starts with the mark 4B 4A (hex)
abbrev pub marked : List ℕ → Bool
marked script = eqb (byte_at script 0) 75 && eqb (byte_at script 1) 74

-- under 2 bytes is Short; BadMark; no operation byte is Short; BadOp above 7; too few operands is Short; else the record, with its operation
-- and its whole length
unfoldable pub job_read_of : List ℕ → Result Record ReadError
job_read_of script =
    pick (ltb (length script) 2) (Err Short)
    (pick (not (marked script)) (Err BadMark)
    (pick (ltb (length script) 3) (Err Short)
    (pick (ltb 7 (byte_at script 2)) (Err BadOp)
    (pick (ltb (length script) (3 + length_of (byte_at script 2))) (Err Short)
    (Ok (recorded (byte_at script 2) (3 + length_of (byte_at script 2))))))))
