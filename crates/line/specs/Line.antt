-- Document 01, "The operation log and what replay prints": a line is numbers in decimal, one space between, and ends in a newline; the
-- last line is `end` and the number of records, or `bad`, the record's offset and the fault's number.
use Rattle.std.specs.Prelude.{List, [], ◌∷◌, ◌++◌, ℕ, zero, suc, ◌+◌, ◌/◌, ◌%◌, ltb}
use Rattle.laws.specs.Pick.{pick}

-- the decimal digits of n, where k places are enough: those of the tens, then that of the units
unfoldable pub decimal_in : ℕ → ℕ → List ℕ
decimal_in zero n = []
decimal_in (suc k) n = pick (ltb n 10) ((48 + n) ∷ []) (decimal_in k (n / 10) ++ ((48 + n % 10) ∷ []))

-- the decimal digits of a number of 64 bits, which has at most 20
abbrev pub decimal_of : ℕ → List ℕ
decimal_of n = decimal_in 20 n

-- each number after one space
unfoldable pub spaced_of : List ℕ → List ℕ
spaced_of [] = []
spaced_of (n ∷ ns) = 32 ∷ (decimal_of n ++ spaced_of ns)

-- the rest of a line: the numbers and the newline
abbrev pub closed_by : List ℕ → List ℕ
closed_by ns = spaced_of ns ++ (10 ∷ [])

-- a line that starts with a head
abbrev pub text_of : List ℕ → List ℕ → List ℕ
text_of head ns = head ++ closed_by ns

-- the line of a record: its number, the operation, 0 or the refusal's number, the values
abbrev pub line_of : ℕ → ℕ → ℕ → List ℕ → List ℕ
line_of number op answer values = text_of (decimal_of number) (op ∷ answer ∷ values)

-- the word `end` and the number of records
abbrev pub end_of : ℕ → List ℕ
end_of records = text_of (101 ∷ 110 ∷ 100 ∷ []) (records ∷ [])

-- the word `bad`, the record's offset and the fault's number
abbrev pub bad_of : ℕ → ℕ → List ℕ
bad_of offset fault = text_of (98 ∷ 97 ∷ 100 ∷ []) (offset ∷ fault ∷ [])
