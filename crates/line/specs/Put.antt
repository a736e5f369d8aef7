-- Document 01, "The operation log and what replay prints": a line is written from the first free place of the lent answer buffer; NoRoom
-- (26) exactly when the line with its newline does not fit, and then nothing is written.
use Rattle.std.specs.Prelude.{Bool, List, [], ◌∷◌, ◌++◌, ℕ, ◌+◌, length, take, drop, leb, Err, Ok, Result}
use Rattle.laws.specs.Pick.{pick}
use Rattle.laws.specs.Refusals as no
use Rattle.shown.specs.Shown.{of_either}
use Rattle.line.specs.declared.RoomError.TheVariants.{NoRoom}
use Rattle.line.specs.declared.RoomError.{RoomError}

-- a text has room from `at` on; a place past the end has none
abbrev pub fits : List ℕ → ℕ → List ℕ → Bool
fits out at text = leb (at + length text) (length out)

-- the buffer with the text from `at` on, where it fits; else as it was
unfoldable pub written : List ℕ → ℕ → List ℕ → List ℕ
written out at text = pick (fits out at text) (take at out ++ (text ++ drop (at + length text) out)) out

-- the place past the text, or that there is no room
unfoldable pub put_of : List ℕ → ℕ → List ℕ → Result ℕ RoomError
put_of out at text = pick (fits out at text) (Ok (at + length text)) (Err NoRoom)

-- what a writer answers that was lent the tail from `at` on, as a place of the whole buffer
unfoldable pub from_tail : ℕ → Result ℕ RoomError → Result ℕ RoomError
from_tail at (Ok n) = Ok (at + n)
from_tail at (Err e) = Err e

-- ---- the answer's number and values
abbrev pub room_error_number : RoomError → ℕ
room_error_number NoRoom = no.no_room

abbrev pub written_number : Result ℕ RoomError → ℕ
written_number = of_either (λ _. no.none) room_error_number

abbrev pub written_values : Result ℕ RoomError → List ℕ
written_values = of_either (λ n. n ∷ []) (λ _. [])
