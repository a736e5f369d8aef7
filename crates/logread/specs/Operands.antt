-- Document 01, "The operation log": BadOperand (25) is a flag or presence byte above 1, or presence 0 with a non-zero id; and, with request
-- No. 10, a row from 54 up in a send.
use Rattle.std.specs.Prelude.{Bool, true, ◌||◌, List, ℕ, eqb, ltb}
use Rattle.laws.specs.Pick.{pick}
use Rattle.logread.specs.Lists.{flag_ok, list_ok}
use Rattle.logread.specs.Little.{byte_at}

-- the operations that have a flag, a list or a sending row, by their numbers
abbrev pub create : ℕ
create = 1

abbrev pub send : ℕ
send = 2

abbrev pub register : ℕ
register = 7

abbrev pub release : ℕ
release = 8

abbrev pub seed : ℕ
seed = 15

abbrev pub spawn : ℕ
spawn = 24

-- register and release have a list alone
abbrev pub starts_with_list : ℕ → Bool
starts_with_list op = eqb op register || eqb op release

-- seed and spawn have a list after the row
abbrev pub list_after_row : ℕ → Bool
list_after_row op = eqb op seed || eqb op spawn

-- a sending row is one of the 54
abbrev pub row_ok : ℕ → Bool
row_ok byte = ltb byte 54

-- the operands of the record at the log's start are well formed; create has the one flag, and send its row as its last operand
unfoldable pub operands_ok : ℕ → List ℕ → Bool
operands_ok op log =
    pick (eqb op create) (flag_ok (byte_at log 3))
    (pick (starts_with_list op) (list_ok log 3)
    (pick (list_after_row op) (list_ok log 4)
    (pick (eqb op send) (row_ok (byte_at log 27))
    true)))
