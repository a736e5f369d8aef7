-- Document 01, "The operation log": numbers are little-endian.
use Rattle.std.specs.Prelude.{List, ℕ, zero, suc, ◌+◌, ◌*◌, get_or}

-- the byte at a place, 0 past the end
abbrev pub byte_at : List ℕ → ℕ → ℕ
byte_at s at = get_or s at 0

-- the number of k bytes from a place on, the lowest byte first
unfoldable pub little_at : List ℕ → ℕ → ℕ → ℕ
little_at s at zero = 0
little_at s at (suc k) = byte_at s at + 256 * little_at s (at + 1) k
