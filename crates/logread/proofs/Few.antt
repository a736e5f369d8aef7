-- What holds of every entry of the table of operand lengths. Assumes nothing.
use mathlib.Core.Path.{refl}
use Prim.Native.Nat.{ℕ, ◌<◌, ◌≤◌}
use borrow.Author.Tests.{leb-true}
use lib.Dec.{leb}
use Rattle.laws.specs.Every.{every}
use Rattle.laws.proofs.Every.{every_at}
use Rattle.logread.specs.Read.{length_of, lengths}

-- no operation has more than 25 bytes of operands
pub operands_few : (op : ℕ) → op < 28 → length_of op ≤ 25
unfolding length_of lengths every
operands_few op h = leb-true (length_of op) 25 (every_at (λ k. leb (length_of k) 25) 28 refl op h)
