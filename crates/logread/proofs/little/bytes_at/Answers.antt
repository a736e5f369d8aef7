-- `logread::little::bytes_at` meets its contract. Assumes nothing.
use mathlib.Core.Path.{◌≡◌, ◌∙◌}
use mathlib.Core.List.{List}
use native.Mathlib.Omega.{arith}
use Prim.Native.Nat.{ℕ, ◌+◌, ◌-◌, min}
use lib.ListN.{length, drop, take, get_or-eq_default, length-drop}
use lib.Seq.{take_all}
use borrow.Author.Rules.{rules}
use Rattle.std.proofs.lemmas.List.{get_or-drop}
use Rattle.logread.specs.Little.{byte_at}
use Rattle.logread.proofs.Bytes.{each_made}
use Rattle.logread.proofs.little.bytes_at.Goals as goal

-- the part that starts at a place, or at the end where the place is past it, has the bytes from the place on
from_place : (s : List ℕ) (at i m : ℕ) → m ≡ min at (length s) → byte_at (take (length s - m) (drop m s)) i ≡ byte_at s (at + i)
from_place s at i m e = grind (arith, get_or-drop, get_or-eq_default, take_all, length-drop)

pub returns-clause-each : goal.returns-clause-each
returns-clause-each g c i h =
    each_made _ (λ i y. y ≡ byte_at (take (length c.args.s.now - c.min.result) (drop c.min.result c.args.s.now)) i) _ (λ i y q k. search rules) c.from_fn.result _ i 0 c.from_fn.ensures.items.each h
    ∙ from_place c.args.s.now c.args.at i c.min.result c.min.ensures
