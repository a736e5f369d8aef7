-- `ipc_sound::endpoint_ok` computes `endpoint_ok`. Assumes nothing.
use mathlib.Core.Bool.{and-false}
use Prim.Native.Nat.{◌<◌}
use native.Mathlib.Omega.{arith}
use borrow.Author.Rules.{rules}
use Rattle.laws.proofs.Cases.{yes, no}
use Rattle.laws.proofs.Lists.{unmapped}
use Rattle.ipc_sound.specs.SoundTest.{endpoint_test, endpoint_ok}
use Rattle.ipc_sound.proofs.Shapes.{no_box}
use Rattle.ipc_sound.proofs.endpoint_ok.Goals as goal

pub returns-then-not-is_live : goal.returns-then-not-is_live
unfolding endpoint_ok endpoint_test
returns-then-not-is_live c = no _ (search rules) (search rules)

pub returns-then-k-ge-MAX_MAILBOXES : goal.returns-then-k-ge-MAX_MAILBOXES
unfolding endpoint_ok endpoint_test
returns-then-k-ge-MAX_MAILBOXES c =
    let none = no_box c.args.bs.now (search (rules, unmapped)) c.from-k.result c.if-k-ge-MAX_MAILBOXES.true in
    yes _ (search rules) (simp (rw c.from-k.ensures at none, and-false))

pub returns : goal.returns
unfolding endpoint_ok endpoint_test
returns c =
    let there : c.from-k.result < 32 = omega arith in
    let last = c.requires.last in
    yes _ (search rules)
    (rw (
      c.eq-2.ensures,
      c.eq-3.ensures,
      c.eq-4.ensures,
      c.eq-5.ensures,
      c.is_live-2.ensures,
      last.send.last c.from-k.result there,
      last.recv.last c.from-k.result there,
      c.from-k.ensures,
    ))
