-- `ipc_sound::mailbox_ok` computes `mailbox_ok`. Assumes nothing.
use borrow.Author.Rules.{rules}
use Rattle.laws.proofs.Cases.{yes, no}
use Rattle.ipc_sound.specs.SoundTest.{mailbox_test, mailbox_ok}
use Rattle.ipc_sound.proofs.LastEnds.{remembered}
use Rattle.ipc_sound.proofs.mailbox_ok.Goals as goal

pub returns-then-not-is_live : goal.returns-then-not-is_live
unfolding mailbox_ok mailbox_test
returns-then-not-is_live c = no _ (search rules) (search rules)

pub ends_ok-ends-requires : goal.ends_ok-ends-requires
ends_ok-ends-requires c = let l = c.requires.last in (remembered _ _ _ l.send c.args.k c.requires.inside, remembered _ _ _ l.recv c.args.k c.requires.inside)

pub returns : goal.returns
unfolding mailbox_ok mailbox_test
returns c =
    let last = c.requires.last in
    yes _ (search rules)
    (rw (
      c.ends_ok-ends.ensures,
      last.send.last c.args.k c.requires.inside,
      last.recv.last c.args.k c.requires.inside,
      c.is_ring.ensures,
      c.waiter_test.ensures,
    ))
