-- What each turn of `mailboxes_ok` keeps.
use mathlib.Core.Path.{◌≡◌}
use Rattle.laws.specs.Every.{every}
use Rattle.ipc_sound.specs.SoundTest.{mailbox_ok}
use Rattle.ipc_sound.proofs.mailboxes_ok.Given as goal

abbrev pub invariant-loop-k : goal.invariant-loop-k
invariant-loop-k l = l.ok ≡ every (mailbox_ok l.m l.d l.es l.bs) l.k
