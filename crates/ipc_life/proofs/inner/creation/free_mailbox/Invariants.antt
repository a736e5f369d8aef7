-- What each turn of `free_mailbox` keeps, and what falls.
use mathlib.Core.Path.{◌≡◌}
use Prim.Native.Nat.{◌-◌}
use Rattle.laws.specs.Search.{lowest_free}
use Rattle.ipc_rules.specs.State.{mailbox_live}
use Rattle.ipc_rules.specs.Create.{free_mailbox}
use Rattle.ipc_life.proofs.inner.creation.free_mailbox.Given as goal

abbrev pub invariant-loop-i : goal.invariant-loop-i
invariant-loop-i l = lowest_free (mailbox_live l.t) l.i l.t.sizes.mailboxes ≡ free_mailbox l.t

abbrev pub decreases-loop-i : goal.decreases-loop-i
decreases-loop-i l = l.t.sizes.mailboxes - l.i
