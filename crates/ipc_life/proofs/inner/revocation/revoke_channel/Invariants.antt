-- What each turn of `revoke_channel` keeps: the endpoints passed are killed where they are ends of the mailbox.
use mathlib.Core.Path.{◌≡◌}
use Rattle.laws.proofs.Through.{through}
use Rattle.ipc_rules.specs.Revoke.{killed}
use Rattle.ipc_life.proofs.inner.revocation.revoke_channel.Given as goal

abbrev pub invariant-loop-ep : goal.invariant-loop-ep
invariant-loop-ep l = l.ep-items ≡ through (killed l.k) l.ep-index l.fn.t.endpoints
