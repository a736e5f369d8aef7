-- What each turn of `free_endpoint` keeps, and what falls.
use mathlib.Core.Path.{◌≡◌}
use Prim.Native.Nat.{◌-◌}
use Rattle.laws.specs.Search.{lowest_free}
use Rattle.ipc_rules.specs.State.{endpoint_live}
use Rattle.ipc_rules.specs.Create.{free_endpoint}
use Rattle.ipc_life.proofs.inner.creation.free_endpoint.Given as goal

abbrev pub invariant-loop-i : goal.invariant-loop-i
invariant-loop-i l = lowest_free (endpoint_live l.t) l.i l.t.sizes.endpoints ≡ free_endpoint l.t l.from

abbrev pub decreases-loop-i : goal.decreases-loop-i
decreases-loop-i l = l.t.sizes.endpoints - l.i
