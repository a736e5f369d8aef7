-- What each turn of `endpoints_ok` keeps.
use mathlib.Core.Path.{◌≡◌}
use Rattle.laws.specs.Every.{every}
use Rattle.ipc_sound.specs.SoundTest.{endpoint_ok}
use Rattle.ipc_sound.proofs.endpoints_ok.Given as goal

abbrev pub invariant-loop-i : goal.invariant-loop-i
invariant-loop-i l = l.ok ≡ every (endpoint_ok l.n l.es l.bs) l.i
