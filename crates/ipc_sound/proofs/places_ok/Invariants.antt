-- What each turn of `places_ok` keeps.
use mathlib.Core.Path.{◌≡◌}
use Rattle.laws.specs.Every.{every}
use Rattle.ipc_sound.specs.SoundTest.{place_ok}
use Rattle.ipc_sound.proofs.places_ok.Given as goal

abbrev pub invariant-loop-i : goal.invariant-loop-i
invariant-loop-i l = l.ok ≡ every (place_ok l.t) l.i
