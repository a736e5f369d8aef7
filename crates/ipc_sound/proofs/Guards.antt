-- The test before a call: what it settles, and that what passes it is sound. Assumes nothing.
use mathlib.Core.Path.{◌≡◌, sym, ◌∙◌}
use mathlib.Core.Bool.{Bool, true, false}
use Rattle.laws.proofs.Cases.{yes, no}
use Rattle.ipc_rules.specs.Sound.{Sound}
use Rattle.ipc_sound.specs.SoundTest.{sound_test}
use Rattle.ipc_sound.specs.Border.{guarded}
use Rattle.ipc_rules.specs.declared.state.Table.{Table}

-- q is what the test answered, as its contract says
module _ (t : Table) {q : Bool} (e : (q ≡ sound_test t) × (q ≡ true → Sound t)) where
  pub refused : {A : Type 0} {r refusal : A} (rule : A) → q ≡ false → r ≡ refusal → r ≡ guarded t refusal rule
  unfolding guarded
  refused rule n h = no rule (sym e.0 ∙ n) h

  pub served : {A : Type 0} {r rule : A} (refusal : A) → q ≡ true → r ≡ rule → r ≡ guarded t refusal rule
  unfolding guarded
  served refusal n h = yes refusal (sym e.0 ∙ n) h

  pub passed : q ≡ true → Sound t
  passed n = e.1 n
