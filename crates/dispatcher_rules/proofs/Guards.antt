-- The test before a call: what it settles, and that what passes it is ready. Assumes nothing.
use mathlib.Core.Path.{◌≡◌, sym, ◌∙◌}
use mathlib.Core.Bool.{Bool, true, false, ◌&&◌}
use Rattle.laws.proofs.Cases.{yes, no}
use Rattle.laws.proofs.Every.{and_left, and_right}
use Rattle.ipc_rules.specs.Sound.{Sound}
use Rattle.ipc_rules.specs.declared.state.Table.{Table as Channels}
use Rattle.ipc_sound.specs.SoundTest.{sound_test}
use Rattle.dispatcher_rules.specs.Bound.{bound_test}
use Rattle.dispatcher_rules.specs.Border.{Ready, ready_test, guarded_by}
use Rattle.dispatcher_rules.specs.declared.state.Dispatcher.{Dispatcher}
use Rattle.dispatcher_rules.proofs.Binds.{bound_of}

module _ (d : Dispatcher) (t : Channels) where
  -- the two tests together
  pub both_pass : {p q : Bool} → (p ≡ sound_test t) × (p ≡ true → Sound t) → q ≡ bound_test d.count d.variants
      → ((p && q) ≡ ready_test d t) × ((p && q) ≡ true → Ready d t)
  unfolding ready_test
  both_pass {p} {q} e f =
      (simp (e.0, f), λ y. record { bound = bound_of d.count d.variants (sym f ∙ and_right p q y); sound = e.1 (and_left p q y) })

  -- q is what the test answered, as its contract says
  module _ {q : Bool} (e : (q ≡ ready_test d t) × (q ≡ true → Ready d t)) where
    pub refused : {A : Type 0} {r refusal : A} (rule : A) → q ≡ false → r ≡ refusal → r ≡ guarded_by d t refusal rule
    unfolding guarded_by
    refused rule n h = no rule (sym e.0 ∙ n) h

    pub served : {A : Type 0} {r rule : A} (refusal : A) → q ≡ true → r ≡ rule → r ≡ guarded_by d t refusal rule
    unfolding guarded_by
    served refusal n h = yes refusal (sym e.0 ∙ n) h

    pub passed : q ≡ true → Ready d t
    passed n = e.1 n
