-- The values that there is room for, in front of zeros. Assumes nothing.
use mathlib.Core.Path.{ap, ◌∙◌}
use Rattle.std.specs.Prelude.{◌++◌, drop, replicate, List, ℕ, length}
use Rattle.shown.specs.declared.Shown.{Shown}
use Rattle.shown.proofs.Padded.{padded_first}
use Rattle.shown.proofs.Shown.new.Goals as goal

of : ℕ → ℕ → List ℕ → Shown
of n k vs = record { number = n; values = vs; count = k }

pub returns : goal.returns
unfolding of
returns c =
    ap
    (of c.args.number (length c.args.first.now))
    (ap (λ (w : List ℕ). w ++ drop c.min-fits.result (replicate 12 0)) c.copy_from_slice.ensures.after ∙ padded_first c.args.first.now _ c.min-fits.ensures)
