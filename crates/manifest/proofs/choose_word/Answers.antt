-- `manifest::choose_word` meets its contract. Assumes nothing.
use mathlib.Core.Path.{◌≡◌}
use Rattle.std.proofs.lemmas.Grind.{common_steps}
use native.Mathlib.Omega.{arith}
use Rattle.cap.specs.Word.{slots_of}
use Rattle.cap.proofs.Words.{slots_at, slots_length}
use Rattle.manifest.specs.Bind.{want_at, found_in}
use Rattle.manifest.proofs.choose_word.Goals as goal

pub returns : goal.returns
returns c =
    let e : c.map_or-found.result ≡ found_in (want_at c.args.entry c.args.slot) (slots_of c.args.held.now) = grind (arith, common_steps, slots_at) in
    rw (c.choose.ensures, e, slots_length)
