-- The first entry that is not live, as `position` finds it, is the lowest free one. Assumes nothing.
use Rattle.std.specs.Prelude.{position}
use mathlib.Core.Path.{◌≡◌, refl}
use mathlib.Core.Bool.{Bool, true, false, not}
use mathlib.Core.List.{List}
use lib.ListN.{length}
use Rattle.laws.proofs.Chains.{position_free}
use Rattle.mint.specs.Entry.{no_entry}
use Rattle.mint.specs.Entries.{entry_at, is_live, free_entry}
use Rattle.mint.specs.declared.Entry.{Entry}

twice : (b : Bool) → b ≡ not (not b)
twice true = refl
twice false = refl

pub first_free : (es : List Entry) → position (λ (e : Entry). not e.live) es ≡ free_entry (length es) es
first_free es = position_free (λ (e : Entry). not e.live) no_entry (is_live es) (length es) es refl (λ k b. twice (entry_at es k).live)
