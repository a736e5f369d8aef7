-- In a run the calls of `lent` are calls of `ipc`: `lent_calls` and `lent_notes`. Assumes nothing.
use Rattle.std.specs.Prelude.{Result, ⊤}
use mathlib.Core.Path.{◌≡◌, refl, sym, ap, ◌∙◌}
use mathlib.Core.List.{List, map}
use Rattle.cap.specs.Word.{word_of}
use Rattle.cap.specs.declared.slot.Slot.{Slot}
use Rattle.ipc_rules.specs.Holds.{register_of}
use Rattle.lent.specs.Holds.{register_slots}
use Rattle.lent.proofs.AsWords.{register_as_words}
use Rattle.history.specs.Calls.{registered, answer, after}
use Rattle.history.specs.World.{World, on_creation, settled, step, Reached}
use Rattle.history.specs.Lent.{Fit, LentCalls, LentNotes}
use Rattle.history.proofs.Kept.{reached_sound}
use Rattle.history.proofs.Public.{served}
use Rattle.ipc_rules.specs.declared.answers.RegisterError.{RegisterError}
use Rattle.shown.specs.declared.Answered.{Answered}
use Rattle.ipc_rules.specs.declared.state.Table.{Table as Channels}

as_words : (w : World) → Reached w → (slots : List Slot) → Fit slots → register_of w.table (map word_of slots) ≡ register_slots w.table slots
as_words w reached slots fit = sym (register_as_words w.table slots fit ∙ served w.table _ (register_of w.table (map word_of slots)) (reached_sound reached))

pub lent_calls : LentCalls
unfolding step answer after on_creation
lent_calls w reached slots fit =
    let e = as_words w reached slots fit in
    record { answers = ap (λ (r : Answered (Result ⊤ RegisterError) Channels). registered r.answer) e; leaves = ap (λ (r : Answered (Result ⊤ RegisterError) Channels). settled w r.table) e }

pub lent_notes : LentNotes
unfolding step answer after on_creation
lent_notes w = record { authority = refl; state = refl }
