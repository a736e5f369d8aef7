-- `joined::inner::spawning::spawn` meets its contract: its tests come in the rule's order, and its four calls in the rule's. Assumes
-- nothing.
use Rattle.std.specs.Prelude.{Ok, Result, ⊤}
use mathlib.Core.Path.{◌≡◌, sym, ◌∙◌}
use mathlib.Core.Bool.{Bool, true}
use mathlib.Core.List.{List}
use Prim.Native.Nat.{ℕ, ◌<◌}
use borrow.Author.Rules.{rules}
use borrow.Author.Tests.{lt-leb}
use Rattle.laws.proofs.Cases.{cases, yes, no}
use Rattle.cap.specs.Word.{words_read}
use Rattle.cap.specs.declared.slot.Slot.{Slot}
use Rattle.capslots.specs.Rows.{seed_of, drain_of}
use Rattle.capslots.specs.Table.{row_at}
use Rattle.capslots.specs.declared.Table.{Table as Rows}
use Rattle.capslots.specs.declared.Drained.{Drained}
use Rattle.ipc_rules.specs.Sound.{Sound}
use Rattle.ipc_rules.specs.Holds.{registered_all, release_of}
use Rattle.ipc_rules.specs.declared.state.Table.{Table as Channels}
use Rattle.ipc_rules.specs.declared.answers.Releasing.{Releasing}
use Rattle.ipc_rules.proofs.KeepsCalls.{released_all_kept}
use Rattle.joined.specs.Steps.{spawn_of}
use Rattle.joined.specs.declared.answers.Spawning.{Spawning}
use Rattle.joined.proofs.inner.spawning.spawn.Goals as goal
use Rattle.cap.specs.declared.word.WordError.{WordError}
use Rattle.shown.specs.declared.Answered.{Answered}

-- what a release leaves is sound
freed_sound : (channels : Channels) (slots : List Slot) {g : Releasing} → g ≡ release_of channels slots → Sound channels → Sound g.table
unfolding release_of
freed_sound channels slots g s = rw g (released_all_kept channels slots s)

-- with a list that reads and a row below 54, what the four calls leave is what the rule gives
all_four : (channels : Channels) (rows : Rows) (r : ℕ) (words : List ℕ) {q : Bool} {d : Drained} {g : Releasing} {s : Answered (Result ⊤ WordError) Rows} {h : Channels}
    → q ≡ words_read words → q ≡ true → r < 54
    → d ≡ drain_of rows r → g ≡ release_of channels d.slots → s ≡ seed_of d.table r words → h ≡ registered_all g.table (row_at s.table r).slots
    → ◌≡◌ {A = Spawning} (record { answer = Ok tt; waiters = g.waiters; channels = h; rows = s.table }) (spawn_of channels rows r words)
unfolding spawn_of
all_four channels rows r words {q} e n l d g s h =
    let w = sym e ∙ n in
    yes _ w (no _ (lt-leb 54 r l) (rw (h, s, g, d)))

pub returns-then-not-reads : goal.returns-then-not-reads
unfolding spawn_of
returns-then-not-reads c = rw (← c.words_read-reads.ensures) (search cases)

pub returns-then-row-ge-ROWS : goal.returns-then-row-ge-ROWS
unfolding spawn_of
returns-then-row-ge-ROWS c = rw (← c.words_read-reads.ensures) (search cases)

pub register_four-held-requires : goal.register_four-held-requires
register_four-held-requires c =
    let lent-sound : Sound c.args.channels = search rules in
    freed_sound _ _ c.release_holds-released.ensures lent-sound

pub returns : goal.returns
returns c = all_four _ _ _ _ c.words_read-reads.ensures c.if-not-reads.false c.if-row-ge-ROWS.false c.drain-drained.ensures c.release_holds-released.ensures c.seed-seeded.ensures c.register_four-held.ensures
