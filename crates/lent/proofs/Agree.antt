-- The calls over references agree with those on words and on the whole table. Assumes nothing.
use Rattle.std.specs.Prelude.{Err, Ok}
use mathlib.Core.Path.{◌≡◌, refl}
use mathlib.Core.Bool.{true}
use mathlib.Core.List.{List}
use Prim.Native.Nat.{ℕ}
use Rattle.laws.specs.Pick.{pick}
use Rattle.cap.specs.Word.{words_read, slots_of}
use Rattle.ipc_rules.specs.State.{with_refusals}
use Rattle.ipc_rules.specs.Holds.{register_of}
use Rattle.ipc_sound.specs.Border.{guarded, register_call, note_authority_call, note_state_call}
use Rattle.ipc_rules.specs.declared.state.Table.{Table}
use Rattle.ipc_rules.specs.declared.answers.TableError.TheVariants.{BadTable}
use Rattle.manifest.specs.Bind.{bind_slots, bind_of}
use Rattle.manifest.specs.declared.AgentEntry.{AgentEntry}
use Rattle.ipc_rules.specs.Counts.{authority_noted, state_noted}
use Rattle.lent.specs.Holds.{register_slots}

-- ---- lists of words that all read: the same answer and the same table
pub register_agrees : (t : Table) (words : List ℕ) → words_read words ≡ true → register_call t words ≡ register_slots t (slots_of words)
unfolding register_of pick
register_agrees t words h = rw h

pub bind_agrees : (e : AgentEntry) (words : List ℕ) → words_read words ≡ true → bind_of e words ≡ bind_slots e (slots_of words)
unfolding bind_of pick
bind_agrees e words h = rw h

-- ---- the note calls: on a sound table they leave its counts as the lent counts are left, and nothing else of it changes
pub authority_agrees : (t : Table) → note_authority_call t ≡ guarded t (record { answer = Err BadTable; table = t }) (record { answer = Ok tt; table = with_refusals t (authority_noted t.counters.refusals) })
authority_agrees t = refl

pub state_agrees : (t : Table) → note_state_call t ≡ guarded t (record { answer = Err BadTable; table = t }) (record { answer = Ok tt; table = with_refusals t (state_noted t.counters.refusals) })
state_agrees t = refl
