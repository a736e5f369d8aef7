-- Every table of a run is sound, so that no call of a run is refused with 27. Assumes nothing.
use Rattle.std.specs.Prelude.{Err, Ok, Result, ⊤}
use mathlib.Core.Path.{◌≡◌, refl}
use mathlib.Core.List.{List, [], ◌∷◌, ◌++◌}
use Rattle.laws.proofs.Cases.{all_pick}
use Rattle.ipc_rules.specs.Sound.{Sound}
use Rattle.ipc_rules.specs.Holds.{register_of, release_of}
use Rattle.ipc_rules.specs.declared.state.Table.{Table}
use Rattle.ipc_rules.specs.declared.answers.CreateError.TheVariants.{NoMailbox, NoEndpoint, BadTable}
use Rattle.ipc_rules.proofs.Fresh.{in_range_of, fresh_sound}
use Rattle.ipc_rules.proofs.Keeps.{counts_kept}
use Rattle.ipc_rules.proofs.KeepsCalls.{send_kept, recv_kept, park_kept, registered_all_kept, released_all_kept}
use Rattle.ipc_rules.proofs.KeepsCreate.{create_kept}
use Rattle.ipc_rules.proofs.KeepsRevoke.{revoke_kept}
use Rattle.ipc_rules.proofs.KeepsClear.{clear_kept}
use Rattle.history.specs.Calls.{Call, create, send, receive, park, queued, revoke, register, release, holders, clear, note_authority, note_state, counts, Answer, created, sent, received, parked, measured, revoked, registered, released, held, cleared, noted, counted, answer, after}
use Rattle.history.specs.World.{World, if_created, on_creation, settled, born, step, run, Reached, fresh, then}
use Rattle.ipc_rules.specs.declared.answers.RegisterError.{RegisterError}
use Rattle.shown.specs.declared.Answered.{Answered}

-- ---- the table of a step is the call's
answered_table : (w : World) (u : Table) (a : Answer) → (on_creation a (settled w u) (λ ids. born w u ids.send)).table ≡ u
unfolding on_creation if_created
answered_table w u (created (Ok _)) = refl
answered_table w u (created (Err NoMailbox)) = refl
answered_table w u (created (Err NoEndpoint)) = refl
answered_table w u (created (Err BadTable)) = refl
answered_table w u (sent _) = refl
answered_table w u (received _) = refl
answered_table w u (parked _) = refl
answered_table w u (measured _) = refl
answered_table w u (revoked _) = refl
answered_table w u (registered _) = refl
answered_table w u (released _ _) = refl
answered_table w u (held _) = refl
answered_table w u (cleared _) = refl
answered_table w u (noted _) = refl
answered_table w u (counted _) = refl

pub step_table : (w : World) (c : Call) → (step w c).table ≡ after w.table c
unfolding step
step_table w c = answered_table w (after w.table c) (answer w.table c)

-- ---- each call keeps a sound table sound
pub after_sound : (t : Table) (c : Call) → Sound t → Sound (after t c)
unfolding after register_of release_of
after_sound t (create ephemeral) s = create_kept t ephemeral s
after_sound t (send c p row) s = send_kept t c p row s
after_sound t (receive c) s = recv_kept t c s
after_sound t (park c task) s = park_kept t c task s
after_sound t (queued c) s = s
after_sound t (revoke c) s = revoke_kept t c s
after_sound t (register words) s = all_pick (λ (r : Answered (Result ⊤ RegisterError) Table). Sound r.table) _ _ _ (λ _. registered_all_kept t _ s) (λ _. s)
after_sound t (release x y z v) s = released_all_kept t _ s
after_sound t (holders c) s = s
after_sound t (clear task) s = clear_kept t task s
after_sound t note_authority s = counts_kept t _ s
after_sound t note_state s = counts_kept t _ s
after_sound t counts s = s

-- ---- runs
pub step_sound : (w : World) (c : Call) → Sound w.table → Sound (step w c).table
step_sound w c s = rw (step_table w c) (after_sound w.table c s)

pub run_on : (w : World) (cs ds : List Call) → run w (cs ++ ds) ≡ run (run w cs) ds
unfolding run
run_on w [] ds = refl
run_on w (c ∷ cs) ds = run_on (step w c) cs ds

pub run_sound : (w : World) (cs : List Call) → Sound w.table → Sound (run w cs).table
unfolding run
run_sound w [] s = s
run_sound w (c ∷ cs) s = run_sound (step w c) cs (step_sound w c s)

pub reached_sound : {w : World} → Reached w → Sound w.table
reached_sound (fresh z h) = fresh_sound z (in_range_of z h)
reached_sound (then {w} r c) = step_sound w c (reached_sound r)

pub reached_run : {w : World} → Reached w → (cs : List Call) → Reached (run w cs)
unfolding run
reached_run r [] = r
reached_run {w = w} r (c ∷ cs) = reached_run {w = step w c} (then r c) cs
