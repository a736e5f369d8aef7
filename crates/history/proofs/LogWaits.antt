-- Demand 3's sentences on waits in a log, `log_waits_named`, and of a spawn's release, `spawns_name`. Assumes nothing.
use Rattle.std.specs.Prelude.{Err, None, Ok, Option, Result, Some, ⊤}
use mathlib.Core.Path.{◌≡◌, refl, sym, ap, subst, ◌∙◌}
use mathlib.Core.Bool.{true, false, not}
use mathlib.Core.List.{List, [], ◌∷◌, ◌++◌}
use mathlib.Core.Logic.{◌⊎◌, inl, inr, ⊎_elim}
use Prim.Native.Nat.{ℕ, ◌-◌, ◌≤◌}
use native.Mathlib.Omega.{arith}
use borrow.Author.Tests.{not-true, eq-eqb}
use Rattle.laws.specs.Pick.{pick}
use Rattle.laws.proofs.Every.{and_left, and_right, and_both}
use Rattle.cap.specs.declared.slot.Slot.{Slot}
use Rattle.capslots.specs.Rows.{drain_of}
use Rattle.ipc_rules.specs.Answers.{park_number, park_values}
use Rattle.ipc_rules.specs.Receive.{park_of}
use Rattle.ipc_rules.specs.Views.{hold_count, ephemeral_of, held_in}
use Rattle.ipc_rules.specs.Why.{why_of}
use Rattle.ipc_rules.specs.declared.state.TaskId.{TaskId}
use Rattle.ipc_rules.specs.declared.opening.Asked.TheVariants.{Receive}
use Rattle.ipc_rules.specs.declared.answers.ParkError.TheVariants.{BadCap, Busy, Cancelled, BadTable}
use Rattle.logread.specs.Little.{byte_at}
use Rattle.logread.specs.Lists.{list_words}
use Rattle.operations.specs.Apply.{apply_of}
use Rattle.operations.specs.Channels.{reasoned, park_done}
use Rattle.operations.specs.Joined.{spawn_done}
use Rattle.operations.specs.Operands.{id_at, task_at}
use Rattle.operations.specs.declared.Tables.{Tables}
use Rattle.history.specs.Calls.{Call, park, releasing, parked, answer}
use Rattle.history.specs.World.{World, run, step}
use Rattle.history.specs.Waits.{Waits, ends, Quiet, none, more, First, ParkedOn}
use Rattle.history.specs.Joined.{if_accepted, filling, spawn_calls}
use Rattle.history.specs.Operations.{Operation, done_by, calls_of, renews, Logged, operate, operated, beginning, Follows, lasting, calls_over}
use Rattle.history.specs.Lines.{line_in, ClearsTask}
use Rattle.history.specs.LogWaits.{parking, FirstIn, EndedIn, FateIn, waits, ended, NamedInLog, LogWaitsNamed, spawning, NamedBySpawn, SpawnsName}
use Rattle.history.proofs.Kept.{step_sound, run_on, run_sound, reached_sound}
use Rattle.history.proofs.Waits.{named_first, quiet_or_first, parked_named}
use Rattle.history.proofs.Operations.{goes_on, other_number, operations_follow, operated_follow, operations_run, logs_follow}
use Rattle.history.proofs.Joined.{row_four}
use Rattle.history.proofs.Lines.{same_head, same_rest}
use Rattle.history.proofs.LinesName.{names}
use Rattle.ipc_rules.specs.declared.answers.WhyError.{WhyError}
use Rattle.ipc_rules.specs.declared.state.Message.{Message}
use Rattle.ipc_rules.specs.declared.answers.ParkError.{ParkError}

-- the park of a log is the call
parks : (s : Logged) (log : List ℕ) → (operate s (parking log)).world ≡ step s.world (park (id_at log 3) (task_at log 7))
unfolding calls_of run
parks s log = goes_on s (parking log) (other_number 3 log)

park_shows : (log : List ℕ) (t : Tables) → let a = (park_of t.channels (id_at log 3) (task_at log 7)).answer in
    (done_by (parking log) t).number ∷ (done_by (parking log) t).values ≡ park_number a ∷ reasoned (why_of t.channels (id_at log 3) Receive) (park_number a) (park_values a)
unfolding apply_of park_done
park_shows log t = refl

-- `0` is Parked alone
zero_parked : (why : Result ⊤ WhyError) (a : Result (Option Message) ParkError) → park_number a ∷ reasoned why (park_number a) (park_values a) ≡ 0 ∷ 0 ∷ [] → a ≡ Ok None
unfolding reasoned pick
zero_parked why (Ok None) e = refl
zero_parked why (Ok (Some m)) e = let z : ◌≡◌ {A = ℕ} 0 1 = cc in absurd (omega arith)
zero_parked why (Err BadCap) e = let z : ◌≡◌ {A = ℕ} 0 1 = cc in absurd (omega arith)
zero_parked why (Err Busy) e = let z : ◌≡◌ {A = ℕ} 0 1 = cc in absurd (omega arith)
zero_parked why (Err Cancelled) e = let z : ◌≡◌ {A = ℕ} 0 1 = cc in absurd (omega arith)
zero_parked why (Err BadTable) e = let z : ◌≡◌ {A = ℕ} 0 1 = cc in absurd (omega arith)

-- ---- which operation comes first
-- where none of the operations is an accepted `new`, none before one of them is, nor is that one
lasting_parts : (before : List Operation) (o : Operation) (rest : List Operation) → lasting (before ++ (o ∷ rest)) ≡ true → (lasting before ≡ true) × (renews o ≡ false)
unfolding lasting
lasting_parts [] o rest h = (refl, not-true (renews o) (and_left (not (renews o)) (lasting rest) h))
lasting_parts (b ∷ before) o rest h =
    let p = lasting_parts before o rest (and_right (not (renews b)) (lasting (before ++ (o ∷ rest))) h) in
    (and_both (not (renews b)) (lasting before) (and_left (not (renews b)) (lasting (before ++ (o ∷ rest))) h) p.0, p.1)

module _ (n k : ℕ) (x : TaskId) where
  quiet_then : {w : World} {cs : List Call} (ds : List Call) → Quiet w n k x cs → Quiet (run w cs) n k x ds → Quiet w n k x (cs ++ ds)
  unfolding run
  quiet_then ds none q = q
  quiet_then ds (more e p) q = more e (quiet_then ds p q)

  -- operations are quiet, or one of them is the first that is not
  quiet_or_first_in : (v : Logged) (later : List Operation) → lasting later ≡ true → Quiet v.world n k x (calls_over v later) ⊎ FirstIn v n k x later
  unfolding calls_over operated lasting
  quiet_or_first_in v [] h = inl none
  quiet_or_first_in v (o ∷ os) h =
      let u = operate v o in
      let q = goes_on v o (not-true (renews o) (and_left (not (renews o)) (lasting os) h)) in
      let on : (ds : List Call) → Quiet v.world n k x (calls_of o v.tables) → Quiet u.world n k x ds → Quiet v.world n k x (calls_of o v.tables ++ ds) =
      λ ds p r. quiet_then ds p (subst (λ w. Quiet w n k x ds) q r) in
      ⊎_elim
      (λ p. ⊎_elim (λ r. inl (on _ p r))
      (λ f. inr (record { before = o ∷ f.before; operation = f.operation; behind = f.behind; split = ap (λ (l : List Operation). o ∷ l) f.split; quiet = on _ p f.quiet; ender = f.ender }))
      (quiet_or_first_in u os (and_right (not (renews o)) (lasting os) h)))
      (λ f. inr (record { before = []; operation = o; behind = os; split = refl; quiet = none; ender = f }))
      (quiet_or_first v.world n k x (calls_of o v.tables))

  -- a task that waits through quiet operations
  waits_in : (v : Logged) → Follows v → Waits v.world n k x → (os : List Operation) → lasting os ≡ true → Quiet v.world n k x (calls_over v os) → Waits (operated v os).world n k x
  waits_in v f h os l q = rw (operations_run v os l) (named_first v.world f.reached n k x h (calls_over v os) q).0

  -- and one whose wait an operation ends
  ends_in : (u : Logged) → Follows u → Waits u.world n k x → (o : Operation) → renews o ≡ false → First u.world n k x (calls_of o u.tables) → EndedIn u n k x o
  unfolding run
  ends_in u f h o l e =
      let a = (named_first u.world f.reached n k x h e.before e.quiet).1 e.call e.ender in
      let r = names u f o n k x e a.named in
      let v = step (run u.world e.before) e.call in
      let σ = step_sound (run u.world e.before) e.call (run_sound u.world e.before (reached_sound f.reached)) in
      let q : (operate u o).world ≡ run v e.behind =
      goes_on u o l ∙ ap (run u.world) e.split ∙ run_on u.world e.before (e.call ∷ e.behind) in
      record { named = r.named; over = λ j y. a.over j (r.over v σ j (subst (λ w. Waits w n j x) q y)) }

  fate_in : (v : Logged) → Follows v → Waits v.world n k x → (later : List Operation) → lasting later ≡ true → FateIn v n k x later
  fate_in v f h later l =
      ⊎_elim (λ q. waits q (waits_in v f h later l q))
      (λ e.
      let p = lasting_parts e.before e.operation e.behind (rw e.split at l) in
      ended e (ends_in (operated v e.before) (operated_follow v e.before f) (waits_in v f h e.before p.0 e.quiet) e.operation p.1 e.ender))
      (quiet_or_first_in v later l)

-- ---- from the park on
module _ (s : Logged) (f : Follows s) (log : List ℕ) where
  parked_on : line_in s (parking log) ≡ 4 ∷ 0 ∷ 0 ∷ [] → ParkedOn s.world (id_at log 3) (task_at log 7)
  unfolding answer
  parked_on e = parked_named s.world f.reached (id_at log 3) (task_at log 7) (rw f.channels (ap parked (zero_parked _ _ (sym (park_shows log s.tables) ∙ same_rest e))))

  named_in_log : ParkedOn s.world (id_at log 3) (task_at log 7) → NamedInLog s log
  named_in_log p =
      let v = operate s (parking log) in
      let n = s.world.tenant p.box in
      let w : Waits v.world n p.box (task_at log 7) = rw (parks s log) p.waits in
      record { number = n; box = p.box; opens = p.opens; is = refl; waits = w; fate = fate_in n p.box (task_at log 7) v (operations_follow s (parking log) f) w }

pub log_waits_named : LogWaitsNamed
log_waits_named before log e = let s = operated beginning before in let f = logs_follow before in named_in_log s f log (parked_on s f log e)

-- ---- a spawn of the row where all holds stand
module _ (s : Logged) (f : Follows s) (n k : ℕ) (x : TaskId) (log : List ℕ) where
  abbrev row : List Slot
  row = (drain_of s.tables.rows (byte_at log 3)).slots

  abbrev fills : Call
  fills = filling s.tables.channels s.tables.rows (byte_at log 3) (list_words log 4)

  -- it makes both its calls
  both_calls : (done_by (spawning log) s.tables).number ≡ 0 → calls_of (spawning log) s.tables ≡ releasing row ∷ fills ∷ []
  unfolding apply_of spawn_done calls_of spawn_calls if_accepted pick
  both_calls z = rw z

  -- of which the release ends the wait
  frees_last : ephemeral_of s.world.table k ≡ true → hold_count s.world.table k ≤ held_in s.world.table k row → ends s.world n k x (releasing row) ≡ true
  unfolding ends
  frees_last e l =
      let z : hold_count s.world.table k - held_in s.world.table k row ≡ 0 = omega arith in
      rw (row_four s.tables.rows (byte_at log 3) f.rows) (and_both (ephemeral_of s.world.table k) _ e (eq-eqb _ _ z))

  -- its line is no clearing's
  no_clearing : ClearsTask log x (line_in s (spawning log)) → ⊥
  no_clearing c = let q : ◌≡◌ {A = ℕ} 24 10 = same_head c.shows in omega arith

  named_by_spawn : Waits s.world n k x → ephemeral_of s.world.table k ≡ true → hold_count s.world.table k ≤ held_in s.world.table k row →
      (done_by (spawning log) s.tables).number ≡ 0 → NamedBySpawn s n k x log
  unfolding run
  named_by_spawn h e l z =
      let first : First s.world n k x (calls_of (spawning log) s.tables) =
      record { before = []; call = releasing row; behind = fills ∷ []; split = both_calls z; quiet = none; ender = frees_last e l } in
      let o = ends_in n k x s f h (spawning log) (other_number 23 log) first in
      record { named = ⊎_elim (λ a. a) (λ c. absurd (no_clearing c)) o.named; over = o.over }

pub spawns_name : SpawnsName
spawns_name before n k x h e log l z = named_by_spawn (operated beginning before) (logs_follow before) n k x log h e l z
