-- The state count over a run, `state_count_told`, and as operation 27 of a log shows it, `state_count_shown`. Assumes nothing.
use Rattle.std.specs.Prelude.{Err, Ok, Result}
use mathlib.Core.Path.{◌≡◌, refl, sym, ap, ◌∙◌}
use mathlib.Core.Bool.{Bool, true, false, ◌&&◌, ◌||◌, not}
use mathlib.Core.List.{List, [], ◌∷◌, ◌++◌}
use Prim.Native.Nat.{ℕ, zero, suc, ◌+◌, ◌≤◌}
use native.Mathlib.Nat.{add-zero}
use native.Mathlib.Omega.{arith}
use lib.Dec.{eqb, ltb}
use borrow.Author.Tests.{eqb-true, ltb-true, ltb-false, not-true}
use Rattle.laws.specs.Pick.{pick}
use Rattle.laws.specs.Refusals as no
use Rattle.laws.proofs.Cases.{all_pick, not_both}
use Rattle.laws.proofs.Every.{and_left, and_right}
use Rattle.ipc_rules.specs.State.{counts_of}
use Rattle.ipc_rules.specs.Sound.{Sound}
use Rattle.ipc_rules.specs.Counts.{raised}
use Rattle.ipc_rules.specs.Answers.{queued_number, holders_number}
use Rattle.ipc_rules.specs.Observe.{queued_of, holders_of}
use Rattle.ipc_rules.specs.Views.{counts_by, raised_by}
use Rattle.ipc_rules.specs.declared.state.Refusals.{Refusals}
use Rattle.ipc_rules.specs.declared.state.Table.{Table}
use Rattle.ipc_rules.specs.declared.answers.CapError.TheVariants as cap_error
use Rattle.ipc_rules.proofs.Held.{raised_then}
use Rattle.operations.specs.Apply.{all_done, unknown_done, apply_of}
use Rattle.operations.specs.Channels.{park_done, note_state_done, counts_done}
use Rattle.operations.specs.Done.{Done}
use Rattle.operations.specs.Operands.{id_at, task_at}
use Rattle.operations.specs.declared.Tables.{Tables}
use Rattle.history.specs.Calls.{Call, create, send, receive, park, queued, revoke, register, release, holders, clear, note_authority, note_state, counts, answer}
use Rattle.history.specs.Numbers.{number_of}
use Rattle.history.specs.World.{World, step, run, Reached, fresh, then}
use Rattle.history.specs.Refusals.{listed, counts_after}
use Rattle.history.specs.Joined.{if_accepted, spawn_calls, leave_calls, give_calls}
use Rattle.history.specs.Operations.{Operation, done_by, all_calls, calls_of, renews, Logged, operate, operated, beginning, Follows, lasting, calls_over}
use Rattle.history.specs.StateCount.{notes_state, state_refusal, state_refusals, up_to_most, state_count, state_line, state_lines, StateCountTold, StateCountShown}
use Rattle.history.proofs.Kept.{step_table, step_sound, reached_sound}
use Rattle.history.proofs.Refusals.{refusals_count, after_counts}
use Rattle.history.proofs.Along.{Along, end, ◌▸◌, along_all}
use Rattle.history.proofs.Operations.{goes_on, operations_follow, operated_follow, operations_run, logs_follow}
use Rattle.ipc_rules.specs.declared.answers.CapError.{CapError}

-- ---- by call: the state count after it, by its answer's number
-- whatever the number: Busy raises the state count, and no other number does
by_number : (n : ℕ) (x : Refusals) → (counts_by n x).state ≡ raised_by (pick (eqb n no.busy) 1 0) x.state
unfolding counts_by raised_by pick
by_number n x = by (eqb n no.bad_cap) (eqb n no.full) (eqb n no.busy) refl refl refl
  where
    by : (a f b : Bool) → eqb n no.bad_cap ≡ a → eqb n no.full ≡ f → eqb n no.busy ≡ b → (counts_by n x).state ≡ raised_by (pick (eqb n no.busy) 1 0) x.state
    by true f b p q r = let e = eqb-true n no.bad_cap p in rw e
    by false true b p q r = let e = eqb-true n no.full q in rw e
    by false false true p q r = rw (p, q, r)
    by false false false p q r = rw (p, q, r)

-- the calls that look are never Busy
queued_calm : (a : Result ℕ CapError) → eqb (queued_number a) no.busy ≡ false
queued_calm (Ok n) = refl
queued_calm (Err cap_error.BadCap) = refl
queued_calm (Err cap_error.BadTable) = refl

holders_calm : (a : Result ℕ CapError) → eqb (holders_number a) no.busy ≡ false
holders_calm (Ok n) = refl
holders_calm (Err cap_error.BadCap) = refl
holders_calm (Err cap_error.BadTable) = refl

by_call : (w : World) (c : Call) (x : Refusals) → (counts_after c (number_of (answer w.table c)) x).state ≡ raised_by (state_refusal c (number_of (answer w.table c))) x.state
unfolding answer counts_after counts_by state_refusal notes_state raised_by pick
by_call w (create b) x = by_number (number_of (answer w.table (create b))) x
by_call w (send c p row) x = by_number (number_of (answer w.table (send c p row))) x
by_call w (receive c) x = by_number (number_of (answer w.table (receive c))) x
by_call w (park c task) x = by_number (number_of (answer w.table (park c task))) x
by_call w (queued c) x = rw (queued_calm (queued_of w.table c))
by_call w (revoke c) x = by_number (number_of (answer w.table (revoke c))) x
by_call w (register words) x = by_number (number_of (answer w.table (register words))) x
by_call w (release a b c d) x = by_number (number_of (answer w.table (release a b c d))) x
by_call w (holders c) x = rw (holders_calm (holders_of w.table c))
by_call w (clear task) x = by_number (number_of (answer w.table (clear task))) x
by_call w note_authority x = refl
by_call w note_state x = refl
by_call w counts x = refl

after_call : (w : World) → Sound w.table → (c : Call) → state_count (step w c) ≡ raised_by (state_refusal c (number_of (answer w.table c))) (state_count w)
after_call w σ c = ap (λ (u : Table). (counts_of u).state) (step_table w c) ∙ ap (λ (x : Refusals). x.state) (after_counts w.table c σ) ∙ by_call w c (counts_of w.table)

-- ---- by run
told : (w : World) → Sound w.table → (cs : List Call) → state_count (run w cs) ≡ raised_by (state_refusals w cs) (state_count w)
unfolding run state_refusals raised_by
told w σ [] = refl
told w σ (c ∷ cs) =
    told (step w c) (step_sound w c σ) cs
    ∙ ap (raised_by (state_refusals (step w c) cs)) (after_call w σ c)
    ∙ raised_then (state_refusal c (number_of (answer w.table c))) (state_refusals (step w c) cs) (state_count w)

-- ---- a count raised n times is the sum, or stands at the greatest value
most_past : (n : ℕ) → 4294967295 ≤ n → up_to_most n ≡ 4294967295
unfolding up_to_most
most_past n h = all_pick (λ m. m ≡ 4294967295) (ltb n 4294967295) n 4294967295 (λ p. let l = ltb-true n 4294967295 p in omega arith) (λ _. refl)

most_within : (n : ℕ) → n ≤ 4294967295 → up_to_most n ≡ n
unfolding up_to_most
most_within n h = all_pick (λ m. m ≡ n) (ltb n 4294967295) n 4294967295 (λ _. refl) (λ p. let l = ltb-false n 4294967295 p in omega arith)

most_below : (n : ℕ) → up_to_most n ≤ 4294967295
unfolding up_to_most
most_below n = all_pick (λ m. m ≤ 4294967295) (ltb n 4294967295) n 4294967295 (λ p. let l = ltb-true n 4294967295 p in omega arith) (λ _. omega arith)

raised_most : (n count : ℕ) → count ≤ 4294967295 → raised_by n count ≡ up_to_most (count + n)
unfolding raised_by raised
raised_most zero count h = let e : count + 0 ≡ count = omega arith in rw e (sym (most_within count h))
raised_most (suc n) count h =
    all_pick (λ m. raised_by n m ≡ up_to_most (count + suc n)) (ltb count 4294967295) (count + 1) 4294967295
    (λ p. let l = ltb-true count 4294967295 p in let e : count + 1 + n ≡ count + suc n = omega arith in raised_most n (count + 1) (omega arith) ∙ ap up_to_most e)
    (λ p. let l = ltb-false count 4294967295 p in raised_most n 4294967295 (omega arith) ∙ most_past (4294967295 + n) (omega arith) ∙ sym (most_past (count + suc n) (omega arith)))

pub state_count_told : StateCountTold
state_count_told w σ below calls = told w σ calls ∙ raised_most (state_refusals w calls) (state_count w) below

-- no count of a run from a fresh table is above it
below_most : {w : World} → Reached w → state_count w ≤ 4294967295
below_most (fresh z p) = omega arith
below_most (then {w = w} r c) = rw (after_call w (reached_sound r) c, raised_most (state_refusal c (number_of (answer w.table c))) (state_count w) (below_most r)) (most_below (state_count w + state_refusal c (number_of (answer w.table c))))

-- ---- the calls of an operation, and its line
quiet_line : (op n : ℕ) → eqb op 12 ≡ false → eqb op 4 ≡ false → state_line op n ≡ 0
unfolding state_line pick
quiet_line op n h g = rw (h, g)

quiet_unknown : (op : ℕ) → state_line op no.bad_op ≡ 0
unfolding state_line pick
quiet_unknown op = by (eqb op 12) (eqb op 4)
  where
    by : (a b : Bool) → ◌≡◌ {A = ℕ} (pick (a && eqb no.bad_op no.none || b && eqb no.bad_op no.busy) 1 0) 0
    by true true = refl
    by true false = refl
    by false true = refl
    by false false = refl

-- a call that does not list Busy is never answered so
never_busy : (w : World) → Reached w → (c : Call) → listed c no.busy ≡ false → eqb (number_of (answer w.table c)) no.busy ≡ false
never_busy w r c h = by (number_of (answer w.table c)) refl (eqb (number_of (answer w.table c)) no.busy) refl
  where
    by : (n : ℕ) → number_of (answer w.table c) ≡ n → (b : Bool) → eqb n no.busy ≡ b → eqb n no.busy ≡ false
    by n q false p = p
    by n q true p = let e : number_of (answer w.table c) ≡ no.busy = q ∙ eqb-true n no.busy p in absurd (not_both (listed c no.busy) (rw e at (refusals_count w r c (λ z. omega arith)).given) h)

calm : (c : Call) (n : ℕ) → notes_state c ≡ false → eqb n no.busy ≡ false → state_refusal c n ≡ 0
unfolding state_refusal pick
calm c n h g = rw (h, g)

module _ (log : List ℕ) (t : Tables) where
  -- as many state refusals as the line tells
  abbrev Counted : ℕ → ℕ → List Call → Type 0
  Counted op n cs = (w : World) → Reached w → w.table ≡ t.channels → state_refusals w cs ≡ state_line op n

  abbrev CountedAt : ℕ → Done → List Call → Type 0
  CountedAt op d cs = Counted op d.number cs

  mute : (op n : ℕ) → state_line op n ≡ 0 → Counted op n []
  unfolding state_refusals
  mute op n h w r e = sym h

  silent : (op n : ℕ) (c : Call) → state_line op n ≡ 0 → notes_state c ≡ false → listed c no.busy ≡ false → Counted op n (c ∷ [])
  unfolding state_refusals
  silent op n c h q l w r e = rw (calm c (number_of (answer w.table c)) q (never_busy w r c l), h)

  silent_two : (op n : ℕ) (c d : Call) → state_line op n ≡ 0 → notes_state c ≡ false → listed c no.busy ≡ false → notes_state d ≡ false → listed d no.busy ≡ false → Counted op n (c ∷ d ∷ [])
  unfolding state_refusals
  silent_two op n c d h q l p m w r e =
      rw (calm c (number_of (answer w.table c)) q (never_busy w r c l), calm d (number_of (answer (step w c).table d)) p (never_busy (step w c) (then r c) d m), h)

  joins_two : (op n m : ℕ) (c d : Call) → state_line op n ≡ 0 → notes_state c ≡ false → listed c no.busy ≡ false → notes_state d ≡ false → listed d no.busy ≡ false → Counted op n (if_accepted m (c ∷ d ∷ []))
  unfolding if_accepted
  joins_two op n m c d h q l p k = all_pick (Counted op n) (eqb m 0) (c ∷ d ∷ []) [] (λ _. silent_two op n c d h q l p k) (λ _. mute op n h)

  joins : (op n m : ℕ) (c : Call) → state_line op n ≡ 0 → notes_state c ≡ false → listed c no.busy ≡ false → Counted op n (if_accepted m (c ∷ []))
  unfolding if_accepted
  joins op n m c h q l = all_pick (Counted op n) (eqb m 0) (c ∷ []) [] (λ _. silent op n c h q l) (λ _. mute op n h)

  parks : CountedAt 4 (park_done log t) (park (id_at log 3) (task_at log 7) ∷ [])
  unfolding state_refusals state_refusal notes_state answer park_done state_line
  parks w r e = rw e (add-zero _)

  notes : CountedAt 12 (note_state_done t) (note_state ∷ [])
  unfolding state_refusals state_refusal notes_state answer note_state_done state_line pick
  notes w r e = refl

  all_counted : Along CountedAt 0 (all_done log t) (all_calls log t)
  unfolding notes_state listed spawn_calls leave_calls give_calls
  all_counted =
      mute 0 _ (quiet_line 0 _ refl refl) ▸
      silent 1 _ _ (quiet_line 1 _ refl refl) refl refl ▸
      silent 2 _ _ (quiet_line 2 _ refl refl) refl refl ▸
      silent 3 _ _ (quiet_line 3 _ refl refl) refl refl ▸
      parks ▸
      silent 5 _ _ (quiet_line 5 _ refl refl) refl refl ▸
      silent 6 _ _ (quiet_line 6 _ refl refl) refl refl ▸
      silent 7 _ _ (quiet_line 7 _ refl refl) refl refl ▸
      silent 8 _ _ (quiet_line 8 _ refl refl) refl refl ▸
      silent 9 _ _ (quiet_line 9 _ refl refl) refl refl ▸
      silent 10 _ _ (quiet_line 10 _ refl refl) refl refl ▸
      silent 11 _ _ (quiet_line 11 _ refl refl) refl refl ▸
      notes ▸
      mute 13 _ (quiet_line 13 _ refl refl) ▸
      mute 14 _ (quiet_line 14 _ refl refl) ▸
      mute 15 _ (quiet_line 15 _ refl refl) ▸
      mute 16 _ (quiet_line 16 _ refl refl) ▸
      mute 17 _ (quiet_line 17 _ refl refl) ▸
      mute 18 _ (quiet_line 18 _ refl refl) ▸
      mute 19 _ (quiet_line 19 _ refl refl) ▸
      mute 20 _ (quiet_line 20 _ refl refl) ▸
      mute 21 _ (quiet_line 21 _ refl refl) ▸
      mute 22 _ (quiet_line 22 _ refl refl) ▸
      mute 23 _ (quiet_line 23 _ refl refl) ▸
      joins_two 24 _ _ _ _ (quiet_line 24 _ refl refl) refl refl refl refl ▸
      joins 25 _ _ _ (quiet_line 25 _ refl refl) refl refl ▸
      joins 26 _ _ _ (quiet_line 26 _ refl refl) refl refl ▸
      silent 27 _ _ (quiet_line 27 _ refl refl) refl refl ▸
      end

counted_line : (s : Logged) → Follows s → (o : Operation) → state_refusals s.world (calls_of o s.tables) ≡ state_line o.number (done_by o s.tables).number
unfolding apply_of calls_of
counted_line s f o =
    let t = s.tables in
    along_all (CountedAt o.bytes t) (all_done o.bytes t) (all_calls o.bytes t) (unknown_done t) [] (all_counted o.bytes t) (λ op. mute o.bytes t op no.bad_op (quiet_unknown op)) o.number s.world f.reached f.channels

-- ---- over operations
counted_on : (w : World) (cs ds : List Call) → state_refusals w (cs ++ ds) ≡ state_refusals w cs + state_refusals (run w cs) ds
unfolding state_refusals run
counted_on w [] ds = let e : 0 + state_refusals w ds ≡ state_refusals w ds = omega arith in sym e
counted_on w (c ∷ cs) ds = rw (counted_on (step w c) cs ds) (sums (state_refusal c (number_of (answer w.table c))) (state_refusals (step w c) cs) (state_refusals (run (step w c) cs) ds))
  where
    sums : (x y z : ℕ) → x + (y + z) ≡ x + y + z
    sums x y z = omega arith

counted_lines : (s : Logged) → Follows s → (os : List Operation) → lasting os ≡ true → state_refusals s.world (calls_over s os) ≡ state_lines s os
unfolding state_refusals state_lines calls_over lasting
counted_lines s f [] h = refl
counted_lines s f (o ∷ os) h =
    counted_on s.world (calls_of o s.tables) (calls_over (operate s o) os)
    ∙ rw (counted_line s f o, ← goes_on s o (not-true (renews o) (and_left (not (renews o)) (lasting os) h)), counted_lines (operate s o) (operations_follow s o f) os (and_right (not (renews o)) (lasting os) h))

pub state_count_shown : StateCountShown
unfolding apply_of counts_done
state_count_shown before later lasts log =
    let s = operated beginning before in
    let f = logs_follow before in
    let v = operated s later in
    let g = operated_follow s later f in
    let counted : (counts_of v.tables.channels).state ≡ up_to_most ((counts_of s.tables.channels).state + state_lines s later) =
    sym (ap (λ (t : Table). (counts_of t).state) g.channels) ∙ ap state_count (operations_run s later lasts)
    ∙ state_count_told s.world (reached_sound f.reached) (below_most f.reached) (calls_over s later)
    ∙ ap (λ (t : Table). up_to_most ((counts_of t).state + state_refusals s.world (calls_over s later))) f.channels
    ∙ ap (λ (n : ℕ). up_to_most ((counts_of s.tables.channels).state + n)) (counted_lines s f later lasts) in
    ap (λ (n : ℕ). 27 ∷ no.none ∷ (counts_of v.tables.channels).authority ∷ (counts_of v.tables.channels).full ∷ n ∷ []) counted
