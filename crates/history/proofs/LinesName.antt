-- Where a call of an operation ends a wait, the operation's line names the task, or it is a clearing of it. Assumes nothing.
use Rattle.std.specs.Prelude.{Err, Ok, Result, ⊤}
use mathlib.Core.Path.{◌≡◌, refl, sym, ap, subst, ◌∙◌}
use mathlib.Core.Bool.{true, false}
use mathlib.Core.List.{List, [], ◌∷◌, ◌++◌}
use mathlib.Core.Logic.{◌⊎◌, inl, inr, ⊎_elim}
use Prim.Native.Nat.{ℕ, suc, ◌+◌}
use native.Mathlib.Omega.{arith}
use borrow.Author.Tests.{eqb-true}
use lib.Dec.{eqb}
use lib.ListN.{length, length-append}
use Rattle.laws.specs.Pick.{pick}
use Rattle.laws.proofs.Cases.{all_pick, not_both}
use Rattle.cap.specs.declared.slot.Slot.{Slot}
use Rattle.capslots.specs.Rows.{drain_of}
use Rattle.capslots.specs.Table.{Shape}
use Rattle.ipc_rules.specs.Answers.{waiter_values}
use Rattle.ipc_rules.specs.Sound.{Sound}
use Rattle.ipc_rules.specs.State.{mailbox_live}
use Rattle.ipc_rules.specs.Views.{waiter_of}
use Rattle.ipc_rules.specs.Waiters.{clear_of}
use Rattle.ipc_rules.specs.Why.{why_of}
use Rattle.ipc_rules.specs.declared.state.TaskId.{TaskId}
use Rattle.ipc_rules.specs.declared.state.Table.{Table}
use Rattle.ipc_rules.specs.declared.opening.Asked.TheVariants.{Send}
use Rattle.ipc_rules.proofs.AfterRegister as registers
use Rattle.joined.specs.Answers.{spawn_number, spawn_values, leave_number, leave_values}
use Rattle.joined.specs.Steps.{spawn_of, leave_of}
use Rattle.joined.specs.declared.answers.Spawning.{Spawning}
use Rattle.joined.specs.declared.answers.SpawnError.TheVariants as spawning
use Rattle.joined.specs.declared.answers.Leaving.{Leaving}
use Rattle.joined.specs.declared.answers.LeaveError.TheVariants.{BadRow, BadTable}
use Rattle.logread.specs.Little.{byte_at}
use Rattle.logread.specs.Lists.{list_slots, list_words}
use Rattle.operations.specs.Apply.{all_done, unknown_done, apply_of}
use Rattle.operations.specs.Channels.{reasoned, send_done, revoke_done, clear_done}
use Rattle.operations.specs.Done.{Done}
use Rattle.operations.specs.Holds.{release_done}
use Rattle.operations.specs.Joined.{spawn_done, leave_done}
use Rattle.operations.specs.Operands.{id_at, task_at, payload_at}
use Rattle.operations.specs.declared.Tables.{Tables}
use Rattle.history.specs.Calls.{Call, send, revoke, register, releasing, clear, answer, after}
use Rattle.history.specs.Numbers.{number_of, values_of}
use Rattle.history.specs.World.{World, on_creation, step, run}
use Rattle.history.specs.Waits.{Waits, ends, Names, by_send, by_revocation, by_release, Clears, clears, First}
use Rattle.history.specs.Joined.{if_accepted, filling, spawn_calls, leave_calls, give_calls}
use Rattle.history.specs.Operations.{Operation, all_calls, calls_of, Logged, Follows}
use Rattle.history.specs.Lines.{line_in, NamesTask, send_line, revoke_line, release_line, spawn_line, leave_line, ClearsTask}
use Rattle.history.proofs.Joined.{joined_tell, row_four}
use Rattle.history.proofs.Along.{Along, end, ◌▸◌, along_all}
use Rattle.ipc_rules.specs.declared.answers.RegisterError.{RegisterError}
use Rattle.shown.specs.declared.Answered.{Answered}
use Rattle.joined.specs.declared.answers.SpawnError.{SpawnError}
use Rattle.joined.specs.declared.answers.LeaveError.{LeaveError}

-- ---- the first of one call
record Sole (c : Call) (before : List Call) (call : Call) (behind : List Call) : Type 0 where
  pub start : before ≡ []
  pub is : call ≡ c
  pub stop : behind ≡ []

-- and of two: it is the first of them, or the second
record Former (c d : Call) (before : List Call) (call : Call) (behind : List Call) : Type 0 where
  pub start : before ≡ []
  pub is : call ≡ c
  pub rest : behind ≡ d ∷ []

sole : (c call : Call) (before behind : List Call) → c ∷ [] ≡ before ++ (call ∷ behind) → Sole c before call behind
sole c call [] behind e = record { start = refl; is = cc; stop = cc }
sole c call (b ∷ bs) behind e =
    let l : 1 ≡ suc (length bs + suc (length behind)) = ap length e ∙ ap suc (length-append bs (call ∷ behind)) in
    absurd (omega arith)

pair : (c d call : Call) (before behind : List Call) → c ∷ d ∷ [] ≡ before ++ (call ∷ behind) → Former c d before call behind ⊎ (call ≡ d)
pair c d call [] behind e = inl (record { start = refl; is = cc; rest = cc })
pair c d call (b ∷ bs) behind e = let q : d ∷ [] ≡ bs ++ (call ∷ behind) = cc in inr (sole d call bs behind q).is

no_first : {A : Type 0} (call : Call) (before behind : List Call) → [] ≡ before ++ (call ∷ behind) → A
no_first call before behind e = let l : 0 ≡ length before + suc (length behind) = ap length e ∙ length-append before (call ∷ behind) in absurd (omega arith)

-- a spawn and a leave with number 0
spawned_is : (a : Result ⊤ SpawnError) → spawn_number a ≡ 0 → a ≡ Ok tt
spawned_is (Ok tt) e = refl
spawned_is (Err spawning.BadWord) e = absurd (omega arith)
spawned_is (Err spawning.BadRow) e = absurd (omega arith)
spawned_is (Err spawning.BadTable) e = absurd (omega arith)

left_is : (a : Result ⊤ LeaveError) → leave_number a ≡ 0 → a ≡ Ok tt
left_is (Ok tt) e = refl
left_is (Err BadRow) e = absurd (omega arith)
left_is (Err BadTable) e = absurd (omega arith)

-- ---- who waits after a register has waited before it
module _ (v : World) (σ : Sound v.table) (words : List ℕ) (j : ℕ) where
  beside : {r : Answered (Result ⊤ RegisterError) Table} → registers.RegisterCallWays v.table words r → (mailbox_live r.table j ≡ mailbox_live v.table j) × (waiter_of r.table j ≡ waiter_of v.table j)
  beside (registers.bad_word _ q) = (ap (λ (r : Answered (Result ⊤ RegisterError) Table). mailbox_live r.table j) q, ap (λ (r : Answered (Result ⊤ RegisterError) Table). waiter_of r.table j) q)
  beside (registers.all _ _ a) = ((a.mailboxes j).live, (a.mailboxes j).waiter)

  waited : (n : ℕ) (x : TaskId) → Waits (run v (register words ∷ [])) n j x → Waits v n j x
  unfolding run step answer after on_creation
  waited n x y =
      let o = beside (registers.register_call_ways v.table words σ) in
      record { lives = record { live = sym o.0 ∙ y.lives.live; tenant = y.lives.tenant }; waiter = sym o.1 ∙ y.waiter }

-- ---- what the line of an operation says when one of its calls ends a wait
pub record Ending (t : Tables) (log : List ℕ) (n k : ℕ) (x : TaskId) (line : List ℕ) (behind : List Call) : Type 0 where
  pub named : NamesTask t log k x line ⊎ ClearsTask log x line
  -- through no call that it makes after that does x come to wait on channel n again
  pub over : (v : World) → Sound v.table → (j : ℕ) → Waits (run v behind) n j x → Waits v n j x

module _ (log : List ℕ) (t : Tables) where
  abbrev Says : List ℕ → ℕ → TaskId → Type 0
  Says line k x = NamesTask t log k x line ⊎ ClearsTask log x line

  -- the answer of a call names x, or it is a clearing of x
  abbrev Told : Table → ℕ → TaskId → Call → Type 0
  Told u k x c = Names u k x c ⊎ Clears x c

  -- calls of which the first that ends a wait has the task in the line
  abbrev Namer : List ℕ → List Call → Type 0
  Namer line cs = (w : World) → w.table ≡ t.channels → (n k : ℕ) (x : TaskId) (f : First w n k x cs) → Told (run w f.before).table k x f.call → Ending t log n k x line f.behind

  abbrev NamerAt : ℕ → Done → List Call → Type 0
  NamerAt op d cs = Namer (op ∷ d.number ∷ d.values) cs

  none : (line : List ℕ) → Namer line []
  none line w e n k x f _ = no_first f.call f.before f.behind f.split

  -- one call
  one : (line : List ℕ) (c : Call) → ((w : World) (n k : ℕ) (x : TaskId) → ends w n k x c ≡ true → Told t.channels k x c → Says line k x) → Namer line (c ∷ [])
  unfolding run
  one line c h w e n k x f told =
      let s = sole c f.call f.before f.behind f.split in
      let ender : ends w n k x c ≡ true = sym (λ i. ends (run w (s.start i)) n k x (s.is i)) ∙ f.ender in
      let here : Told w.table k x c = rw (s.start, s.is) at told in
      record { named = h w n k x ender (rw e at here); over = λ v _ j y. subst (λ (cs : List Call). Waits (run v cs) n j x) s.stop y }

  -- one that ends no wait
  quiet : (line : List ℕ) (c : Call) → ((w : World) (n k : ℕ) (x : TaskId) → ends w n k x c ≡ false) → Namer line (c ∷ [])
  quiet line c h = one line c (λ w n k x z _. absurd (not_both _ z (h w n k x)))

  -- one, and a register behind it
  one_then : (line : List ℕ) (c : Call) (words : List ℕ) → ((w : World) (n k : ℕ) (x : TaskId) → ends w n k x c ≡ true → Told t.channels k x c → Says line k x) → Namer line (c ∷ register words ∷ [])
  unfolding run ends
  one_then line c words h w e n k x f told =
      ⊎_elim
      (λ s.
      let ender : ends w n k x c ≡ true = sym (λ i. ends (run w (s.start i)) n k x (s.is i)) ∙ f.ender in
      let here : Told w.table k x c = rw (s.start, s.is) at told in
      record { named = h w n k x ender (rw e at here); over = λ v σ j y. waited v σ words j n x (subst (λ (cs : List Call). Waits (run v cs) n j x) s.rest y) })
      (λ q. absurd (not_both _ (sym (ap (ends (run w f.before) n k x) q) ∙ f.ender) refl))
      (pair c (register words) f.call f.before f.behind f.split)

  -- ---- the six that do
  sends : NamerAt 2 (send_done log t) (send (id_at log 3) (payload_at log 7) (byte_at log 27) ∷ [])
  unfolding send_done reasoned answer waiter_values pick
  sends = one _ _ (λ w n k x _. by k x)
    where
      by : (k : ℕ) (x : TaskId) → Told t.channels k x (send (id_at log 3) (payload_at log 7) (byte_at log 27)) → Says (2 ∷ (send_done log t).number ∷ (send_done log t).values) k x
      by k x (inl (by_send e)) = inl (send_line (ap (λ a. 2 ∷ number_of a ∷ reasoned (why_of t.channels (id_at log 3) Send) (number_of a) (values_of a)) e))
      by k x (inr x') = elim x' [ ]

  revokes : NamerAt 6 (revoke_done log t) (revoke (id_at log 3) ∷ [])
  unfolding revoke_done answer waiter_values pick
  revokes = one _ _ (λ w n k x _. by k x)
    where
      by : (k : ℕ) (x : TaskId) → Told t.channels k x (revoke (id_at log 3)) → Says (6 ∷ (revoke_done log t).number ∷ (revoke_done log t).values) k x
      by k x (inl (by_revocation e)) = inl (revoke_line (ap (λ a. 6 ∷ number_of a ∷ values_of a) e))
      by k x (inr x') = elim x' [ ]

  releases : NamerAt 8 (release_done log t) (releasing (list_slots log 3) ∷ [])
  unfolding release_done answer
  releases = one _ _ (λ w n k x _. by k x)
    where
      by : (k : ℕ) (x : TaskId) → Told t.channels k x (releasing (list_slots log 3)) → Says (8 ∷ (release_done log t).number ∷ (release_done log t).values) k x
      by k x (inl (by_release ws e g)) = inl (release_line ws (ap (λ a. 8 ∷ number_of a ∷ values_of a) e) g)
      by k x (inr x') = elim x' [ ]

  clears_it : NamerAt 10 (clear_done log t) (clear (task_at log 3) ∷ [])
  unfolding clear_done clear_of
  clears_it = one _ _ (λ w n k x _. by k x)
    where
      by : (k : ℕ) (x : TaskId) → Told t.channels k x (clear (task_at log 3)) → Says (10 ∷ (clear_done log t).number ∷ (clear_done log t).values) k x
      by k x (inl x') = elim x' [ ]
      by k x (inr clears) = inr (record { task = refl; count = _; shows = refl })

  -- ---- the joined steps
  joins : (line : List ℕ) (m : ℕ) (c : Call) → ((w : World) (n k : ℕ) (x : TaskId) → ends w n k x c ≡ false) → Namer line (if_accepted m (c ∷ []))
  unfolding if_accepted
  joins line m c h = all_pick (Namer line) (eqb m 0) (c ∷ []) [] (λ _. quiet line c h) (λ _. none line)

  module _ (shape : Shape t.rows) where
    abbrev row : List Slot
    row = (drain_of t.rows (byte_at log 3)).slots

    abbrev spawned : Spawning
    spawned = spawn_of t.channels t.rows (byte_at log 3) (list_words log 4)

    spawned_named : spawned.answer ≡ Ok tt → (k : ℕ) (x : TaskId) → Told t.channels k x (releasing row) → Says (24 ∷ (spawn_done log t).number ∷ (spawn_done log t).values) k x
    unfolding spawn_done
    spawned_named q k x (inr x') = elim x' [ ]
    spawned_named q k x (inl (by_release ws e g)) =
        let told = ((joined_tell t.channels t.rows shape).spawn (byte_at log 3) (list_words log 4) q).first in
        let same : spawned.waiters ≡ ws = cc in
        inl (spawn_line ws (λ i. 24 ∷ spawn_number (q i) ∷ spawn_values (q i) (same i)) (rw (row_four t.rows (byte_at log 3) shape) at g))

    spawns : NamerAt 24 (spawn_done log t) (spawn_calls t.channels t.rows (byte_at log 3) (list_words log 4))
    unfolding spawn_calls if_accepted
    spawns =
        all_pick (NamerAt 24 (spawn_done log t)) (eqb (spawn_number spawned.answer) 0) (releasing row ∷ filling t.channels t.rows (byte_at log 3) (list_words log 4) ∷ []) []
        (λ z. one_then _ _ _ (λ w n k x _. spawned_named (spawned_is spawned.answer (eqb-true _ _ z)) k x)) (λ _. none _)

    abbrev left : Leaving
    left = leave_of t.channels t.rows (byte_at log 3)

    left_named : left.answer ≡ Ok tt → (k : ℕ) (x : TaskId) → Told t.channels k x (releasing row) → Says (25 ∷ (leave_done log t).number ∷ (leave_done log t).values) k x
    unfolding leave_done
    left_named q k x (inr x') = elim x' [ ]
    left_named q k x (inl (by_release ws e g)) =
        let told = (joined_tell t.channels t.rows shape).leave (byte_at log 3) q in
        let same : left.waiters ≡ ws = cc in
        inl (leave_line ws (λ i. 25 ∷ leave_number (q i) ∷ leave_values (q i) (same i)) (rw (row_four t.rows (byte_at log 3) shape) at g))

    leaves : NamerAt 25 (leave_done log t) (leave_calls t.channels t.rows (byte_at log 3))
    unfolding leave_calls if_accepted
    leaves =
        all_pick (NamerAt 25 (leave_done log t)) (eqb (leave_number left.answer) 0) (releasing row ∷ []) []
        (λ z. one _ _ (λ w n k x _. left_named (left_is left.answer (eqb-true _ _ z)) k x)) (λ _. none _)

    -- ---- every operation
    all_name : Along NamerAt 0 (all_done log t) (all_calls log t)
    unfolding ends give_calls
    all_name =
        none _ ▸
        quiet _ _ (λ _ _ _ _. refl) ▸
        sends ▸
        quiet _ _ (λ _ _ _ _. refl) ▸
        quiet _ _ (λ _ _ _ _. refl) ▸
        quiet _ _ (λ _ _ _ _. refl) ▸
        revokes ▸
        quiet _ _ (λ _ _ _ _. refl) ▸
        releases ▸
        quiet _ _ (λ _ _ _ _. refl) ▸
        clears_it ▸
        quiet _ _ (λ _ _ _ _. refl) ▸
        quiet _ _ (λ _ _ _ _. refl) ▸
        none _ ▸
        none _ ▸
        none _ ▸
        none _ ▸
        none _ ▸
        none _ ▸
        none _ ▸
        none _ ▸
        none _ ▸
        none _ ▸
        none _ ▸
        spawns ▸
        leaves ▸
        joins _ _ _ (λ _ _ _ _. refl) ▸
        quiet _ _ (λ _ _ _ _. refl) ▸
        end

pub names : (s : Logged) → Follows s → (o : Operation) (n k : ℕ) (x : TaskId) (f : First s.world n k x (calls_of o s.tables)) →
    Names (run s.world f.before).table k x f.call ⊎ Clears x f.call → Ending s.tables o.bytes n k x (line_in s o) f.behind
unfolding apply_of calls_of
names s h o =
    let t = s.tables in
    along_all (NamerAt o.bytes t) (all_done o.bytes t) (all_calls o.bytes t) (unknown_done t) [] (all_name o.bytes t h.rows) (λ _. none o.bytes t _) o.number s.world h.channels
