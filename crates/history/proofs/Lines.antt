-- The line of an operation shows what its calls answer, `operations_tell`. Assumes nothing.
use Rattle.std.specs.Prelude.{Err, Ok, Result, ⊤}
use mathlib.Core.Path.{◌≡◌, refl, sym, ap, subst, ◌∙◌}
use mathlib.Core.List.Memᴰ
use mathlib.Core.List.{List, [], ◌∷◌, ◌++◌, append-nil}
use mathlib.Core.Logic.{⊎_elim}
use Prim.Native.Nat.{ℕ, ◌<◌}
use native.Mathlib.Omega.{arith}
use borrow.Author.Tests.{ne_eqb}
use lib.Dec.{eqb}
use lib.ListN.{get_or}
use Rattle.laws.specs.Pick.{pick}
use Rattle.laws.specs.Refusals as no
use Rattle.capslots.specs.Table.{Shape}
use Rattle.ipc_rules.specs.Send.{send_of}
use Rattle.ipc_rules.specs.Receive.{recv_of, park_of}
use Rattle.ipc_rules.specs.Observe.{queued_of}
use Rattle.ipc_rules.specs.Why.{why_of}
use Rattle.ipc_rules.specs.declared.state.Table.{Table}
use Rattle.ipc_rules.specs.declared.opening.Asked.TheVariants.{Send, Receive, Either}
use Rattle.joined.specs.Answers.{spawn_number, spawn_values, leave_number, leave_values, give_number, give_values}
use Rattle.joined.specs.Steps.{spawn_of, leave_of, give_of}
use Rattle.joined.specs.declared.answers.SpawnError.TheVariants as spawn
use Rattle.joined.specs.declared.answers.LeaveError.TheVariants as leave
use Rattle.joined.specs.declared.answers.GiveError.TheVariants as give
use Rattle.logread.specs.Little.{byte_at}
use Rattle.logread.specs.Lists.{list_words}
use Rattle.logread.proofs.Numbers.{below}
use Rattle.operations.specs.Apply.{all_done, unknown_done, apply_of}
use Rattle.operations.specs.Channels.{create_done, send_done, receive_done, park_done, queued_done, revoke_done, holders_done, clear_done, note_authority_done, note_state_done, counts_done}
use Rattle.operations.specs.Done.{Done}
use Rattle.operations.specs.Holds.{register_done, release_done}
use Rattle.operations.specs.Joined.{spawn_done, leave_done, give_done}
use Rattle.operations.specs.Operands.{id_at, task_at, payload_at}
use Rattle.operations.specs.declared.Tables.{Tables}
use Rattle.history.specs.Calls.{Call, send, receive, park, queued, answer}
use Rattle.history.specs.World.{World, step, answers}
use Rattle.history.specs.Numbers.{number_of, values_of}
use Rattle.history.specs.Joined.{if_accepted, spawn_calls, leave_calls, give_calls, JoinedTold}
use Rattle.history.specs.Operations.{all_calls, calls_of}
use Rattle.history.specs.Lines.{all_reasons, reason_of, all_values, Tells, OperationsTell}
use Rattle.history.proofs.Joined.{joined_tell}
use Rattle.history.proofs.Bare.{send_bare, recv_bare, park_bare, queued_bare, reason_behind, nothing_behind}
use Rattle.history.proofs.Along.{Along, end, ◌▸◌, along_all}
use Rattle.joined.specs.declared.answers.SpawnError.{SpawnError}
use Rattle.joined.specs.declared.answers.LeaveError.{LeaveError}
use Rattle.joined.specs.declared.answers.GiveError.{GiveError}

-- ---- two lines that agree, by their first number and by the rest
pub same_head : {x y : ℕ} {l m : List ℕ} → x ∷ l ≡ y ∷ m → x ≡ y
same_head e = cc

pub same_rest : {x y : ℕ} {l m : List ℕ} → x ∷ l ≡ y ∷ m → l ≡ m
same_rest e = cc

-- ---- the answers of an operation's calls
module _ (log : List ℕ) (t : Tables) where
  -- where there are calls, the line tells their answers, and behind BadCap a reason
  abbrev Told : List ℕ → Done → List Call → Type 0
  Told r d cs = (w : World) → w.table ≡ t.channels → (c : Call) (ds : List Call) → cs ≡ c ∷ ds → Tells w (c ∷ ds) r d

  abbrev ToldAt : ℕ → Done → List Call → Type 0
  ToldAt op d cs = Told (get_or (all_reasons log t) op []) d cs

  none : (r : List ℕ) (d : Done) → Told r d []
  none r d w e c ds q = let z : ◌≡◌ {A = ℕ} 0 1 = cc in absurd (omega arith)

  -- one call
  one : (r : List ℕ) (d : Done) (x : Call) → d.number ≡ number_of (answer t.channels x) →
      d.values ≡ values_of (answer t.channels x) ++ pick (eqb d.number no.bad_cap) r [] → Told r d (x ∷ [])
  unfolding answers all_values
  one r d x n v w e c ds q = subst (λ (cs : List Call). Tells w cs r d) q (record {
    number = λ a m. n ∙ ap number_of (ap (λ u. answer u x) (sym e) ∙ sym (Memᴰ.eq_of_singleton m));
    values = v ∙ ap (λ (l : List ℕ). l ++ pick (eqb d.number no.bad_cap) r []) (ap (λ u. values_of (answer u x)) (sym e) ∙ sym (append-nil _));
  })

  -- of which no line has a reason
  plain : (d : Done) (x : Call) → d.number ≡ number_of (answer t.channels x) → d.values ≡ values_of (answer t.channels x) → Told [] d (x ∷ [])
  plain d x n v = one [] d x n (v ∙ nothing_behind d.number _)

  -- two calls, of which the second shows no values on any table
  two : (d : Done) (x y : Call) → d.number ≡ number_of (answer t.channels x) → ((u : Table) → d.number ≡ number_of (answer u y)) →
      d.values ≡ values_of (answer t.channels x) → ((u : Table) → values_of (answer u y) ≡ []) → Told [] d (x ∷ y ∷ [])
  unfolding answers all_values
  two d x y n m v z w e c ds q = subst (λ (cs : List Call). Tells w cs [] d) q (record {
    number = λ a k. ⊎_elim (λ p. n ∙ ap number_of (ap (λ u. answer u x) (sym e) ∙ sym p)) (λ j. m (step w x).table ∙ ap number_of (sym (Memᴰ.eq_of_singleton j))) (Memᴰ.cases_cons k);
    values =
        v ∙ ap (λ u. values_of (answer u x)) (sym e) ∙ sym (append-nil _)
        ∙ ap (λ (l : List ℕ). values_of (answer w.table x) ++ (l ++ [])) (sym (z (step w x).table))
        ∙ nothing_behind d.number _;
  })

  -- the four whose lines may have one
  send_tells : ToldAt 2 (send_done log t) (send (id_at log 3) (payload_at log 7) (byte_at log 27) ∷ [])
  unfolding send_done answer
  send_tells = one _ (send_done log t) _ refl (reason_behind (why_of t.channels (id_at log 3) Send) _ _ (send_bare (send_of t.channels (id_at log 3) (payload_at log 7) (byte_at log 27)).answer))

  recv_tells : ToldAt 3 (receive_done log t) (receive (id_at log 3) ∷ [])
  unfolding receive_done answer
  recv_tells = one _ (receive_done log t) _ refl (reason_behind (why_of t.channels (id_at log 3) Receive) _ _ (recv_bare (recv_of t.channels (id_at log 3)).answer))

  park_tells : ToldAt 4 (park_done log t) (park (id_at log 3) (task_at log 7) ∷ [])
  unfolding park_done answer
  park_tells = one _ (park_done log t) _ refl (reason_behind (why_of t.channels (id_at log 3) Receive) _ _ (park_bare (park_of t.channels (id_at log 3) (task_at log 7)).answer))

  queued_tells : ToldAt 5 (queued_done log t) (queued (id_at log 3) ∷ [])
  unfolding queued_done answer
  queued_tells = one _ (queued_done log t) _ refl (reason_behind (why_of t.channels (id_at log 3) Either) _ _ (queued_bare (queued_of t.channels (id_at log 3))))

  -- an accepted step makes its calls
  made_two : (d : Done) (n : ℕ) (x y : Call) → n ≡ 0 → d.number ≡ number_of (answer t.channels x) → ((u : Table) → d.number ≡ number_of (answer u y)) →
      d.values ≡ values_of (answer t.channels x) → ((u : Table) → values_of (answer u y) ≡ []) → Told [] d (if_accepted n (x ∷ y ∷ []))
  unfolding if_accepted pick
  made_two d n x y e a b v z = rw e (two d x y a b v z)

  made : (d : Done) (n : ℕ) (x : Call) → n ≡ 0 → d.number ≡ number_of (answer t.channels x) → d.values ≡ values_of (answer t.channels x) → Told [] d (if_accepted n (x ∷ []))
  unfolding if_accepted pick
  made d n x e a v = rw e (plain d x a v)

  -- and a refused one none
  unmade : (d : Done) (n : ℕ) (cs : List Call) → (n ≡ 0 → ⊥) → Told [] d (if_accepted n cs)
  unfolding if_accepted pick
  unmade d n cs h = rw (ne_eqb n 0 h) (none [] d)

  module _ (bytes : (i : ℕ) → byte_at log i < 256) (shape : Shape t.rows) where
    abbrev told : JoinedTold t.channels t.rows
    told = joined_tell t.channels t.rows shape

    spawn_tells : (a : Result ⊤ SpawnError) → (spawn_of t.channels t.rows (byte_at log 3) (list_words log 4)).answer ≡ a → Told [] (spawn_done log t) (spawn_calls t.channels t.rows (byte_at log 3) (list_words log 4))
    unfolding spawn_done spawn_calls
    spawn_tells (Ok tt) e =
        let x = told.spawn (byte_at log 3) (list_words log 4) e in
        made_two _ _ _ _ (ap spawn_number e) (ap spawn_number e ∙ ap number_of (sym x.first)) (λ u. ap spawn_number e ∙ ap number_of (sym (x.then u)))
        (ap (λ a. spawn_values a (spawn_of t.channels t.rows (byte_at log 3) (list_words log 4)).waiters) e ∙ ap values_of (sym x.first)) (λ u. ap values_of (x.then u))
    spawn_tells (Err spawn.BadWord) e = unmade _ _ _ (λ z. omega (arith, ap spawn_number e))
    spawn_tells (Err spawn.BadRow) e = unmade _ _ _ (λ z. omega (arith, ap spawn_number e))
    spawn_tells (Err spawn.BadTable) e = unmade _ _ _ (λ z. omega (arith, ap spawn_number e))

    leave_tells : (a : Result ⊤ LeaveError) → (leave_of t.channels t.rows (byte_at log 3)).answer ≡ a → Told [] (leave_done log t) (leave_calls t.channels t.rows (byte_at log 3))
    unfolding leave_done leave_calls
    leave_tells (Ok tt) e =
        let x = told.leave (byte_at log 3) e in
        made _ _ _ (ap leave_number e) (ap leave_number e ∙ ap number_of (sym x))
        (ap (λ a. leave_values a (leave_of t.channels t.rows (byte_at log 3)).waiters) e ∙ ap values_of (sym x))
    leave_tells (Err leave.BadRow) e = unmade _ _ _ (λ z. omega (arith, ap leave_number e))
    leave_tells (Err leave.BadTable) e = unmade _ _ _ (λ z. omega (arith, ap leave_number e))

    give_tells : (a : Result ⊤ GiveError) → (give_of t.channels t.rows (byte_at log 3) (byte_at log 4) (id_at log 5)).answer ≡ a → Told [] (give_done log t) (give_calls t.channels t.rows (byte_at log 3) (byte_at log 4) (id_at log 5))
    unfolding give_done give_calls
    give_tells (Ok tt) e =
        let x = told.give (byte_at log 3) (byte_at log 4) (id_at log 5) (below log bytes 4 5) e in
        made _ _ _ (ap give_number e) (ap give_number e ∙ ap number_of (sym x)) (ap give_values e ∙ ap values_of (sym x))
    give_tells (Err give.BadSlot) e = unmade _ _ _ (λ z. omega (arith, ap give_number e))
    give_tells (Err give.BadTable) e = unmade _ _ _ (λ z. omega (arith, ap give_number e))

    all_tell : Along ToldAt 0 (all_done log t) (all_calls log t)
    unfolding answer create_done send_done receive_done park_done queued_done revoke_done register_done release_done holders_done clear_done note_authority_done note_state_done counts_done
    all_tell =
        none _ _ ▸
        plain _ _ refl refl ▸
        send_tells ▸
        recv_tells ▸
        park_tells ▸
        queued_tells ▸
        plain _ _ refl refl ▸
        plain _ _ refl refl ▸
        plain _ _ refl refl ▸
        plain _ _ refl refl ▸
        plain _ _ refl refl ▸
        plain _ _ refl refl ▸
        plain _ _ refl refl ▸
        none _ _ ▸
        none _ _ ▸
        none _ _ ▸
        none _ _ ▸
        none _ _ ▸
        none _ _ ▸
        none _ _ ▸
        none _ _ ▸
        none _ _ ▸
        none _ _ ▸
        none _ _ ▸
        spawn_tells _ refl ▸
        leave_tells _ refl ▸
        give_tells _ refl ▸
        plain _ _ refl refl ▸
        end

pub operations_tell : OperationsTell
unfolding apply_of calls_of reason_of
operations_tell s f o bytes =
    let t = s.tables in
    along_all (ToldAt o.bytes t) (all_done o.bytes t) (all_calls o.bytes t) (unknown_done t) [] (all_tell o.bytes t bytes f.rows) (λ _. none o.bytes t _ _)
    o.number s.world f.channels
