-- Request No. 6 in a log, `log_reasons_shown`. Assumes nothing.
use Rattle.shown.proofs.Few.{shows_nothing}
use Rattle.std.specs.Prelude.{Err, Result, ⊤}
use mathlib.Core.Path.{◌≡◌, refl, sym, ap, ◌∙◌}
use mathlib.Core.List.{List, [], ◌∷◌}
use Prim.Native.Nat.{ℕ}
use native.Mathlib.Omega.{arith}
use mathlib.Core.Bool.{not}
use lib.Dec.{eqb}
use lib.ListN.{get_or}
use Rattle.laws.specs.Refusals as no
use Rattle.laws.proofs.Cases.{all_pick}
use Rattle.capslots.specs.Rows.{get_of}
use Rattle.irqcap.specs.Table as irqs
use Rattle.taskcap.specs.Table as tasks
use Rattle.ipc_rules.specs.Answers.{send_number, send_values, recv_number, recv_values, park_number, park_values, queued_number, queued_values}
use Rattle.ipc_rules.specs.Create.{create_of}
use Rattle.ipc_rules.specs.Send.{send_of}
use Rattle.ipc_rules.specs.Receive.{recv_of, park_of}
use Rattle.ipc_rules.specs.Observe.{queued_of, holders_of, refusals_of}
use Rattle.ipc_rules.specs.Revoke.{revoke_of}
use Rattle.ipc_rules.specs.Holds.{release_of}
use Rattle.ipc_rules.specs.Waiters.{clear_of}
use Rattle.ipc_rules.specs.Why.{why_of, why_values, Explains}
use Rattle.ipc_rules.specs.declared.answers.WhyError.TheVariants.{Shut}
use Rattle.ipc_rules.specs.declared.opening.Asked.{Asked}
use Rattle.ipc_rules.specs.declared.opening.Asked.TheVariants.{Send, Receive, Either}
use Rattle.ipc_rules.specs.declared.opening.Reason.{Reason}
use Rattle.ipc_rules.proofs.Why.{reasons_told}
use Rattle.joined.specs.Steps.{spawn_of, leave_of}
use Rattle.logread.specs.Little.{byte_at, little_at}
use Rattle.logread.specs.Lists.{list_slots, list_words}
use Rattle.operations.specs.Apply.{all_done, unknown_done, apply_of}
use Rattle.operations.specs.Channels.{reasoned, new_done, create_done, send_done, receive_done, park_done, queued_done, revoke_done, holders_done, clear_done, note_authority_done, note_state_done, counts_done}
use Rattle.operations.specs.Done.{Done}
use Rattle.operations.specs.Holds.{register_done, release_done}
use Rattle.operations.specs.Joined.{spawn_done, leave_done, give_done}
use Rattle.operations.specs.Mints.{task_mint_done, task_lookup_done, task_end_done, irq_mint_done, irq_lookup_done}
use Rattle.operations.specs.Rows.{get_done, holds_done, seed_done, install_done, transfer_done, drain_done}
use Rattle.operations.specs.Operands.{id_at, task_at, payload_at}
use Rattle.operations.specs.declared.Tables.{Tables}
use Rattle.operations.proofs.Explains.{send_explains, receive_explains, park_explains, queued_explains}
use Rattle.history.specs.Calls.{Call}
use Rattle.history.specs.Operations.{Operation, done_by, all_calls, Logged, operated, beginning, Follows}
use Rattle.history.specs.Lines.{line_in, all_reasons, reason_of}
use Rattle.history.specs.LogReasons.{EndsWith, LineReasons, ReasonsShown, LogReasonsShown}
use Rattle.history.proofs.Along.{Along, end, ◌▸◌, along_all}
use Rattle.history.proofs.Bare.{Bare, none_bare, create_bare, revoke_bare, release_bare, holders_bare, clear_bare, counts_bare, get_bare, mint_bare, lookup_bare, spawn_bare, leave_bare, reason_alone}
use Rattle.history.proofs.Lines.{same_head, same_rest}
use Rattle.history.proofs.Operations.{logs_follow}
use Rattle.ipc_rules.specs.declared.answers.WhyError.{WhyError}

-- ---- the four operations
-- a line of number n and the values vs, or the reason
module _ (s : Logged) (f : Follows s) (o : Operation) (asked : Asked) (n : ℕ) (vs : List ℕ) where
  abbrev why : Result ⊤ WhyError
  why = why_of s.tables.channels (id_at o.bytes 3) asked

  ends_with : line_in s o ≡ o.number ∷ n ∷ reasoned why n vs → n ≡ no.bad_cap → (r : Reason) → why ≡ Err (Shut r) → EndsWith s o r
  ends_with e h r q = e ∙ (λ i. o.number ∷ h i ∷ (reason_alone why n vs h ∙ ap why_values q) i)

  line_reasons : line_in s o ≡ o.number ∷ n ∷ reasoned why n vs → Explains why (n ≡ no.bad_cap) → LineReasons s o asked
  line_reasons e x =
      let tells = reasons_told s.tables.channels (id_at o.bytes 3) asked in
      record {
        shows = λ h.
            let z : n ≡ no.bad_cap = sym (same_head (same_rest e)) ∙ h in
            let y = x.explained z in
            record { reason = y.reason; so = (tells y.reason).so y.is; line = ends_with e z y.reason y.is };
        where_so = λ r b. let q = (tells r).answered b in ends_with e (x.only r q) r q;
      }

-- ---- every operation
module _ (log : List ℕ) (t : Tables) where
  abbrev BareAt : ℕ → Done → List Call → Type 0
  BareAt op d _ = d.number ≡ no.bad_cap → d.values ≡ get_or (all_reasons log t) op []

  new_bare : Bare (new_done log t).number (new_done log t).values
  unfolding new_done
  new_bare = all_pick (λ (d : Done). Bare d.number d.values) _ _ _ (λ _ _. refl) (λ _ _. refl)

  -- a number that is no operation's is no BadCap
  unknown_bare : (op : ℕ) → BareAt op (unknown_done t) []
  unknown_bare op e = absurd (omega arith)

  -- a reason, and no value of the answer's
  alone : (asked : Asked) (n : ℕ) (vs : List ℕ) → let why = why_of t.channels (id_at log 3) asked in n ≡ no.bad_cap → reasoned why n vs ≡ why_values why
  alone asked n vs = reason_alone _ n vs

  all_bare : Along BareAt 0 (all_done log t) (all_calls log t)
  unfolding create_done send_done receive_done park_done queued_done revoke_done register_done release_done holders_done clear_done note_authority_done note_state_done get_done holds_done seed_done install_done transfer_done drain_done task_mint_done task_lookup_done task_end_done irq_mint_done irq_lookup_done spawn_done leave_done give_done counts_done
  all_bare =
      new_bare ▸
      create_bare (create_of t.channels (not (eqb (byte_at log 3) 0))).answer ▸
      alone Send (send_number (send_of t.channels (id_at log 3) (payload_at log 7) (byte_at log 27)).answer) (send_values (send_of t.channels (id_at log 3) (payload_at log 7) (byte_at log 27)).answer) ▸
      alone Receive (recv_number (recv_of t.channels (id_at log 3)).answer) (recv_values (recv_of t.channels (id_at log 3)).answer) ▸
      alone Receive (park_number (park_of t.channels (id_at log 3) (task_at log 7)).answer) (park_values (park_of t.channels (id_at log 3) (task_at log 7)).answer) ▸
      alone Either (queued_number (queued_of t.channels (id_at log 3))) (queued_values (queued_of t.channels (id_at log 3))) ▸
      revoke_bare (revoke_of t.channels (id_at log 3)).answer ▸
      (λ _. shows_nothing _) ▸
      release_bare (release_of t.channels (list_slots log 3)).answer (release_of t.channels (list_slots log 3)).waiters ▸
      holders_bare (holders_of t.channels (id_at log 3)) ▸
      clear_bare (clear_of t.channels (task_at log 3)).answer ▸
      (λ _. refl) ▸
      (λ _. refl) ▸
      get_bare (get_of t.rows (byte_at log 3) (byte_at log 4)) ▸
      none_bare _ ▸
      (λ _. shows_nothing _) ▸
      (λ _. shows_nothing _) ▸
      (λ _. shows_nothing _) ▸
      none_bare _ ▸
      mint_bare (tasks.mint_of t.tasks (little_at log 3 4)).answer ▸
      lookup_bare (tasks.lookup_of t.tasks (id_at log 3)) ▸
      none_bare _ ▸
      mint_bare (irqs.mint_of t.irqs (little_at log 3 4)).answer ▸
      lookup_bare (irqs.lookup_of t.irqs (id_at log 3)) ▸
      spawn_bare (spawn_of t.channels t.rows (byte_at log 3) (list_words log 4)).answer (spawn_of t.channels t.rows (byte_at log 3) (list_words log 4)).waiters ▸
      leave_bare (leave_of t.channels t.rows (byte_at log 3)).answer (leave_of t.channels t.rows (byte_at log 3)).waiters ▸
      (λ _. shows_nothing _) ▸
      counts_bare (refusals_of t.channels) ▸
      end

only_reasons : (s : Logged) (o : Operation) → (done_by o s.tables).number ≡ no.bad_cap → line_in s o ≡ o.number ∷ no.bad_cap ∷ reason_of o s.tables
unfolding apply_of reason_of
only_reasons s o h =
    let t = s.tables in
    let v = along_all (BareAt o.bytes t) (all_done o.bytes t) (all_calls o.bytes t) (unknown_done t) [] (all_bare o.bytes t) (unknown_bare o.bytes t) o.number h in
    λ i. o.number ∷ h i ∷ v i

-- ---- in a log
reasons_shown : (s : Logged) → Follows s → ReasonsShown s
unfolding apply_of send_done receive_done park_done queued_done
reasons_shown s f =
    record {
      send = λ log l. line_reasons s f _ Send _ _ refl (send_explains _ _ _ _ l);
      receive = λ log. line_reasons s f _ Receive _ _ refl (receive_explains _ _);
      park = λ log. line_reasons s f _ Receive _ _ refl (park_explains _ _ _);
      queued = λ log. line_reasons s f _ Either _ _ refl (queued_explains _ _);
      only = only_reasons s;
    }

pub log_reasons_shown : LogReasonsShown
log_reasons_shown before = reasons_shown (operated beginning before) (logs_follow before)
