-- Demand 3's first sentence in a log, `log_ids_keep`. Assumes nothing.
use Rattle.std.specs.Prelude.{Err, Ok, Result, ⊤}
use mathlib.Core.Path.{◌≡◌, refl, sym, ap, subst, ◌∙◌}
use mathlib.Core.Bool.{Bool, true, ◌&&◌, not}
use mathlib.Core.List.{List, [], ◌∷◌}
use mathlib.Core.Logic.{◌⊎◌, inl, inr, ⊎_elim}
use Prim.Native.Nat.{ℕ, suc, ◌+◌, ◌<◌}
use native.Mathlib.Omega.{arith}
use lib.Dec.{eqb}
use Rattle.cap.specs.declared.CapId.{CapId}
use Rattle.laws.specs.Refusals as no
use Rattle.laws.proofs.Cases.{all_pick}
use Rattle.ipc_rules.specs.Answers.{create_number, create_values, send_number, recv_number, park_number}
use Rattle.ipc_rules.specs.Create.{create_of}
use Rattle.ipc_rules.specs.Receive.{other_waits}
use Rattle.ipc_rules.specs.Why.{why_values, why_of}
use Rattle.ipc_rules.specs.declared.state.Channel.{Channel}
use Rattle.ipc_rules.specs.declared.state.Message.{Message}
use Rattle.ipc_rules.specs.declared.state.TaskId.{TaskId}
use Rattle.ipc_rules.specs.declared.state.Waiter.{Waiter}
use Rattle.ipc_rules.specs.declared.answers.CreateError.TheVariants.{NoMailbox, NoEndpoint, BadTable}
use Rattle.ipc_rules.specs.declared.opening.Asked.TheVariants.{Send}
use Rattle.logread.specs.Little.{byte_at}
use Rattle.operations.specs.Apply.{apply_of}
use Rattle.operations.specs.Channels.{reasoned, create_done, send_done, receive_done, park_done, queued_done, revoke_done, holders_done}
use Rattle.operations.specs.Operands.{id_at, task_at, payload_at}
use Rattle.operations.specs.declared.Tables.{Tables}
use Rattle.history.specs.Calls.{Call, create, send, receive, park, queued, revoke, holders, Answer, created, answer}
use Rattle.history.specs.Numbers.{number_of, values_of}
use Rattle.history.specs.World.{World, run, step}
use Rattle.history.specs.Reach as reach
use Rattle.history.specs.Reach.{Reaches, Reach}
use Rattle.history.specs.Ids.{Makes, IdOf, OpensOnly}
use Rattle.history.specs.Operations.{Operation, done_by, calls_of, Logged, operate, operated, beginning, Follows, lasting, calls_over}
use Rattle.history.specs.Lines.{line_in, reason_of}
use Rattle.history.specs.LogIds.{creation, LineReaches, nothing, channel, LinesReach, KeepsId, LogIdsKeep}
use Rattle.history.proofs.Refusals.{rows_refused}
use Rattle.history.proofs.Ids.{ids_keep}
use Rattle.history.proofs.Operations.{goes_on, other_number, operations_follow, operated_follow, operations_run, logs_follow}
use Rattle.history.proofs.Lines.{same_rest}
use Rattle.history.proofs.Bare.{reason_alone, no_reason}
use Rattle.ipc_rules.specs.declared.answers.WhyError.{WhyError}
use Rattle.ipc_rules.specs.declared.answers.CreateError.{CreateError}

-- ephemeral where the flag is not 0
abbrev flag : List ℕ → Bool
flag log = not (eqb (byte_at log 3) 0)

-- the create of a log is the call
creates : (s : Logged) (log : List ℕ) → (operate s (creation log)).world ≡ step s.world (create (flag log))
unfolding calls_of run
creates s log = goes_on s (creation log) (other_number 0 log)

-- two values are two ids
record Shown (a : Result Channel CreateError) (x y : ℕ) : Type 0 where
  ids : Channel
  made : a ≡ Ok ids
  send : ids.send.raw ≡ x
  recv : ids.recv.raw ≡ y

shown : (a : Result Channel CreateError) (x y : ℕ) → create_number a ∷ create_values a ≡ 0 ∷ x ∷ y ∷ [] → Shown a x y
shown (Ok ids) x y e = record { ids = ids; made = refl; send = cc; recv = cc }
shown (Err NoMailbox) x y e = let z : ◌≡◌ {A = ℕ} 0 1 = cc in absurd (omega arith)
shown (Err NoEndpoint) x y e = let z : ◌≡◌ {A = ℕ} 0 1 = cc in absurd (omega arith)
shown (Err BadTable) x y e = let z : ◌≡◌ {A = ℕ} 0 1 = cc in absurd (omega arith)

create_shows : (log : List ℕ) (t : Tables) →
    (done_by (creation log) t).number ∷ (done_by (creation log) t).values ≡ create_number (create_of t.channels (flag log)).answer ∷ create_values (create_of t.channels (flag log)).answer
unfolding apply_of create_done
create_shows log t = refl

-- ---- the lines of operations with an id
-- a mailbox answers no BadCap
oldest_opened : (ms : List Message) → recv_number (reach.oldest_of ms) ≡ no.bad_cap → ⊥
unfolding reach.oldest_of
oldest_opened [] e = omega arith
oldest_opened (m ∷ ms) e = omega arith

park_by_opened : (task : TaskId) (ms : List Message) (b : Bool) (n : ℕ) (x : Waiter) → park_number (reach.park_by task ms b n x) ≡ no.bad_cap → ⊥
unfolding reach.park_by
park_by_opened task (m ∷ ms) b n x e = omega arith
park_by_opened task [] b n x e =
    all_pick (λ a. park_number a ≡ no.bad_cap → ⊥) (b && eqb n 0) _ _ (λ _ z. omega arith)
    (λ _. all_pick (λ a. park_number a ≡ no.bad_cap → ⊥) (other_waits x task) _ _ (λ _ z. omega arith) (λ _ z. omega arith)) e

module _ (s : Logged) (f : Follows s) (n : ℕ) (c : CapId) (r : Reach s.world n c) where
  send_opened : (k : ℕ) → number_of (reach.send_at s.world.table k) ≡ no.bad_cap → ⊥
  send_opened k = all_pick (λ a. send_number a ≡ no.bad_cap → ⊥) _ _ _ (λ _ e. omega arith) (λ _ e. omega arith)

  receive_opened : (k : ℕ) → number_of (reach.receive_at s.world.table k) ≡ no.bad_cap → ⊥
  receive_opened k = oldest_opened _

  park_opened : (task : TaskId) (k : ℕ) → number_of (reach.park_at s.world.table task k) ≡ no.bad_cap → ⊥
  park_opened task k = park_by_opened task _ _ _ _

  -- what the call reaches, the line shows
  by_reach : (o : Operation) (call : Call) (of : ℕ → Answer) → line_in s o ≡ o.number ∷ number_of (answer s.tables.channels call) ∷ values_of (answer s.tables.channels call) →
      reason_of o s.tables ≡ [] → Reaches s.world n call of → LineReaches s n o of
  by_reach o call of e q (reach.nothing number values _) =
      let m : number_of (answer s.tables.channels call) ≡ no.bad_cap = rw f.channels at number in
      let v : values_of (answer s.tables.channels call) ≡ [] = rw f.channels at values in
      nothing (e ∙ (λ i. o.number ∷ m i ∷ (v ∙ sym q) i))
  by_reach o call of e q (reach.channel k lives a _) =
      channel k lives (e ∙ rw (← f.channels) (ap (λ (x : Answer). o.number ∷ number_of x ∷ values_of x) a))

  -- and where it can show a reason, the mailbox's answer has none
  by_reason : (o : Operation) (why : Result ⊤ WhyError) (call : Call) (of : ℕ → Answer) → let x = answer s.tables.channels call in
      line_in s o ≡ o.number ∷ number_of x ∷ reasoned why (number_of x) (values_of x) → reason_of o s.tables ≡ why_values why → ((k : ℕ) → number_of (of k) ≡ no.bad_cap → ⊥) →
      Reaches s.world n call of → LineReaches s n o of
  by_reason o why call of e q h (reach.nothing number values _) =
      let m : number_of (answer s.tables.channels call) ≡ no.bad_cap = rw f.channels at number in
      nothing (e ∙ (λ i. o.number ∷ m i ∷ (reason_alone why (number_of (answer s.tables.channels call)) (values_of (answer s.tables.channels call)) m ∙ sym q) i))
  by_reason o why call of e q h (reach.channel k lives a _) =
      let m : answer s.tables.channels call ≡ of k = rw f.channels at a in
      channel k lives (e ∙ ap (λ (x : Answer). o.number ∷ number_of x ∷ reasoned why (number_of x) (values_of x)) m ∙ ap (λ (l : List ℕ). o.number ∷ number_of (of k) ∷ l) (no_reason why _ _ (h k)))

  lines_reach : LinesReach s n c
  unfolding apply_of reason_of send_done receive_done park_done queued_done revoke_done holders_done answer
  lines_reach =
      record {
        send = λ log e l. by_reason _ _ (send (id_at log 3) (payload_at log 7) (byte_at log 27)) _ refl refl send_opened (rw e (r.send (payload_at log 7) (byte_at log 27) l));
        send_refused = λ log h. ap (λ (a : Answer). 2 ∷ number_of a ∷ reasoned (why_of s.tables.channels (id_at log 3) Send) (number_of a) (values_of a)) ((rows_refused s.tables.channels (id_at log 3) (payload_at log 7) (byte_at log 27)).0 h).answers ∙ ap (λ (l : List ℕ). 2 ∷ no.bad_row ∷ l) (no_reason (why_of s.tables.channels (id_at log 3) Send) no.bad_row [] (λ e. omega arith));
        receive = λ log e. by_reason _ _ (receive (id_at log 3)) _ refl refl receive_opened (rw e r.receive);
        park = λ log e. by_reason _ _ (park (id_at log 3) (task_at log 7)) _ refl refl (park_opened (task_at log 7)) (rw e (r.park (task_at log 7)));
        queued = λ log e. by_reason _ _ (queued (id_at log 3)) _ refl refl (λ k e. omega arith) (rw e r.queued);
        revoke = λ log e. by_reach _ (revoke (id_at log 3)) _ refl refl (rw e r.revoke);
        holders = λ log e. by_reach _ (holders (id_at log 3)) _ refl refl (rw e r.holders);
      }

-- ---- the ids
module _ (s : Logged) (f : Follows s) (log : List ℕ) (x y : ℕ) (e : line_in s (creation log) ≡ 1 ∷ 0 ∷ x ∷ y ∷ []) where
  abbrev n : ℕ
  n = suc s.world.made

  abbrev shows : Shown (create_of s.tables.channels (flag log)).answer x y
  shows = shown _ x y (sym (create_shows log s.tables) ∙ same_rest e)

  makes : Makes s.world (flag log) n shows.ids
  unfolding answer
  makes = record { answers = rw f.channels (ap created shows.made); number = refl }

  is_id : (c : CapId) → (c.raw ≡ x) ⊎ (c.raw ≡ y) → IdOf shows.ids c
  is_id c = ⊎_elim (λ p. inl (ap (λ r. record { raw = r }) (p ∙ sym shows.send))) (λ p. inr (ap (λ r. record { raw = r }) (p ∙ sym shows.recv)))

  keeps : (later : List Operation) → lasting later ≡ true → let v = operated (operate s (creation log)) later in
      v.world.made < n + 65535 → (c : CapId) → (c.raw ≡ x) ⊎ (c.raw ≡ y) → KeepsId v n c
  keeps later lasts few c is =
      let u = operate s (creation log) in
      let v = operated u later in
      let q : v.world ≡ run (step s.world (create (flag log))) (calls_over u later) = operations_run u later lasts ∙ ap (λ w. run w (calls_over u later)) (creates s log) in
      let k = ids_keep s.world f.reached (flag log) n shows.ids makes (calls_over u later) (subst (λ (w : World). w.made < n + 65535) q few) c (is_id c is) in
      let g = operated_follow u later (operations_follow s (creation log) f) in
      let r : Reach v.world n c = subst (λ w. Reach w n c) (sym q) k.1 in
      record { follows = g; opens = subst (λ w. OpensOnly w n c) (sym q) k.0; calls = r; lines = lines_reach v g n c r }

pub log_ids_keep : LogIdsKeep
log_ids_keep before log x y e = keeps (operated beginning before) (logs_follow before) log x y e
