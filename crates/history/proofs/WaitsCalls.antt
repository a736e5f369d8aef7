-- What each call does to a task that waits: it waits on, or it is named or cleared and waits no more. Assumes nothing.
use Rattle.std.specs.Prelude.{Ok, Option, Result, ⊤}
use mathlib.Core.Path.{◌≡◌, refl, sym, ap, subst, ◌∙◌}
use mathlib.Core.Bool.{Bool, true, false, ◌&&◌}
use mathlib.Core.List.{List, []}
use mathlib.Core.Logic.{◌⊎◌, inl, inr, ⊎_elim}
use Prim.Native.Nat.{ℕ, zero, suc, ◌-◌, ◌≤◌}
use native.Mathlib.Omega.{arith}
use borrow.Author.Tests.{eqb-true, eq-eqb, ne_eqb}
use lib.Dec.{eqb}
use lib.ListN.{get_or, length, get_or-eq_default}
use Rattle.laws.specs.Refusals as no
use Rattle.laws.proofs.Bools.{either, same?}
use Rattle.laws.proofs.Cases.{not_both}
use Rattle.laws.proofs.Every.{and_left, and_right, and_both}
use Rattle.cap.specs.Rights.{send_right}
use Rattle.cap.specs.declared.CapId.{CapId}
use Rattle.cap.specs.declared.slot.Slot.{Slot}
use Rattle.ipc_rules.specs.State.{nobody, mailbox_live, waiting}
use Rattle.ipc_rules.specs.Opening.{opened}
use Rattle.ipc_rules.specs.Answers.{send_number}
use Rattle.ipc_rules.specs.Receive.{same_task}
use Rattle.ipc_rules.specs.Holds.{four_of, release_of, released_all}
use Rattle.ipc_rules.specs.Waiters.{clear_of}
use Rattle.ipc_rules.specs.Views.{waiter_of, hold_count, ephemeral_of, held_in, Alike}
use Rattle.ipc_rules.specs.declared.state.Payload.{Payload}
use Rattle.ipc_rules.specs.declared.state.TaskId.{TaskId}
use Rattle.ipc_rules.specs.declared.state.Waiter.{Waiter}
use Rattle.ipc_rules.specs.declared.state.Table.{Table}
use Rattle.ipc_rules.specs.declared.opening.Opening.TheVariants.{Opens, Shut}
use Rattle.ipc_rules.proofs.Openings.{opens_live}
use Rattle.ipc_rules.proofs.Tasks.{same_task_lem, task_same}
use Rattle.ipc_rules.proofs.Changes.{alike_same}
use Rattle.ipc_rules.proofs.AfterSend as send
use Rattle.ipc_rules.proofs.AfterReceive as recv
use Rattle.ipc_rules.proofs.AfterPark as park
use Rattle.ipc_rules.proofs.AfterRegister as register
use Rattle.ipc_rules.proofs.AfterRevoke as revoke
use Rattle.ipc_rules.proofs.AfterReleaseAll.{released_in}
use Rattle.ipc_rules.proofs.AfterClear.{clear_clears}
use Rattle.ipc_rules.proofs.AfterCounts.{authority_only, full_only, state_only, note_authority_only, note_state_only}
use Rattle.ipc_rules.proofs.AfterCreate.{create_others}
use Rattle.history.specs.Calls as call
use Rattle.history.specs.Calls.{Call, answer, after, four_slots}
use Rattle.history.specs.World.{World}
use Rattle.history.specs.Channels.{leads, on, on_any}
use Rattle.history.specs.Waits.{Waits, ends, turn_of, Names, by_send, by_revocation, by_release, Clears, clears}
use Rattle.history.proofs.Tidy.{Tidy}
use Rattle.history.proofs.WaitsTurn.{release_turn}
use Rattle.ipc_rules.specs.declared.answers.SendError.{SendError}
use Rattle.shown.specs.declared.Answered.{Answered}
use Rattle.ipc_rules.specs.declared.state.Message.{Message}
use Rattle.ipc_rules.specs.declared.answers.RecvError.{RecvError}
use Rattle.ipc_rules.specs.declared.answers.ParkError.{ParkError}
use Rattle.ipc_rules.specs.declared.answers.RegisterError.{RegisterError}
use Rattle.ipc_rules.specs.declared.answers.CapError.{CapError}

-- mailbox k in the tables before and after a call: it lives on with its waiter, or nobody waits there and A holds
pub data Outcome (t u : Table) (k : ℕ) (A : Type 0) : Bool → Type 0 where
  stays : mailbox_live u k ≡ mailbox_live t k → waiter_of u k ≡ waiter_of t k → Outcome t u k A false
  gone : waiter_of u k ≡ nobody → A → Outcome t u k A true

alike_stays : {t u : Table} {k : ℕ} {A : Type 0} → Alike t u k → Outcome t u k A false
alike_stays a = stays a.live a.waiter

then : {t u : Table} {k : ℕ} {A B : Type 0} {f : Bool} → (A → B) → Outcome t u k A f → Outcome t u k B f
then g (stays l e) = stays l e
then g (gone e a) = gone e (g a)

refused : (b : Bool) → (b && false) ≡ false
refused true = refl
refused false = refl

-- four places hold the woken, of whom there are no more than four
four_at : (ws : List Waiter) → length ws ≤ 4 → (p : ℕ) → get_or (four_of ws) p nobody ≡ get_or ws p nobody
four_at ws l zero = refl
four_at ws l (suc zero) = refl
four_at ws l (suc (suc zero)) = refl
four_at ws l (suc (suc (suc zero))) = refl
four_at ws l (suc (suc (suc (suc p)))) = sym (get_or-eq_default ws nobody (omega arith))

module _ (w : World) (τ : Tidy w) (n k : ℕ) (x : TaskId) (h : Waits w n k x) where
  abbrev t : Table
  t = w.table

  -- mailbox k is channel n's, and no other that lives is
  here : leads w n (Opens k) ≡ true
  unfolding leads opened
  here = eq-eqb _ _ h.lives.tenant

  elsewhere : (j : ℕ) → mailbox_live t j ≡ true → (k ≡ j → ⊥) → leads w n (Opens j) ≡ false
  unfolding leads opened
  elsewhere j l ne = ne_eqb _ _ (λ e. ne (τ.single k j h.lives.live l (h.lives.tenant ∙ sym e)))

  nowhere : leads w n Shut ≡ false
  unfolding leads opened
  nowhere = refl

  was : (j : ℕ) → k ≡ j → waiter_of t j ≡ waiting x
  was j e = ap (waiter_of t) (sym e) ∙ h.waiter

  -- ---- send
  send_out : (c : CapId) (p : Payload) (row : ℕ) (r : Answered (Result Waiter SendError) Table) → send.SendWays t c p row r → Outcome t r.table k (r.answer ≡ Ok (waiting x)) (on w n c send_right && eqb (send_number r.answer) no.none)
  send_out c p row r (send.bad_row _ q) = rw (q, refused (on w n c send_right)) (alike_stays (alike_same t k))
  send_out c p row r (send.bad_cap _ o q) = rw (o, q, nowhere) (alike_stays ((authority_only t).mailboxes k))
  send_out c p row r (send.full _ j o e q) = rw (q, refused (on w n c send_right)) (alike_stays ((full_only t).mailboxes k))
  send_out c p row r (send.sent _ a y) =
      ⊎_elim (λ e. rw (a.opens, ← e, here, y.answer) (gone (rw e y.waiter) (ap Ok (was a.box e))))
      (λ ne. rw (a.opens, elsewhere a.box (opens_live t c send_right a.box τ.sound a.opens) ne) (alike_stays (y.rest.others k ne)))
      (same? k a.box)

  -- ---- revocation
  revoke_out : (c : CapId) (r : Answered (Result Waiter CapError) Table) → revoke.RevokeWays t c r → Outcome t r.table k (r.answer ≡ Ok (waiting x)) (on_any w n c)
  revoke_out c r (revoke.bad_cap o q) = rw (o, q, nowhere) (alike_stays ((authority_only t).mailboxes k))
  revoke_out c r (revoke.revoked j o l a y) =
      ⊎_elim (λ e. rw (o, ← e, here, a) (gone (rw e y.waiter) (ap Ok (was j e)))) (λ ne. rw (o, elsewhere j l ne) (alike_stays (y.others k ne))) (same? k j)

  -- ---- release
  abbrev leaves_none : List Slot → Bool
  leaves_none ss = ephemeral_of t k && eqb (hold_count t k - held_in t k ss) 0

  release_out :
      (ss : List Slot) → length ss ≡ 4 →
      Outcome t (release_of t ss).table k (get_or (release_of t ss).waiters (turn_of t k [] ss) nobody ≡ waiting x) (leaves_none ss)
  unfolding release_of
  release_out ss four =
      let i = released_in t ss τ.sound in
      let few = i.few in
      let b = i.mailboxes k in
      let held = b.holds in
      let there : (waiter_of t k).present ≡ true = ap (λ (z : Waiter). z.present) h.waiter in
      ⊎_elim
      (λ e.
      let f = and_left (ephemeral_of t k) (eqb (hold_count t k - held_in t k ss) 0) e in
      let z = eqb-true _ _ (and_right (ephemeral_of t k) (eqb (hold_count t k - held_in t k ss) 0) e) in
      rw e (gone (b.gone there f (held ∙ z)) (four_at (released_all t ss).woken (omega arith) (turn_of t k [] ss) ∙ release_turn t k ss τ.sound f there z ∙ h.waiter)))
      (λ e. rw e (stays b.live (b.stays (λ _ f.
      ⊎_elim (λ z. absurd (not_both _ (and_both (ephemeral_of t k) (eqb (hold_count t k - held_in t k ss) 0) f (eq-eqb _ _ z)) e)) (λ ne. omega arith)
      (same? (hold_count t k - held_in t k ss) 0)))))
      (either (leaves_none ss))

  release_answers : (s₁ s₂ s₃ s₄ : Slot) → answer t (call.release s₁ s₂ s₃ s₄) ≡ call.released (Ok tt) (release_of t (four_slots s₁ s₂ s₃ s₄)).waiters
  unfolding answer release_of
  release_answers s₁ s₂ s₃ s₄ = refl

  -- ---- clearing
  clear_out : (y : TaskId) → Outcome t (clear_of t y).table k (Clears x (call.clear y)) (same_task x y)
  clear_out y =
      let c = clear_clears t y in
      ⊎_elim (λ e. rw e (gone (c.gone k (h.waiter ∙ ap waiting (same_task_lem x y e))) (subst (λ (z : TaskId). Clears x (call.clear z)) (same_task_lem x y e) clears)))
      (λ e. rw e (stays (c.live k) (c.stays k (λ q. not_both _ (task_same x y (ap (λ (z : Waiter). z.task) (sym h.waiter ∙ q))) e))))
      (either (same_task x y))

  -- ---- park, receive, register: the waiter stays
  park_out : (c : CapId) (y : TaskId) (r : Answered (Result (Option Message) ParkError) Table) {A : Type 0} → park.ParkWays t c y r → Outcome t r.table k A false
  park_out c y r (park.bad_cap _ q) = rw q (alike_stays ((authority_only t).mailboxes k))
  park_out c y r (park.given j _ _ _ g) =
      ⊎_elim (λ e. stays (rw e g.live) (rw e g.waiter)) (λ ne. alike_stays (g.rest.others k ne)) (same? k j)
  park_out c y r (park.cancelled _ _ _ _ _ q) = rw q (stays refl refl)
  park_out c y r (park.busy _ _ _ _ _ q) = rw q (alike_stays ((state_only t).mailboxes k))
  park_out c y r (park.parked j _ _ _ p) =
      ⊎_elim (λ e. stays (rw e p.live) (rw e (p.waiter ∙ sym (p.free (ap (λ (z : Waiter). z.present) (was j e)))))) (λ ne. alike_stays (p.rest.others k ne)) (same? k j)

  recv_out : (c : CapId) (r : Answered (Result Message RecvError) Table) {A : Type 0} → recv.RecvWays t c r → Outcome t r.table k A false
  recv_out c r (recv.bad_cap _ q) = rw q (alike_stays ((authority_only t).mailboxes k))
  recv_out c r (recv.empty _ _ _ q) = rw q (stays refl refl)
  recv_out c r (recv.received j _ _ _ g) =
      ⊎_elim (λ e. stays (rw e g.live) (rw e g.waiter)) (λ ne. alike_stays (g.rest.others k ne)) (same? k j)

  register_out : (words : List ℕ) (r : Answered (Result ⊤ RegisterError) Table) {A : Type 0} → register.RegisterCallWays t words r → Outcome t r.table k A false
  register_out words r (register.bad_word _ q) = rw q (stays refl refl)
  register_out words r (register.all _ _ a) = stays (a.mailboxes k).live (a.mailboxes k).waiter

  -- ---- every call
  pub outcome : (c : Call) → Outcome t (after t c) k (Names t k x c ⊎ Clears x c) (ends w n k x c)
  unfolding ends answer after
  outcome (call.create b) = alike_stays (create_others t b τ.sound k h.lives.live)
  outcome (call.send c p row) = then (λ e. inl (by_send (ap call.sent e))) (send_out c p row _ (send.send_ways t c p row τ.sound))
  outcome (call.receive c) = recv_out c _ (recv.recv_ways t c τ.sound)
  outcome (call.park c y) = park_out c y _ (park.park_ways t c y τ.sound)
  outcome (call.queued c) = stays refl refl
  outcome (call.revoke c) = then (λ e. inl (by_revocation (ap call.revoked e))) (revoke_out c _ (revoke.revoke_ways t c τ.sound))
  outcome (call.register words) = register_out words _ (register.register_call_ways t words τ.sound)
  outcome (call.release s₁ s₂ s₃ s₄) = then (λ e. inl (by_release _ (release_answers s₁ s₂ s₃ s₄) e)) (release_out (four_slots s₁ s₂ s₃ s₄) refl)
  outcome (call.holders c) = stays refl refl
  outcome (call.clear y) = then inr (clear_out y)
  outcome call.note_authority = alike_stays ((note_authority_only t).mailboxes k)
  outcome call.note_state = alike_stays ((note_state_only t).mailboxes k)
  outcome call.counts = stays refl refl
