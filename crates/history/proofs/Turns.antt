-- What one call does to a channel that it does not revoke: the channel stays where it lives, of the kind it was, and what the call gives
-- and then what waits is what waited and then what the call accepted. Assumes nothing.
use Rattle.std.specs.Prelude.{Option, Result, ⊤}
use mathlib.Core.Path.{◌≡◌, refl, sym, ap, ◌∙◌}
use mathlib.Core.Bool.{Bool, true, false}
use mathlib.Core.List.{List, [], ◌∷◌, ◌++◌, append-nil}
use mathlib.Core.Logic.{⊎_elim}
use Prim.Native.Nat.{ℕ}
use borrow.Author.Tests.{eqb-true, eqb-false}
use lib.Dec.{eqb}
use Rattle.laws.specs.Pick.{pick}
use Rattle.laws.proofs.Bools.{same?}
use Rattle.laws.proofs.Cases.{all_pick, not_both}
use Rattle.cap.specs.Rights.{send_right, receive_right}
use Rattle.cap.specs.declared.CapId.{CapId}
use Rattle.ipc_rules.specs.State.{stamped, mailbox_live}
use Rattle.ipc_rules.specs.Holds.{release_of}
use Rattle.ipc_rules.specs.Opening.{any_right_of, opened}
use Rattle.ipc_rules.specs.Views.{queue_of, ephemeral_of, Alike}
use Rattle.ipc_rules.specs.declared.state.Message.{Message}
use Rattle.ipc_rules.specs.declared.state.Payload.{Payload}
use Rattle.ipc_rules.specs.declared.state.TaskId.{TaskId}
use Rattle.ipc_rules.specs.declared.state.Table.{Table}
use Rattle.ipc_rules.specs.declared.opening.Opening.TheVariants.{Opens}
use Rattle.ipc_rules.proofs.Openings.{opens_live}
use Rattle.ipc_rules.proofs.Changes.{alike_same}
use Rattle.ipc_rules.proofs.AfterSend as after-send
use Rattle.ipc_rules.proofs.AfterReceive as after-recv
use Rattle.ipc_rules.proofs.AfterPark as after-park
use Rattle.ipc_rules.proofs.AfterRegister as after-register
use Rattle.ipc_rules.proofs.AfterReleaseAll.{released_in}
use Rattle.ipc_rules.proofs.AfterRevoke.{revoke_others}
use Rattle.ipc_rules.proofs.AfterClear.{clear_clears}
use Rattle.ipc_rules.proofs.AfterCounts.{authority_only, full_only, state_only, note_authority_only, note_state_only}
use Rattle.ipc_rules.proofs.AfterCreate.{create_others}
use Rattle.history.specs.Calls.{Call, create, send, receive, park, queued, revoke, register, release, holders, clear, note_authority, note_state, counts, four_slots, answer, after}
use Rattle.history.specs.World.{World, on_creation, settled, step}
use Rattle.history.specs.Channels.{LivesIn, leads, on}
use Rattle.history.specs.Traffic.{if_sent, by_receive, by_park, accepted, given, revokes}
use Rattle.history.proofs.Kept.{step_table}
use Rattle.history.proofs.Steps.{StepWays, settles, births, step_ways}
use Rattle.history.proofs.Tidy.{Tidy}
use Rattle.ipc_rules.specs.declared.state.Waiter.{Waiter}
use Rattle.ipc_rules.specs.declared.answers.SendError.{SendError}
use Rattle.shown.specs.declared.Answered.{Answered}
use Rattle.ipc_rules.specs.declared.answers.RecvError.{RecvError}
use Rattle.ipc_rules.specs.declared.answers.ParkError.{ParkError}
use Rattle.ipc_rules.specs.declared.answers.RegisterError.{RegisterError}

pub record Turn (w v : World) (n k : ℕ) (out inn : List Message) : Type 0 where
  pub lives : LivesIn v n k
  pub kind : ephemeral_of v.table k ≡ ephemeral_of w.table k
  pub order : out ++ queue_of v.table k ≡ queue_of w.table k ++ inn

pick_same : {A : Type 0} (b : Bool) (a : A) → pick b a a ≡ a
pick_same b a = all_pick (λ x. x ≡ a) b a a (λ _. refl) (λ _. refl)

module _ (w : World) (τ : Tidy w) (n k : ℕ) (h : LivesIn w n k) where
  abbrev t : Table
  t = w.table

  -- channel n lives in mailbox k and in no other
  here : (j : ℕ) → mailbox_live t j ≡ true → eqb (w.tenant j) n ≡ true → j ≡ k
  here j l e = τ.single j k l h.live (eqb-true _ _ e ∙ sym h.tenant)

  elsewhere : (j : ℕ) → eqb (w.tenant j) n ≡ false → k ≡ j → ⊥
  elsewhere j e q = eqb-false _ _ e (ap w.tenant (sym q) ∙ h.tenant)

  -- ---- the queue stays
  stays : (u : Table) → mailbox_live u k ≡ mailbox_live t k → ephemeral_of u k ≡ ephemeral_of t k → queue_of u k ≡ queue_of t k → Turn w (settled w u) n k [] []
  stays u l e q = record { lives = record { live = l ∙ h.live; tenant = h.tenant }; kind = e; order = q ∙ sym (append-nil _) }

  alike : (u : Table) → Alike t u k → Turn w (settled w u) n k [] []
  alike u a = stays u a.live a.ephemeral a.queue

  none_in : (b : Bool) (u : Table) → Turn w (settled w u) n k [] [] → Turn w (settled w u) n k [] (pick b [] [])
  none_in b u x = rw (pick_same {A = List Message} b []) x

  none_out : (b : Bool) (u : Table) → Turn w (settled w u) n k [] [] → Turn w (settled w u) n k (pick b [] []) []
  none_out b u x = rw (pick_same {A = List Message} b []) x

  -- ---- send
  sends : (c : CapId) (p : Payload) (row : ℕ) {r : Answered (Result Waiter SendError) Table} → after-send.SendWays t c p row r →
      Turn w (settled w r.table) n k [] (pick (on w n c send_right) (if_sent r.answer (stamped p row)) [])
  unfolding leads opened if_sent
  sends c p row (after-send.bad_row _ q) = rw q (none_in (on w n c send_right) _ (alike _ (alike_same t k)))
  sends c p row (after-send.bad_cap _ o q) = rw q (none_in (on w n c send_right) _ (alike _ ((authority_only t).mailboxes k)))
  sends c p row (after-send.full _ _ _ _ q) = rw q (none_in (on w n c send_right) _ (alike _ ((full_only t).mailboxes k)))
  sends c p row {r} (after-send.sent _ a x) =
      rw (a.opens, x.answer)
      (all_pick (Turn w (settled w r.table) n k []) (eqb (w.tenant a.box) n) _ _
      (λ e. let i = here a.box (opens_live t c send_right a.box τ.sound a.opens) e in
      record { lives = record { live = rw i at x.live ∙ h.live; tenant = h.tenant }; kind = rw i at x.ephemeral; order = rw i at x.queue })
      (λ e. alike r.table (x.rest.others k (elsewhere a.box e))))

  -- ---- receive and park
  gives : (j : ℕ) (m : Message) (u : Table) → mailbox_live t j ≡ true → after-recv.Gives t j m u → Turn w (settled w u) n k (pick (eqb (w.tenant j) n) (m ∷ []) []) []
  gives j m u l g =
      all_pick (λ out. Turn w (settled w u) n k out []) (eqb (w.tenant j) n) _ _
      (λ e. let i = here j l e in
      let q : queue_of t k ≡ m ∷ queue_of u k = rw i at g.queue in
      record { lives = record { live = rw i at g.live ∙ h.live; tenant = h.tenant }; kind = rw i at g.ephemeral; order = sym q ∙ sym (append-nil _) })
      (λ e. alike u (g.rest.others k (elsewhere j e)))

  receives : (c : CapId) {r : Answered (Result Message RecvError) Table} → after-recv.RecvWays t c r → Turn w (settled w r.table) n k (pick (on w n c receive_right) (by_receive r.answer) []) []
  unfolding leads opened by_receive
  receives c (after-recv.bad_cap _ q) = rw q (none_out (on w n c receive_right) _ (alike _ ((authority_only t).mailboxes k)))
  receives c (after-recv.empty _ _ _ q) = rw q (none_out (on w n c receive_right) _ (alike _ (alike_same t k)))
  receives c {r} (after-recv.received j m o a g) = rw (o, a) (gives j m r.table (opens_live t c receive_right j τ.sound o) g)

  parks : (c : CapId) (task : TaskId) {r : Answered (Result (Option Message) ParkError) Table} → after-park.ParkWays t c task r → Turn w (settled w r.table) n k (pick (on w n c receive_right) (by_park r.answer) []) []
  unfolding leads opened by_park
  parks c task (after-park.bad_cap _ q) = rw q (none_out (on w n c receive_right) _ (alike _ ((authority_only t).mailboxes k)))
  parks c task {r} (after-park.given j m o a g) = rw (o, a) (gives j m r.table (opens_live t c receive_right j τ.sound o) g)
  parks c task (after-park.cancelled _ _ _ _ _ q) = rw q (none_out (on w n c receive_right) _ (alike _ (alike_same t k)))
  parks c task (after-park.busy _ _ _ _ _ q) = rw q (none_out (on w n c receive_right) _ (alike _ ((state_only t).mailboxes k)))
  parks c task {r} (after-park.parked j _ _ a p) =
      rw a
      (none_out (on w n c receive_right) r.table
      (⊎_elim (λ e. stays r.table (rw e p.live) (rw e p.ephemeral) (rw e p.queue)) (λ ne. alike r.table (p.rest.others k ne)) (same? k j)))

  -- ---- register and revoke
  registers : (words : List ℕ) {r : Answered (Result ⊤ RegisterError) Table} → after-register.RegisterCallWays t words r → Turn w (settled w r.table) n k [] []
  registers words (after-register.bad_word _ q) = rw q (alike t (alike_same t k))
  registers words {r} (after-register.all _ _ x) = let a = x.mailboxes k in stays r.table a.live a.ephemeral a.queue

  unrevoked : (c : CapId) → leads w n (any_right_of t c) ≡ false → any_right_of t c ≡ Opens k → ⊥
  unfolding leads opened
  unrevoked c e o = elsewhere k (rw o at e) refl

  -- ---- creation
  seen : (b : Bool) → Alike t (step w (create b)).table k
  unfolding after
  seen b = rw (step_table w (create b)) (create_others t b τ.sound k h.live)

  number_stays : (b : Bool) → StepWays w (create b) (step w (create b)) → (step w (create b)).tenant k ≡ w.tenant k
  number_stays b (settles _ q) = ap (λ (v : World). v.tenant k) q
  number_stays b (births _ j _ _ _ β) = β.others k (λ e. not_both _ h.live (ap (mailbox_live t) e ∙ β.makes.took.box_dead))

  creates : (b : Bool) → Turn w (step w (create b)) n k [] []
  creates b =
      record {
        lives = record { live = (seen b).live ∙ h.live; tenant = number_stays b (step_ways w (create b) τ.sound) ∙ h.tenant };
        kind = (seen b).ephemeral;
        order = (seen b).queue ∙ sym (append-nil _);
      }

  -- ---- every call
  pub turn : (c : Call) → revokes w n c ≡ false → Turn w (step w c) n k (given w n c) (accepted w n c)
  unfolding step answer after on_creation given accepted revokes release_of
  turn (create b) _ = creates b
  turn (send c p row) _ = sends c p row (after-send.send_ways t c p row τ.sound)
  turn (receive c) _ = receives c (after-recv.recv_ways t c τ.sound)
  turn (park c task) _ = parks c task (after-park.park_ways t c task τ.sound)
  turn (queued c) _ = alike t (alike_same t k)
  turn (revoke c) e = alike _ (revoke_others t c τ.sound k (unrevoked c e))
  turn (register words) _ = registers words (after-register.register_call_ways t words τ.sound)
  turn (release x y z v) _ = let a = (released_in t (four_slots x y z v) τ.sound).mailboxes k in stays _ a.live a.ephemeral a.queue
  turn (holders c) _ = alike t (alike_same t k)
  turn (clear task) _ = let a = clear_clears t task in stays _ (a.live k) (a.ephemeral k) (a.queue k)
  turn note_authority _ = alike _ ((note_authority_only t).mailboxes k)
  turn note_state _ = alike _ ((note_state_only t).mailboxes k)
  turn counts _ = alike t (alike_same t k)
