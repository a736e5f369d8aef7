-- What the dispatcher's calls leave: all that was lent as it was, where an opening or a closing is refused; what is ready for the next call,
-- always; and neither id of a closed job in any row. Assumes nothing.
use mathlib.Core.Path.{◌≡◌, refl}
use mathlib.Core.Bool.{true, false}
use Prim.Native.Nat.{ℕ}
use native.Mathlib.Omega.{arith}
use Rattle.cap.specs.declared.CapId.{CapId}
use Rattle.capslots.specs.Rows.{holds_of}
use Rattle.capslots.specs.declared.Table.{Table as Rows}
use Rattle.capslots.proofs.Forgotten.{forgotten_first, forgotten_second}
use Rattle.ipc_rules.specs.Sound.{Sound}
use Rattle.ipc_rules.specs.declared.state.Payload.{Payload}
use Rattle.ipc_rules.specs.declared.state.TaskId.{TaskId}
use Rattle.ipc_rules.specs.declared.state.Table.{Table as Channels}
use Rattle.ipc_rules.proofs.Openings.{all_opened}
use Rattle.ipc_rules.proofs.KeepsCalls.{send_kept, recv_kept, park_kept}
use Rattle.ipc_rules.proofs.KeepsCreate.{create_kept}
use Rattle.ipc_rules.proofs.KeepsRevoke.{revoke_kept}
use Rattle.joined.proofs.Calls.{give_kept}
use Rattle.dispatcher_rules.specs.Answers.{open_number, close_number}
use Rattle.dispatcher_rules.specs.State.{job_at}
use Rattle.dispatcher_rules.specs.Open.{open_job_of}
use Rattle.dispatcher_rules.specs.Close.{end_of, close_job_of}
use Rattle.dispatcher_rules.specs.Slots.{slot_send_of, slot_recv_of, slot_park_of}
use Rattle.dispatcher_rules.specs.Border.{Ready, open_job_call, close_job_call}
use Rattle.dispatcher_rules.specs.Promises.{Unchanged}
use Rattle.dispatcher_rules.specs.declared.state.Tag.{Tag}
use Rattle.dispatcher_rules.specs.declared.state.Dispatcher.{Dispatcher}
use Rattle.dispatcher_rules.specs.declared.answers.Ending.{Ending}
use Rattle.dispatcher_rules.specs.declared.answers.JobOpening.{JobOpening}
use Rattle.dispatcher_rules.specs.declared.answers.JobClosing.{JobClosing}
use Rattle.dispatcher_rules.specs.declared.answers.SlotSending.{SlotSending}
use Rattle.dispatcher_rules.specs.declared.answers.SlotReceiving.{SlotReceiving}
use Rattle.dispatcher_rules.specs.declared.answers.SlotParking.{SlotParking}
use Rattle.dispatcher_rules.proofs.Ways.{all_slotted, guarded_ways, open_ways, close_ways}

module _ (d : Dispatcher) (rows : Rows) (t : Channels) where
  pub same : Unchanged d rows t d rows t
  same = record { dispatcher_kept = refl; rows_kept = refl; channels_kept = refl }

  -- ---- an opening
  open_keeps : JobOpening → Type 0
  open_keeps o = (open_number o.answer ≡ 0 → ⊥) → Unchanged d rows t o.dispatcher o.rows o.channels

  module _ (tag : Tag) (x : ℕ) where
    -- with a ready dispatcher and table, and at the border
    pub open_refused : (open_number (open_job_of d rows t tag x).answer ≡ 0 → ⊥) → Unchanged d rows t (open_job_of d rows t tag x).dispatcher (open_job_of d rows t tag x).rows (open_job_of d rows t tag x).channels
    unfolding open_keeps
    open_refused = open_ways d rows t open_keeps tag x (λ _ _ _. same) (λ _ _ _ _ _ _ n. absurd (n refl))

    pub open_call_refused : (open_number (open_job_call d rows t tag x).answer ≡ 0 → ⊥) → Unchanged d rows t (open_job_call d rows t tag x).dispatcher (open_job_call d rows t tag x).rows (open_job_call d rows t tag x).channels
    unfolding open_keeps
    open_call_refused = guarded_ways open_keeps d t _ _ (λ _. same) open_refused

    pub open_ready : Ready d t → Ready (open_job_of d rows t tag x).dispatcher (open_job_of d rows t tag x).channels
    open_ready w =
        open_ways d rows t (λ (o : JobOpening). Ready o.dispatcher o.channels) tag x (λ _ _. w)
        (λ v p ends s q _. record { bound = w.bound; sound = give_kept _ _ _ _ _ (give_kept _ _ _ _ _ (create_kept t true w.sound)) })

  -- ---- a closing
  close_keeps : JobClosing → Type 0
  close_keeps o = (close_number o.answer ≡ 0 → ⊥) → Unchanged d rows t o.dispatcher o.rows o.channels

  module _ (p : ℕ) where
    pub close_refused : (close_number (close_job_of d rows t p).answer ≡ 0 → ⊥) → Unchanged d rows t (close_job_of d rows t p).dispatcher (close_job_of d rows t p).rows (close_job_of d rows t p).channels
    unfolding close_keeps
    close_refused = close_ways d rows t close_keeps p (λ _. same) (λ _ _ n. absurd (n refl))

    pub close_call_refused : (close_number (close_job_call d rows t p).answer ≡ 0 → ⊥) → Unchanged d rows t (close_job_call d rows t p).dispatcher (close_job_call d rows t p).rows (close_job_call d rows t p).channels
    unfolding close_keeps
    close_call_refused = guarded_ways close_keeps d t _ _ (λ _. same) close_refused

    pub end_kept : (c : CapId) → Sound t → Sound (end_of t c).channels
    unfolding end_of
    end_kept c s = all_opened (λ (e : Ending). Sound e.channels) _ _ _ (λ _. s) (λ _ _. revoke_kept t c s)

    pub close_ready : Ready d t → Ready (close_job_of d rows t p).dispatcher (close_job_of d rows t p).channels
    close_ready w =
        close_ways d rows t (λ (o : JobClosing). Ready o.dispatcher o.channels) p w
        (λ _ _. record { bound = w.bound; sound = end_kept _ w.sound })

    -- no row holds either id of a job that was closed
    pub close_forgets : close_number (close_job_of d rows t p).answer ≡ 0 → (r : ℕ) →
        (holds_of (close_job_of d rows t p).rows r (job_at d p).ends.send ≡ false) × (holds_of (close_job_of d rows t p).rows r (job_at d p).ends.recv ≡ false)
    close_forgets =
        close_ways d rows t
        (λ (o : JobClosing). close_number o.answer ≡ 0 → (r : ℕ) → (holds_of o.rows r (job_at d p).ends.send ≡ false) × (holds_of o.rows r (job_at d p).ends.recv ≡ false))
        p (λ e. absurd (omega arith)) (λ _ _ _ r. (forgotten_first _ _ _ r, forgotten_second _ _ _ r))

  -- ---- by row and slot
  module _ (w : Ready d t) (r s : ℕ) where
    pub send_ready : (p : Payload) → Ready (slot_send_of d rows t r s p).dispatcher (slot_send_of d rows t r s p).channels
    unfolding slot_send_of
    send_ready p =
        all_slotted (λ (o : SlotSending). Ready o.dispatcher o.channels) _ _ _ _ (λ _ _ _. w) (λ _ _. w)
        (λ c _. record { bound = w.bound; sound = send_kept t c p r w.sound })

    pub receive_ready : Ready (slot_recv_of d rows t r s).dispatcher (slot_recv_of d rows t r s).channels
    unfolding slot_recv_of
    receive_ready =
        all_slotted (λ (o : SlotReceiving). Ready o.dispatcher o.channels) _ _ _ _ (λ _ _ _. w) (λ _ _. w)
        (λ c _. record { bound = w.bound; sound = recv_kept t c w.sound })

    pub park_ready : (task : TaskId) → Ready (slot_park_of d rows t r s task).dispatcher (slot_park_of d rows t r s task).channels
    unfolding slot_park_of
    park_ready task =
        all_slotted (λ (o : SlotParking). Ready o.dispatcher o.channels) _ _ _ _ (λ _ _ _. w) (λ _ _. w)
        (λ c _. record { bound = w.bound; sound = park_kept t c task w.sound })
