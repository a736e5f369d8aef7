-- The ways that the dispatcher's calls can go: what holds of each way holds of the call. Assumes nothing.
use Rattle.std.specs.Prelude.{Some, Err, Ok, Result}
use mathlib.Core.Path.{◌≡◌, refl}
use mathlib.Core.Bool.{true}
use Prim.Native.Nat.{ℕ, ◌<◌}
use native.Mathlib.Omega.{arith}
use borrow.Author.Tests.{leb-false}
use Rattle.laws.proofs.Cases.{all_pick, all_found}
use Rattle.cap.specs.declared.CapId.{CapId}
use Rattle.cap.specs.declared.slot.SlotError.TheVariants.{OutOfRange, Vacant}
use Rattle.capslots.specs.Rows.{empty_slot_of}
use Rattle.capslots.specs.declared.Table.{Table as Rows}
use Rattle.ipc_rules.specs.Create.{create_of}
use Rattle.ipc_rules.specs.declared.state.Channel.{Channel}
use Rattle.ipc_rules.specs.declared.state.Table.{Table as Channels}
use Rattle.ipc_rules.specs.declared.answers.CreateError.TheVariants as create
use Rattle.dispatcher_rules.specs.Answers.{open_number}
use Rattle.dispatcher_rules.specs.State.{row_of, job_at}
use Rattle.dispatcher_rules.specs.Open.{variant_of, free_place, open_refused, creates, send_given, both_given, gives_both, job_opened, open_job_of}
use Rattle.dispatcher_rules.specs.Close.{close_refused, job_closed, close_job_of}
use Rattle.dispatcher_rules.specs.Slots.{slotted}
use Rattle.dispatcher_rules.specs.Border.{guarded_by}
use Rattle.dispatcher_rules.specs.declared.state.Tag.{Tag}
use Rattle.dispatcher_rules.specs.declared.state.Dispatcher.{Dispatcher}
use Rattle.dispatcher_rules.specs.declared.answers.JobOpening.{JobOpening}
use Rattle.dispatcher_rules.specs.declared.answers.OpenError.TheVariants as opening
use Rattle.dispatcher_rules.specs.declared.answers.JobClosing.{JobClosing}
use Rattle.dispatcher_rules.specs.declared.answers.CloseError.TheVariants as close
use Rattle.cap.specs.declared.slot.SlotError.{SlotError}
use Rattle.ipc_rules.specs.declared.answers.CreateError.{CreateError}
use Rattle.dispatcher_rules.specs.declared.answers.OpenedJob.{OpenedJob}
use Rattle.dispatcher_rules.specs.declared.answers.OpenError.{OpenError}

-- ---- what holds of each way of a choice holds of the choice
pub all_slotted : {A : Type 0} (P : A → Type 0) (o : Result CapId SlotError) (out : ℕ → ℕ → A) (vacant : ℕ → A) (named : CapId → A) →
    ((s n : ℕ) → o ≡ Err (OutOfRange s n) → P (out s n)) → ((s : ℕ) → o ≡ Err (Vacant s) → P (vacant s)) → ((c : CapId) → o ≡ Ok c → P (named c)) →
    P (slotted o out vacant named)
unfolding slotted
all_slotted P (Err (OutOfRange s n)) out vacant named x y z = x s n refl
all_slotted P (Err (Vacant s)) out vacant named x y z = y s refl
all_slotted P (Ok c) out vacant named x y z = z c refl

all_creates : {A : Type 0} (P : A → Type 0) (o : Result Channel CreateError) (refused : Result OpenedJob OpenError → A) (done : Channel → A) →
    ((a : Result OpenedJob OpenError) → (open_number a ≡ 0 → ⊥) → P (refused a)) →
    ((ends : Channel) → o ≡ Ok ends → P (done ends)) → P (creates o refused done)
unfolding creates
all_creates P (Ok ends) refused done bad good = good ends refl
all_creates P (Err create.NoMailbox) refused done bad good = bad (Err opening.NoMailbox) (λ e. omega arith)
all_creates P (Err create.NoEndpoint) refused done bad good = bad (Err opening.NoEndpoint) (λ e. omega arith)
all_creates P (Err create.BadTable) refused done bad good = bad (Err opening.BadTable) (λ e. omega arith)

-- at the border: the refusal (27), or the call
pub guarded_ways : {A : Type 0} (P : A → Type 0) (d : Dispatcher) (t : Channels) (refusal rule : A) → P refusal → P rule → P (guarded_by d t refusal rule)
unfolding guarded_by
guarded_ways P d t refusal rule bad done = all_pick P _ _ _ (λ _. done) (λ _. bad)

module _ (d : Dispatcher) (rows : Rows) (t : Channels) where
  -- what an opening that succeeds has found: variant v, place p, the new channel's ids, slot s of row x and slot q of the variant's row
  pub record Opens (tag : Tag) (x v p : ℕ) (ends : Channel) (s q : ℕ) : Type 0 where
    pub variant : variant_of d tag ≡ Some v
    pub row : x < 54
    pub place : free_place d ≡ Some p
    pub created : (create_of t true).answer ≡ Ok ends
    pub first : empty_slot_of rows x ≡ Some s
    pub second : empty_slot_of (send_given (create_of t true).table rows ends x s).rows (row_of d v) ≡ Some q

  pub open_ways : (P : JobOpening → Type 0) (tag : Tag) (x : ℕ)
      → ((a : Result OpenedJob OpenError) → (open_number a ≡ 0 → ⊥) → P (open_refused a d rows t))
      → ((v p : ℕ) (ends : Channel) (s q : ℕ) → Opens tag x v p ends s q → P (job_opened d p tag ends (both_given (create_of t true).table rows ends x s (row_of d v) q)))
      → P (open_job_of d rows t tag x)
  unfolding open_job_of gives_both
  open_ways P tag x bad done =
      all_found P _ _ _ (λ _. bad (Err opening.NoVariant) (λ e. omega arith))
      (λ v variant. all_pick P _ _ _ (λ _. bad (Err opening.BadRow) (λ e. omega arith))
      (λ l. all_found P _ _ _ (λ _. bad (Err opening.JobsFull) (λ e. omega arith))
      (λ p place. all_creates P _ _ _ bad
      (λ ends created. all_found P _ _ _ (λ _. bad (Err opening.BadSlot) (λ e. omega arith))
      (λ s first. all_found P _ _ _ (λ _. bad (Err opening.BadSlot) (λ e. omega arith))
      (λ q second. done v p ends s q (record { variant = variant; row = leb-false 54 x l; place = place; created = created; first = first; second = second })))))))

  pub close_ways : (P : JobClosing → Type 0) (p : ℕ) → P (close_refused (Err close.NoJob) d rows t)
      → (p < 16 → (job_at d p).«open» ≡ true → P (job_closed d rows t p (job_at d p))) → P (close_job_of d rows t p)
  unfolding close_job_of
  close_ways P p bad done = all_pick P _ _ _ (λ _. bad) (λ l. all_pick P _ _ _ (λ o. done (leb-false 16 p l) o) (λ _. bad))
