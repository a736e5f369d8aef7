-- What the rules promise on every input (specs/Promises.antt) holds. Assumes nothing.
use Rattle.std.specs.Prelude.{Err, Ok, Option, Result}
use mathlib.Core.Path.{◌≡◌, refl, ap}
use mathlib.Core.Bool.{false}
use Prim.Native.Nat.{ℕ, zero, suc}
use native.Mathlib.Omega.{arith}
use lib.ListN.{get_or, replicate}
use Rattle.laws.specs.Pick.{pick}
use Rattle.laws.proofs.Cases.{all_pick, not_both}
use Rattle.cap.specs.declared.CapId.{CapId}
use Rattle.capslots.specs.Rows.{holds_of}
use Rattle.capslots.specs.declared.Table.{Table as Rows}
use Rattle.ipc_rules.specs.declared.state.Payload.{Payload}
use Rattle.ipc_rules.specs.declared.state.TaskId.{TaskId}
use Rattle.ipc_rules.specs.declared.state.Waiter.{Waiter}
use Rattle.ipc_rules.specs.declared.state.Table.{Table as Channels}
use Rattle.ipc_rules.specs.declared.answers.SendError.TheVariants.{BadRow}
use Rattle.ipc_rules.proofs.AfterSend.{row_passes}
use Rattle.ipc_sound.proofs.Decide.{test_of as sound-passes}
use Rattle.dispatcher_rules.specs.Answers.{make_number, close_number, slot_send_number}
use Rattle.dispatcher_rules.specs.State.{no_job, job_at}
use Rattle.dispatcher_rules.specs.Bound.{Bound}
use Rattle.dispatcher_rules.specs.Make.{make_of}
use Rattle.dispatcher_rules.specs.Border.{ready_test, close_job_call, slot_send_call, slot_recv_call, slot_park_call}
use Rattle.dispatcher_rules.specs.Slots.{slot_send_of, slot_recv_of, slot_park_of}
use Rattle.dispatcher_rules.specs.Promises.{Unchanged, Forgotten, UnaskedSlot, SlotRowPasses, ReadyPasses, MadeBound, BoundMade, RefusedMaking, MadeClosed, RefusedOpening, RefusedClosing, ForgottenByClosing}
use Rattle.dispatcher_rules.specs.declared.state.Job.{Job}
use Rattle.dispatcher_rules.specs.declared.state.Dispatcher.{Dispatcher}
use Rattle.dispatcher_rules.specs.declared.answers.Making.{Making}
use Rattle.dispatcher_rules.specs.declared.answers.MakeError.TheVariants.{BadVariants}
use Rattle.dispatcher_rules.specs.declared.answers.JobClosing.{JobClosing}
use Rattle.dispatcher_rules.specs.declared.answers.SlotSending.{SlotSending}
use Rattle.dispatcher_rules.specs.declared.answers.SlotReceiving.{SlotReceiving}
use Rattle.dispatcher_rules.specs.declared.answers.SlotParking.{SlotParking}
use Rattle.dispatcher_rules.proofs.Binds.{bound_of, test_of}
use Rattle.dispatcher_rules.proofs.Named.{names_held, names_row}
use Rattle.dispatcher_rules.proofs.Ways.{all_slotted, guarded_ways}
use Rattle.dispatcher_rules.proofs.Calls.{same, open_call_refused, close_call_refused, close_forgets}
use Rattle.ipc_rules.specs.declared.answers.SendError.{SendError}
use Rattle.ipc_rules.specs.declared.state.Message.{Message}
use Rattle.ipc_rules.specs.declared.answers.RecvError.{RecvError}
use Rattle.ipc_rules.specs.declared.answers.ParkError.{ParkError}

-- ---- making
pub made_bound : MadeBound
unfolding make_of
made_bound n vs =
    all_pick (λ (m : Making). m.answer ≡ Ok tt → Bound n vs × (m.dispatcher.count ≡ n) × (m.dispatcher.variants ≡ vs)) _ _ _
    (λ test _. (bound_of n vs test, refl, refl)) (λ _ e. absurd (omega (arith, ap make_number e)))

pub bound_made : BoundMade
unfolding make_of pick
bound_made n vs b = rw (test_of n vs b)

pub refused_making : RefusedMaking
unfolding make_of
refused_making n vs =
    all_pick (λ (m : Making). m.answer ≡ Err BadVariants → m.dispatcher.count ≡ 0) _ _ _
    (λ _ e. absurd (omega (arith, ap make_number e))) (λ _ _. refl)

-- of n places that are not open none is, nor is what is read past them
all_closed : (n p : ℕ) (past : Job) → past.«open» ≡ false → (get_or (replicate n no_job) p past).«open» ≡ false
all_closed zero p past e = e
all_closed (suc n) zero past e = refl
all_closed (suc n) (suc p) past e = all_closed n p past e

pub made_closed : MadeClosed
unfolding make_of
made_closed n vs p = all_pick (λ (m : Making). (job_at m.dispatcher p).«open» ≡ false) _ _ _ (λ _. all_closed 16 p _ refl) (λ _. all_closed 16 p _ refl)

-- ---- opening and closing
pub refused_opening : RefusedOpening
refused_opening d rows t tag x = open_call_refused d rows t tag x

pub refused_closing : RefusedClosing
refused_closing d rows t p = close_call_refused d rows t p

unheld : (rows : Rows) (c : CapId) → ((r : ℕ) → holds_of rows r c ≡ false) → Forgotten rows c
unheld rows c none = record { by_row = none; by_slot = λ r s e. not_both _ (names_held rows r s c e) (none r) }

module _ (d : Dispatcher) (p : ℕ) (w : Waiter) where
  forgets : JobClosing → Type 0
  forgets o = o.answer ≡ Ok w → Forgotten o.rows (job_at d p).ends.send × Forgotten o.rows (job_at d p).ends.recv

  closed_forgets : (rows : Rows) (t : Channels) → forgets (close_job_call d rows t p)
  unfolding forgets
  closed_forgets rows t =
      guarded_ways forgets d t _ _ (λ e. absurd (omega (arith, ap close_number e)))
      (λ e. let none = close_forgets d rows t p (ap close_number e) in (unheld _ _ (λ r. (none r).0), unheld _ _ (λ r. (none r).1)))

pub forgotten_by_closing : ForgottenByClosing
unfolding forgets
forgotten_by_closing d rows t p w = closed_forgets d p w rows t

-- ---- by row and slot
module _ (d : Dispatcher) (rows : Rows) (t : Channels) (r s : ℕ) where
  unsent : (p : Payload) → let o = slot_send_call d rows t r s p in ((a : Result Waiter SendError) → o.answer ≡ Ok a → ⊥) → Unchanged d rows t o.dispatcher o.rows o.channels
  unfolding slot_send_of
  unsent p =
      guarded_ways Keeps d t _ _ (λ _. same d rows t) (all_slotted Keeps _ _ _ _ (λ _ _ _ _. same d rows t) (λ _ _ _. same d rows t) (λ c _ n. absurd (n _ refl)))
    where
      Keeps : SlotSending → Type 0
      Keeps o = ((a : Result Waiter SendError) → o.answer ≡ Ok a → ⊥) → Unchanged d rows t o.dispatcher o.rows o.channels

  unreceived : let o = slot_recv_call d rows t r s in ((a : Result Message RecvError) → o.answer ≡ Ok a → ⊥) → Unchanged d rows t o.dispatcher o.rows o.channels
  unfolding slot_recv_of
  unreceived =
      guarded_ways Keeps d t _ _ (λ _. same d rows t) (all_slotted Keeps _ _ _ _ (λ _ _ _ _. same d rows t) (λ _ _ _. same d rows t) (λ c _ n. absurd (n _ refl)))
    where
      Keeps : SlotReceiving → Type 0
      Keeps o = ((a : Result Message RecvError) → o.answer ≡ Ok a → ⊥) → Unchanged d rows t o.dispatcher o.rows o.channels

  unparked : (task : TaskId) → let o = slot_park_call d rows t r s task in ((a : Result (Option Message) ParkError) → o.answer ≡ Ok a → ⊥) → Unchanged d rows t o.dispatcher o.rows o.channels
  unfolding slot_park_of
  unparked task =
      guarded_ways Keeps d t _ _ (λ _. same d rows t) (all_slotted Keeps _ _ _ _ (λ _ _ _ _. same d rows t) (λ _ _ _. same d rows t) (λ c _ n. absurd (n _ refl)))
    where
      Keeps : SlotParking → Type 0
      Keeps o = ((a : Result (Option Message) ParkError) → o.answer ≡ Ok a → ⊥) → Unchanged d rows t o.dispatcher o.rows o.channels

pub unasked_slot : UnaskedSlot
unasked_slot d rows t r s = record { send = unsent d rows t r s; receive = unreceived d rows t r s; park = unparked d rows t r s }

pub slot_row_passes : SlotRowPasses
unfolding slot_send_of
slot_row_passes d rows t r s p =
    guarded_ways Passes d t _ _ (λ e. omega (arith, ap slot_send_number e))
    (all_slotted Passes _ _ _ _ (λ _ _ _ e. omega (arith, ap slot_send_number e)) (λ _ _ e. omega (arith, ap slot_send_number e))
    (λ c e q. row_passes t c p r (names_row rows r s c e) (ap slot_send_number q)))
  where
    Passes : SlotSending → Type 0
    Passes o = o.answer ≡ Ok (Err BadRow) → ⊥

-- ---- the test
pub ready_passes : ReadyPasses
unfolding ready_test
ready_passes d t r = simp (sound-passes t r.sound, test_of d.count d.variants r.bound)
