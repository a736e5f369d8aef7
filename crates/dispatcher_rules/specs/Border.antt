-- Request No. 5, refusal 27: every call but making refuses, first of all, a channel table that is not sound and a dispatcher that breaks
-- making's rules, and gives back all that it was lent as it was.
use Rattle.std.specs.Prelude.{Bool, ◌&&◌, ℕ, Err}
use Rattle.laws.specs.Pick.{pick}
use Rattle.capslots.specs.declared.Table.{Table as Rows}
use Rattle.ipc_rules.specs.Sound.{Sound}
use Rattle.ipc_rules.specs.declared.state.Payload.{Payload}
use Rattle.ipc_rules.specs.declared.state.TaskId.{TaskId}
use Rattle.ipc_rules.specs.declared.state.Table.{Table as Channels}
use Rattle.ipc_sound.specs.SoundTest.{sound_test}
use Rattle.dispatcher_rules.specs.Bound.{Bound, bound_test}
use Rattle.dispatcher_rules.specs.Open.{open_refused, open_job_of}
use Rattle.dispatcher_rules.specs.Close.{close_refused, close_job_of}
use Rattle.dispatcher_rules.specs.Slots.{slot_sent, slot_send_of, slot_received, slot_recv_of, slot_parked, slot_park_of}
use Rattle.dispatcher_rules.specs.declared.state.Tag.{Tag}
use Rattle.dispatcher_rules.specs.declared.state.Dispatcher.{Dispatcher}
use Rattle.dispatcher_rules.specs.declared.answers.JobOpening.{JobOpening}
use Rattle.dispatcher_rules.specs.declared.answers.OpenError.TheVariants as opening
use Rattle.dispatcher_rules.specs.declared.answers.JobClosing.{JobClosing}
use Rattle.dispatcher_rules.specs.declared.answers.CloseError.TheVariants as close
use Rattle.dispatcher_rules.specs.declared.answers.SlotSending.{SlotSending}
use Rattle.dispatcher_rules.specs.declared.answers.BySlotError.TheVariants as by_slot_error
use Rattle.dispatcher_rules.specs.declared.answers.SlotReceiving.{SlotReceiving}
use Rattle.dispatcher_rules.specs.declared.answers.SlotParking.{SlotParking}

-- a dispatcher that keeps making's rules, and a sound channel table
pub record Ready (d : Dispatcher) (t : Channels) : Type 0 where
  pub bound : Bound d.count d.variants
  pub sound : Sound t

-- as a test
unfoldable pub ready_test : Dispatcher → Channels → Bool
ready_test d t = sound_test t && bound_test d.count d.variants

module _ (d : Dispatcher) (t : Channels) where
  -- the call's rule where the test holds, and the refusal elsewhere
  unfoldable pub guarded_by : {A : Type 0} → A → A → A
  guarded_by refused rule = pick (ready_test d t) rule refused

module _ (d : Dispatcher) (rows : Rows) (t : Channels) where
  abbrev pub open_job_call : Tag → ℕ → JobOpening
  open_job_call tag x = guarded_by d t (open_refused (Err opening.BadTable) d rows t) (open_job_of d rows t tag x)

  abbrev pub close_job_call : ℕ → JobClosing
  close_job_call p = guarded_by d t (close_refused (Err close.BadTable) d rows t) (close_job_of d rows t p)

  abbrev pub slot_send_call : ℕ → ℕ → Payload → SlotSending
  slot_send_call r s p = guarded_by d t (slot_sent (Err by_slot_error.BadTable) d rows t) (slot_send_of d rows t r s p)

  abbrev pub slot_recv_call : ℕ → ℕ → SlotReceiving
  slot_recv_call r s = guarded_by d t (slot_received (Err by_slot_error.BadTable) d rows t) (slot_recv_of d rows t r s)

  abbrev pub slot_park_call : ℕ → ℕ → TaskId → SlotParking
  slot_park_call r s task = guarded_by d t (slot_parked (Err by_slot_error.BadTable) d rows t) (slot_park_of d rows t r s task)
