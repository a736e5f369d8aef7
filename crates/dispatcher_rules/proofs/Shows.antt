-- What the answers show: a refused opening and a refused closing no values, and none more than twelve. Assumes nothing.
use Rattle.std.specs.Prelude.{Err, Ok, Option, Result}
use mathlib.Core.Path.{◌≡◌, refl}
use mathlib.Core.List.{[]}
use native.Mathlib.Omega.{arith}
use lib.Dec.{lit≤}
use Rattle.shown.proofs.Few.{Few}
use Rattle.ipc_rules.specs.declared.state.Waiter.{Waiter}
use Rattle.ipc_rules.proofs.Few.{waiter_few, send_few, recv_few, park_few}
use Rattle.dispatcher_rules.specs.Answers.{open_values, close_values, slot_send_values, slot_recv_values, slot_park_values}
use Rattle.dispatcher_rules.specs.declared.answers.OpenedJob.{OpenedJob}
use Rattle.dispatcher_rules.specs.declared.answers.OpenError.TheVariants as opening
use Rattle.dispatcher_rules.specs.declared.answers.CloseError.TheVariants as close
use Rattle.dispatcher_rules.specs.declared.answers.BySlotError.TheVariants as by_slot_error
use Rattle.dispatcher_rules.specs.declared.answers.OpenError.{OpenError}
use Rattle.dispatcher_rules.specs.declared.answers.CloseError.{CloseError}
use Rattle.ipc_rules.specs.declared.answers.SendError.{SendError}
use Rattle.dispatcher_rules.specs.declared.answers.BySlotError.{BySlotError}
use Rattle.ipc_rules.specs.declared.state.Message.{Message}
use Rattle.ipc_rules.specs.declared.answers.RecvError.{RecvError}
use Rattle.ipc_rules.specs.declared.answers.ParkError.{ParkError}

pub open_none : (a : Result OpenedJob OpenError) → ((j : OpenedJob) → a ≡ Ok j → ⊥) → open_values a ≡ []
open_none (Ok j) h = absurd (h j refl)
open_none (Err opening.NoVariant) h = refl
open_none (Err opening.BadRow) h = refl
open_none (Err opening.JobsFull) h = refl
open_none (Err opening.NoMailbox) h = refl
open_none (Err opening.NoEndpoint) h = refl
open_none (Err opening.BadSlot) h = refl
open_none (Err opening.BadTable) h = refl

pub close_none : (a : Result Waiter CloseError) → ((w : Waiter) → a ≡ Ok w → ⊥) → close_values a ≡ []
close_none (Ok w) h = absurd (h w refl)
close_none (Err close.NoJob) h = refl
close_none (Err close.BadTable) h = refl

pub open_few : (a : Result OpenedJob OpenError) → Few (open_values a)
open_few (Ok j) = lit≤ tt
open_few (Err opening.NoVariant) = lit≤ tt
open_few (Err opening.BadRow) = lit≤ tt
open_few (Err opening.JobsFull) = lit≤ tt
open_few (Err opening.NoMailbox) = lit≤ tt
open_few (Err opening.NoEndpoint) = lit≤ tt
open_few (Err opening.BadSlot) = lit≤ tt
open_few (Err opening.BadTable) = lit≤ tt

pub close_few : (a : Result Waiter CloseError) → Few (close_values a)
close_few (Ok w) = omega (arith, waiter_few w)
close_few (Err close.NoJob) = lit≤ tt
close_few (Err close.BadTable) = lit≤ tt

pub slot_send_few : (a : Result (Result Waiter SendError) BySlotError) → Few (slot_send_values a)
slot_send_few (Ok a) = send_few a
slot_send_few (Err (by_slot_error.OutOfRange s n)) = lit≤ tt
slot_send_few (Err (by_slot_error.Vacant s)) = lit≤ tt
slot_send_few (Err by_slot_error.BadTable) = lit≤ tt

pub slot_recv_few : (a : Result (Result Message RecvError) BySlotError) → Few (slot_recv_values a)
slot_recv_few (Ok a) = recv_few a
slot_recv_few (Err (by_slot_error.OutOfRange s n)) = lit≤ tt
slot_recv_few (Err (by_slot_error.Vacant s)) = lit≤ tt
slot_recv_few (Err by_slot_error.BadTable) = lit≤ tt

pub slot_park_few : (a : Result (Result (Option Message) ParkError) BySlotError) → Few (slot_park_values a)
slot_park_few (Ok a) = park_few a
slot_park_few (Err (by_slot_error.OutOfRange s n)) = lit≤ tt
slot_park_few (Err (by_slot_error.Vacant s)) = lit≤ tt
slot_park_few (Err by_slot_error.BadTable) = lit≤ tt
