-- Two jobs, pt-PT and pt-BR, computed: a sentence sent for each, and each handed out in the row that its tag is bound to; then the customer's
-- accident, an old slot tried after its job was closed. The premises are met, and the theorems say from which job each came. Assumes
-- nothing.
use Rattle.std.specs.Prelude.{Err, None, Ok}
use mathlib.Core.Path.{◌≡◌, refl, ap, ◌∙◌}
use mathlib.Core.List.{List, [], ◌∷◌}
use Prim.Native.Nat.{ℕ}
use lib.ListN.{replicate}
use Rattle.laws.specs.Pick.{pick}
use Rattle.laws.specs.Every.{every}
use Rattle.laws.specs.Search.{found, lowest, lowest_free}
use Rattle.cap.specs.Slot.{from_slot}
use Rattle.capslots.specs.Rows.{get_of, install_of, empty_slot_of, forget_in, forgotten_of}
use Rattle.mint.specs.Generation.{next_generation}
use Rattle.ipc_rules.specs.State.{sizes_of}
use Rattle.ipc_rules.specs.Counts.{raised}
use Rattle.ipc_rules.specs.Create.{create_of}
use Rattle.ipc_rules.specs.Holds.{registered}
use Rattle.ipc_rules.specs.Opening.{attempt_of, told, open_of, open_any, opening_of, any_right_of, hold_of, opened as onOpening}
use Rattle.ipc_rules.specs.Send.{send_of}
use Rattle.ipc_rules.specs.Receive.{recv_of, park_of}
use Rattle.ipc_rules.specs.Revoke.{killed, wiped, revoke_of}
use Rattle.ipc_rules.specs.declared.state.Message.{Message}
use Rattle.ipc_rules.specs.declared.state.Payload.{Payload}
use Rattle.ipc_rules.specs.declared.state.TaskId.{TaskId}
use Rattle.joined.specs.Steps.{give_of, installs}
use Rattle.history.specs.Traffic.{by_receive}
use Rattle.dispatcher_rules.specs.State.{no_variant}
use Rattle.dispatcher_rules.specs.Bound.{bound_test}
use Rattle.dispatcher_rules.specs.Make.{make_of}
use Rattle.dispatcher_rules.specs.Open.{creates, gives_both, open_job_of}
use Rattle.dispatcher_rules.specs.Close.{end_of, close_job_of}
use Rattle.dispatcher_rules.specs.Slots.{slotted, slot_send_of, slot_recv_of, slot_park_of}
use Rattle.dispatcher_rules.specs.declared.state.Desk.{Desk}
use Rattle.dispatcher_rules.specs.declared.state.Tag.{Tag}
use Rattle.dispatcher_rules.specs.declared.state.Variant.{Variant}
use Rattle.dispatcher_rules.specs.declared.answers.SlotReceiving.{SlotReceiving}
use Rattle.dispatcher_rules.specs.declared.answers.BySlotError.TheVariants.{Vacant}
use Rattle.dispatcher_rules.specs.declared.answers.SlotParking.{SlotParking}
use Rattle.isolation.specs.Runs.{JobCall, open_for, close, send, receive, park, receiving, run, start, Reached, fresh}
use Rattle.isolation.specs.Jobs.{if_received, handed_to}
use Rattle.isolation.specs.Isolation.{FromItsJob}
use Rattle.isolation.specs.Waits.{WaitsFor}
use Rattle.isolation.proofs.Isolation.{isolation}
use Rattle.isolation.proofs.Reaches.{serves, all_kept, start_kept, reached_run}
use Rattle.isolation.proofs.Waits.{parked_waits}
use Rattle.isolation.proofs.Rules.{rule_after, rule_run, run_rule}

abbrev pt_PT : Tag
pt_PT = record { bytes = 112 ∷ 116 ∷ 45 ∷ 80 ∷ 84 ∷ [] }

abbrev pt_BR : Tag
pt_BR = record { bytes = 112 ∷ 116 ∷ 45 ∷ 66 ∷ 82 ∷ [] }

-- the one bound to row 3, the other to row 4
abbrev variants : List Variant
variants = record { tag = pt_PT; row = 3 } ∷ record { tag = pt_BR; row = 4 } ∷ replicate 14 no_variant

abbrev our_parts : Payload
our_parts = record { tag = 7; a = 100; b = 200 }

abbrev their_parts : Payload
their_parts = record { tag = 8; a = 300; b = 400 }

-- as row 1 writes them
abbrev ours : Message
ours = record { tag = 7; row = 1; a = 100; b = 200 }

abbrev theirs : Message
theirs = record { tag = 8; row = 1; a = 300; b = 400 }

-- the extractor, row 1, has the send ids of both jobs in its slots 0 and 1
abbrev morning : List JobCall
morning = open_for pt_PT 1 ∷ open_for pt_BR 1 ∷ send 1 0 our_parts ∷ send 1 1 their_parts ∷ []

made : (make_of 2 variants).answer ≡ Ok tt
unfolding make_of bound_test every pick
made = refl

abbrev begun : Desk
begun = start (sizes_of 2 4 1) 2 variants

abbrev desk : Desk
desk = run begun morning

pub reached : Reached desk
reached = reached_run (fresh (sizes_of 2 4 1) refl 2 variants made) morning

-- what a receiving answers after a run, by the rules
answered : (calls : List JobCall) (r s : ℕ) → let v = rule_run begun calls in (receiving (run begun calls) r s).answer ≡ (slot_recv_of v.dispatcher v.rows v.channels r s).answer
answered calls r s =
    let u = run begun calls in
    let ρ = reached_run (fresh (sizes_of 2 4 1) refl 2 variants made) calls in
    ap (λ (o : SlotReceiving). o.answer) (serves u.dispatcher u.channels (all_kept u ρ).ready _ _)
    ∙ ap (λ (v : Desk). (slot_recv_of v.dispatcher v.rows v.channels r s).answer) (run_rule begun (start_kept (sizes_of 2 4 1) refl 2 variants made) calls)

-- what each row gets, by the rules
by_rule : (if_received (slot_recv_of (rule_run begun morning).dispatcher (rule_run begun morning).rows (rule_run begun morning).channels 3 0).answer ≡ ours ∷ [])
    × (if_received (slot_recv_of (rule_run begun morning).dispatcher (rule_run begun morning).rows (rule_run begun morning).channels 4 0).answer ≡ theirs ∷ [])
unfolding rule_run rule_after make_of bound_test every open_job_of creates gives_both slot_send_of slot_recv_of slotted if_received by_receive get_of from_slot empty_slot_of install_of give_of installs create_of registered onOpening hold_of opening_of open_of next_generation raised send_of recv_of found lowest_free lowest pick attempt_of told
by_rule = (refl, refl)

-- and so by the calls
pub ours_handed : handed_to desk 3 (receive 3 0) ≡ ours ∷ []
unfolding handed_to pick
ours_handed = ap if_received (answered morning 3 0) ∙ by_rule.0

pub theirs_handed : handed_to desk 4 (receive 4 0) ≡ theirs ∷ []
unfolding handed_to pick
theirs_handed = ap if_received (answered morning 4 0) ∙ by_rule.1

-- by the theorem, each from a job whose tag is bound to that row
pub ours_from : FromItsJob begun morning (receive 3 0) 3 ours
ours_from = isolation (sizes_of 2 4 1) refl 2 variants made morning (receive 3 0) 3 ours ours_handed

pub theirs_from : FromItsJob begun morning (receive 4 0) 4 theirs
theirs_from = isolation (sizes_of 2 4 1) refl 2 variants made morning (receive 4 0) 4 theirs theirs_handed

-- ---- request No. 10: two rows write the same for one tag, each in a job of its own, and the filter is told which row wrote what it gets
abbrev both : List JobCall
both = open_for pt_PT 1 ∷ open_for pt_PT 2 ∷ send 2 0 our_parts ∷ send 1 0 our_parts ∷ []

abbrev by_row_2 : Message
by_row_2 = record { tag = 7; row = 2; a = 100; b = 200 }

told_by_rule : (if_received (slot_recv_of (rule_run begun both).dispatcher (rule_run begun both).rows (rule_run begun both).channels 3 0).answer ≡ ours ∷ [])
    × (if_received (slot_recv_of (rule_run begun both).dispatcher (rule_run begun both).rows (rule_run begun both).channels 3 1).answer ≡ by_row_2 ∷ [])
unfolding rule_run rule_after make_of bound_test every open_job_of creates gives_both slot_send_of slot_recv_of slotted if_received by_receive get_of from_slot empty_slot_of install_of give_of installs create_of registered onOpening hold_of opening_of open_of next_generation raised send_of recv_of found lowest_free lowest pick attempt_of told
told_by_rule = (refl, refl)

pub first_told : handed_to (run begun both) 3 (receive 3 0) ≡ ours ∷ []
unfolding handed_to pick
first_told = ap if_received (answered both 3 0) ∙ told_by_rule.0

pub second_told : handed_to (run begun both) 3 (receive 3 1) ≡ by_row_2 ∷ []
unfolding handed_to pick
second_told = ap if_received (answered both 3 1) ∙ told_by_rule.1

-- by the theorem its stamp is the row that its job was opened for
pub second_writer : FromItsJob begun both (receive 3 1) 3 by_row_2
second_writer = isolation (sizes_of 2 4 1) refl 2 variants made both (receive 3 1) 3 by_row_2 second_told

-- ---- and the customer's accident: the European filter waits by its slot, its job is closed, and a Brazilian one takes the same place, the
-- same slot of the extractor and the same mailbox
abbrev filter : TaskId
filter = record { slot = 2; epoch = 0 }

abbrev evening : List JobCall
evening = open_for pt_PT 1 ∷ park 3 0 filter ∷ close 0 ∷ open_for pt_BR 1 ∷ send 1 0 their_parts ∷ []

abbrev later : Desk
later = run begun evening

abbrev ruled : Desk
ruled = rule_run begun evening

-- by the rules the old slot is empty, and the sentence comes out in the other row
later_by_rule : ((slot_recv_of ruled.dispatcher ruled.rows ruled.channels 3 0).answer ≡ Err (Vacant 0))
    × (if_received (slot_recv_of ruled.dispatcher ruled.rows ruled.channels 4 0).answer ≡ theirs ∷ [])
unfolding rule_run rule_after make_of bound_test every open_job_of creates gives_both close_job_of end_of slot_send_of slot_recv_of slot_park_of slotted if_received by_receive get_of from_slot empty_slot_of install_of forgotten_of forget_in give_of installs create_of registered revoke_of killed wiped onOpening hold_of opening_of open_of any_right_of open_any next_generation raised send_of recv_of park_of found lowest_free lowest pick attempt_of told
later_by_rule = (refl, refl)

pub old_slot : (receiving later 3 0).answer ≡ Err (Vacant 0)
old_slot = answered evening 3 0 ∙ later_by_rule.0

pub theirs_later : handed_to later 4 (receive 4 0) ≡ theirs ∷ []
unfolding handed_to pick
theirs_later = ap if_received (answered evening 4 0) ∙ later_by_rule.1

pub theirs_from_later : FromItsJob begun evening (receive 4 0) 4 theirs
theirs_from_later = isolation (sizes_of 2 4 1) refl 2 variants made evening (receive 4 0) 4 theirs theirs_later

-- the filter parks, and the closing is what answers it
abbrev parked : Desk
parked = run begun (open_for pt_PT 1 ∷ [])

park_by_rule : (slot_park_of (rule_run begun (open_for pt_PT 1 ∷ [])).dispatcher (rule_run begun (open_for pt_PT 1 ∷ [])).rows (rule_run begun (open_for pt_PT 1 ∷ [])).channels 3 0 filter).answer ≡ Ok (Ok None)
unfolding rule_run rule_after make_of bound_test every open_job_of creates gives_both slot_park_of slotted get_of from_slot empty_slot_of install_of give_of installs create_of registered onOpening hold_of opening_of open_of next_generation raised park_of found lowest_free lowest pick attempt_of told
park_by_rule = refl

pub filter_waits : WaitsFor parked 3 0 filter
filter_waits =
    let ρ = reached_run (fresh (sizes_of 2 4 1) refl 2 variants made) (open_for pt_PT 1 ∷ []) in
    parked_waits parked ρ 3 0 filter
    (ap (λ (o : SlotParking). o.answer) (serves parked.dispatcher parked.channels (all_kept parked ρ).ready _ _)
    ∙ ap (λ (v : Desk). (slot_park_of v.dispatcher v.rows v.channels 3 0 filter).answer) (run_rule begun (start_kept (sizes_of 2 4 1) refl 2 variants made) (open_for pt_PT 1 ∷ []))
    ∙ park_by_rule)
