-- Runs that are computed: the rules are not for nothing, and refuse in the request's order. Assumes nothing.
use Rattle.std.specs.Prelude.{Err, None, Ok, Result}
use mathlib.Core.Path.{◌≡◌, refl}
use mathlib.Core.List.{List, [], ◌∷◌}
use Prim.Native.Nat.{ℕ}
use lib.ListN.{replicate}
use Rattle.laws.specs.Pick as picks
use Rattle.laws.specs.Every as everys
use Rattle.laws.specs.Search as places
use Rattle.cap.specs.Id.{id_of}
use Rattle.cap.specs.Slot as slots
use Rattle.capslots.specs.Table.{empty_row, fresh_table, slot_in}
use Rattle.capslots.specs.Rows as rowcalls
use Rattle.capslots.specs.declared.Table.{Table as Rows}
use Rattle.mint.specs.Generation as generations
use Rattle.ipc_rules.specs.State.{waiting, sizes_of}
use Rattle.ipc_rules.specs.Make.{fresh_of}
use Rattle.ipc_rules.specs.Create as creations
use Rattle.ipc_rules.specs.Receive as receives
use Rattle.ipc_rules.specs.Holds as holds
use Rattle.ipc_rules.specs.Revoke as revokes
use Rattle.ipc_rules.specs.Observe as observes
use Rattle.ipc_rules.specs.Opening as openings
use Rattle.ipc_rules.specs.Counts as raises
use Rattle.ipc_rules.specs.declared.state.Sizes.{Sizes}
use Rattle.ipc_rules.specs.declared.state.TaskId.{TaskId}
use Rattle.ipc_rules.specs.declared.state.Table.{Table as Channels}
use Rattle.joined.specs.Steps as joins
use Rattle.dispatcher_rules.specs.State.{no_variant, no_ends, fresh_dispatcher, open_job}
use Rattle.dispatcher_rules.specs.Bound as bounds
use Rattle.dispatcher_rules.specs.Make.{make_of}
use Rattle.dispatcher_rules.specs.Open.{creates, gives_both, open_job_of}
use Rattle.dispatcher_rules.specs.Close.{end_of, close_job_of}
use Rattle.dispatcher_rules.specs.Slots.{slotted, slot_park_of}
use Rattle.dispatcher_rules.specs.declared.state.Tag.{Tag}
use Rattle.dispatcher_rules.specs.declared.state.Variant.{Variant}
use Rattle.dispatcher_rules.specs.declared.state.Dispatcher.{Dispatcher}
use Rattle.dispatcher_rules.specs.declared.answers.MakeError.TheVariants.{BadVariants}
use Rattle.dispatcher_rules.specs.declared.answers.JobOpening.{JobOpening}
use Rattle.dispatcher_rules.specs.declared.answers.OpenError.TheVariants.{NoVariant, BadRow, JobsFull, NoMailbox, NoEndpoint, BadSlot}
use Rattle.dispatcher_rules.specs.declared.answers.JobClosing.{JobClosing}
use Rattle.dispatcher_rules.specs.declared.answers.SlotParking.{SlotParking}
use Rattle.dispatcher_rules.specs.declared.answers.OpenedJob.{OpenedJob}
use Rattle.dispatcher_rules.specs.declared.answers.OpenError.{OpenError}

-- `pt-PT` bound to row 1, `fr-FR` to row 2
abbrev pt : Tag
pt = record { bytes = 112 ∷ 116 ∷ 45 ∷ 80 ∷ 84 ∷ [] }

abbrev fr : Tag
fr = record { bytes = 102 ∷ 114 ∷ 45 ∷ 70 ∷ 82 ∷ [] }

abbrev to : Tag → ℕ → Variant
to tag row = record { tag = tag; row = row }

abbrev with : Variant → Variant → List Variant
with a b = a ∷ b ∷ replicate 14 no_variant

abbrev variants : List Variant
variants = with (to pt 1) (to fr 2)

-- ---- making
pub made : make_of 2 variants ≡ record { answer = Ok tt; dispatcher = fresh_dispatcher 2 variants }
unfolding make_of bounds.bound_test everys.every picks.pick
made = refl

-- equal tags, a row from 54 up, more than 16; what is past the count is not looked at
pub not_made : ((make_of 2 (with (to pt 1) (to pt 2))).answer ≡ Err BadVariants) × ((make_of 2 (with (to pt 1) (to fr 54))).answer ≡ Err BadVariants)
    × ((make_of 17 variants).answer ≡ Err BadVariants) × ((make_of 1 (with (to pt 1) (to pt 54))).answer ≡ Ok tt)
unfolding make_of bounds.bound_test everys.every picks.pick
not_made = (refl, refl, refl, refl)

-- ---- opening, on fresh tables with room for one channel
abbrev table : Channels
table = fresh_of (sizes_of 1 2 1)

abbrev first : ℕ → JobOpening
first x = open_job_of (fresh_dispatcher 2 variants) fresh_table table pt x

abbrev opened : Result OpenedJob OpenError
opened = Ok (record { place = 0; send = id_of 0 1; recv = id_of 1 1 })

-- the send id in the extractor's row, the receive id in the variant's
pub two_rows : ((first 0).answer ≡ opened) × (slot_in (first 0).rows 0 0 ≡ slots.holding (id_of 0 1)) × (slot_in (first 0).rows 1 0 ≡ slots.holding (id_of 1 1))
unfolding open_job_of creates gives_both rowcalls.empty_slot_of rowcalls.install_of joins.give_of joins.installs creations.create_of holds.registered openings.opened openings.hold_of openings.opening_of openings.open_of generations.next_generation raises.raised places.found places.lowest_free places.lowest picks.pick openings.attempt_of openings.told
two_rows = (refl, refl, refl)

-- both in one row, the second in the slot that the first leaves
pub one_row : ((first 1).answer ≡ opened) × (slot_in (first 1).rows 1 0 ≡ slots.holding (id_of 0 1)) × (slot_in (first 1).rows 1 1 ≡ slots.holding (id_of 1 1))
unfolding open_job_of creates gives_both rowcalls.empty_slot_of rowcalls.install_of joins.give_of joins.installs creations.create_of holds.registered openings.opened openings.hold_of openings.opening_of openings.open_of generations.next_generation raises.raised places.found places.lowest_free places.lowest picks.pick openings.attempt_of openings.told
one_row = (refl, refl, refl)

-- one hold on the channel, by the send id alone
pub one_hold : observes.holders_of (first 0).channels (id_of 0 1) ≡ Ok 1
unfolding observes.holders_of open_job_of creates gives_both rowcalls.empty_slot_of rowcalls.install_of joins.give_of joins.installs creations.create_of holds.registered openings.opened openings.hold_of openings.opening_of openings.open_of generations.next_generation raises.raised places.found places.lowest_free places.lowest picks.pick openings.attempt_of openings.told
one_hold = refl

-- ---- each refusal before the next: 29, 19, 30, 6, 7, 10. With 10 the table is as it was, its next generation too.
abbrev full : Dispatcher
full = record { count = 2; variants = variants; jobs = replicate 16 (open_job no_ends pt) }

-- no empty slot in row 0
abbrev taken : Rows
taken = record { rows = record { slots = replicate 4 (slots.holding (id_of 9 9)) } ∷ replicate 53 empty_row }

abbrev refuses : Dispatcher → Sizes → Tag → ℕ → Result OpenedJob OpenError → Type 0
refuses d z tag x a = (open_job_of d taken (fresh_of z) tag x).answer ≡ a

pub no_variant_lem : refuses full (sizes_of 0 0 1) no_variant.tag 54 (Err NoVariant)
unfolding open_job_of places.found places.lowest_free places.lowest picks.pick
no_variant_lem = refl

pub bad_row : refuses full (sizes_of 0 0 1) pt 54 (Err BadRow)
unfolding open_job_of places.found places.lowest_free places.lowest picks.pick
bad_row = refl

pub jobs_full : refuses full (sizes_of 0 0 1) pt 0 (Err JobsFull)
unfolding open_job_of places.found places.lowest_free places.lowest picks.pick
jobs_full = refl

pub no_mailbox : refuses (fresh_dispatcher 2 variants) (sizes_of 0 0 1) pt 0 (Err NoMailbox)
unfolding open_job_of creates creations.create_of places.found places.lowest_free places.lowest picks.pick
no_mailbox = refl

pub no_endpoint : refuses (fresh_dispatcher 2 variants) (sizes_of 1 1 1) pt 0 (Err NoEndpoint)
unfolding open_job_of creates creations.create_of places.found places.lowest_free places.lowest picks.pick
no_endpoint = refl

pub bad_slot : refuses (fresh_dispatcher 2 variants) (sizes_of 1 2 1) pt 0 (Err BadSlot)
    × ((open_job_of (fresh_dispatcher 2 variants) taken table pt 0).channels ≡ table)
unfolding open_job_of creates gives_both rowcalls.empty_slot_of creations.create_of generations.next_generation places.found places.lowest_free places.lowest picks.pick
bad_slot = (refl, refl)

-- ---- a task parks by row and slot, and the closing answers it; after it dispatcher and rows are as when fresh
abbrev task : TaskId
task = record { slot = 7; epoch = 3 }

pub job : JobOpening
job = first 0

pub parking : SlotParking
parking = slot_park_of job.dispatcher job.rows job.channels 1 0 task

pub closing : JobClosing
closing = close_job_of parking.dispatcher parking.rows parking.channels 0

pub no_second_channel : (open_job_of job.dispatcher job.rows job.channels fr 0).answer ≡ Err NoMailbox
unfolding job open_job_of creates gives_both rowcalls.empty_slot_of rowcalls.install_of joins.give_of joins.installs creations.create_of holds.registered openings.opened openings.hold_of openings.opening_of openings.open_of generations.next_generation raises.raised places.found places.lowest_free places.lowest picks.pick openings.attempt_of openings.told
no_second_channel = refl

pub task_parked : parking.answer ≡ Ok (Ok None)
unfolding job parking slot_park_of slotted rowcalls.get_of slots.from_slot receives.park_of open_job_of creates gives_both rowcalls.empty_slot_of rowcalls.install_of joins.give_of joins.installs creations.create_of holds.registered openings.opened openings.hold_of openings.opening_of openings.open_of generations.next_generation raises.raised places.found places.lowest_free places.lowest picks.pick openings.attempt_of openings.told
task_parked = refl

pub job_closed : (closing.answer ≡ Ok (waiting task)) × (closing.dispatcher ≡ fresh_dispatcher 2 variants) × (closing.rows ≡ fresh_table)
unfolding job parking closing close_job_of end_of revokes.revoke_of openings.any_right_of openings.open_any rowcalls.forgotten_of rowcalls.forget_in slot_park_of slotted rowcalls.get_of slots.from_slot receives.park_of open_job_of creates gives_both rowcalls.empty_slot_of rowcalls.install_of joins.give_of joins.installs creations.create_of holds.registered openings.opened openings.hold_of openings.opening_of openings.open_of generations.next_generation raises.raised places.found places.lowest_free places.lowest picks.pick openings.attempt_of openings.told
job_closed = (refl, refl, refl)
