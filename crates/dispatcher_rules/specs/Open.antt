-- Request No. 5, opening a job for a tag: all or nothing. A refused opening gives back what it was lent, the generation included.
use Rattle.std.specs.Prelude.{true, not, ℕ, leb, Option, Err, Ok, Result}
use Rattle.laws.specs.Pick.{pick}
use Rattle.laws.specs.Search.{found, lowest_free}
use Rattle.capslots.specs.Rows.{empty_slot_of}
use Rattle.capslots.specs.declared.Table.{Table as Rows}
use Rattle.ipc_rules.specs.Create.{create_of}
use Rattle.ipc_rules.specs.declared.state.Channel.{Channel}
use Rattle.ipc_rules.specs.declared.state.Table.{Table as Channels}
use Rattle.ipc_rules.specs.declared.answers.CreateError.TheVariants as create
use Rattle.joined.specs.Steps.{give_of}
use Rattle.joined.specs.declared.answers.Giving.{Giving}
use Rattle.dispatcher_rules.specs.State.{variant_in, row_of, job_at, open_job, with_job}
use Rattle.dispatcher_rules.specs.Bound.{same_tag}
use Rattle.dispatcher_rules.specs.declared.state.Tag.{Tag}
use Rattle.dispatcher_rules.specs.declared.state.Dispatcher.{Dispatcher}
use Rattle.dispatcher_rules.specs.declared.answers.JobOpening.{JobOpening}
use Rattle.dispatcher_rules.specs.declared.answers.OpenError.TheVariants as opening
use Rattle.ipc_rules.specs.declared.answers.CreateError.{CreateError}
use Rattle.dispatcher_rules.specs.declared.answers.OpenedJob.{OpenedJob}
use Rattle.dispatcher_rules.specs.declared.answers.OpenError.{OpenError}

-- the variant that has the tag: the search passes over those that have another
abbrev pub variant_of : Dispatcher → Tag → Option ℕ
variant_of d tag = lowest_free (λ i. not (same_tag (variant_in d.variants i).tag tag)) 0 d.count

-- the lowest place that is not open
abbrev pub free_place : Dispatcher → Option ℕ
free_place d = lowest_free (λ p. (job_at d p).«open») 0 16

-- a refused opening changes nothing
abbrev pub open_refused : Result OpenedJob OpenError → Dispatcher → Rows → Channels → JobOpening
open_refused a d rows t = record { answer = a; dispatcher = d; rows = rows; channels = t }

-- what refuses a creation refuses the opening
abbrev pub refused_creation : CreateError → OpenError
refused_creation create.NoMailbox = opening.NoMailbox
refused_creation create.NoEndpoint = opening.NoEndpoint
refused_creation create.BadTable = opening.BadTable

-- what follows from a creation: its refusal, or what is done with the two ids
unfoldable pub creates : {A : Type 0} → Result Channel CreateError → (Result OpenedJob OpenError → A) → (Channel → A) → A
creates (Ok ends) refused done = done ends
creates (Err e) refused done = refused (Err (refused_creation e))

-- the send id given to slot s of row x, and after it the receive id to slot q of row v
abbrev pub send_given : Channels → Rows → Channel → ℕ → ℕ → Giving
send_given t rows ends x s = give_of t rows x s ends.send

abbrev pub both_given : Channels → Rows → Channel → ℕ → ℕ → ℕ → ℕ → Giving
both_given t rows ends x s v q = give_of (send_given t rows ends x s).channels (send_given t rows ends x s).rows v q ends.recv

-- each in the lowest empty slot of its row, the second of those that the first leaves
unfoldable pub gives_both : {A : Type 0} → Channels → Rows → Channel → ℕ → ℕ → A → (Giving → A) → A
gives_both t rows ends x v lacking done =
    found (empty_slot_of rows x) lacking (λ s.
    found (empty_slot_of (send_given t rows ends x s).rows v) lacking (λ q.
    done (both_given t rows ends x s v q)))

-- the job stands in its place
abbrev pub job_opened : Dispatcher → ℕ → Tag → Channel → Giving → JobOpening
job_opened d p tag ends given =
    record {
      answer = Ok (record { place = p; send = ends.send; recv = ends.recv });
      dispatcher = with_job d p (open_job ends tag);
      rows = given.rows;
      channels = given.channels;
    }

-- an ephemeral channel made for the job, and its ids handed out: none to be had (6, 7), an empty slot missing (10)
abbrev pub job_made : Dispatcher → Rows → Channels → Tag → ℕ → ℕ → ℕ → JobOpening
job_made d rows t tag x p v =
    creates (create_of t true).answer (λ a. open_refused a d rows t) (λ ends.
    gives_both (create_of t true).table rows ends x v (open_refused (Err opening.BadSlot) d rows t) (job_opened d p tag ends))

-- no variant of that tag (29), the extractor's row from 54 up (19), no free place (30), then what making the job refuses (6, 7, 10)
unfoldable pub open_job_of : Dispatcher → Rows → Channels → Tag → ℕ → JobOpening
open_job_of d rows t tag x =
    found (variant_of d tag) (open_refused (Err opening.NoVariant) d rows t) (λ v.
    pick (leb 54 x) (open_refused (Err opening.BadRow) d rows t)
    (found (free_place d) (open_refused (Err opening.JobsFull) d rows t) (λ p.
    job_made d rows t tag x p (row_of d v))))
