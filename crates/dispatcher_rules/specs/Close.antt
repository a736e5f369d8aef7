-- Request No. 5, closing a place.
use Rattle.std.specs.Prelude.{ℕ, leb, Err, Ok, Result}
use Rattle.laws.specs.Pick.{pick}
use Rattle.cap.specs.Rights.{send_right}
use Rattle.cap.specs.declared.CapId.{CapId}
use Rattle.capslots.specs.Rows.{forgotten_of}
use Rattle.capslots.specs.declared.Table.{Table as Rows}
use Rattle.ipc_rules.specs.State.{nobody}
use Rattle.ipc_rules.specs.Opening.{opening_of, opened}
use Rattle.ipc_rules.specs.Revoke.{revoke_of}
use Rattle.ipc_rules.specs.declared.state.Waiter.{Waiter}
use Rattle.ipc_rules.specs.declared.state.Table.{Table as Channels}
use Rattle.ipc_rules.specs.declared.answers.CapError.TheVariants as revoke
use Rattle.dispatcher_rules.specs.State.{no_job, job_at, with_job}
use Rattle.dispatcher_rules.specs.declared.state.Job.{Job}
use Rattle.dispatcher_rules.specs.declared.state.Dispatcher.{Dispatcher}
use Rattle.dispatcher_rules.specs.declared.answers.Ending.{Ending}
use Rattle.dispatcher_rules.specs.declared.answers.JobClosing.{JobClosing}
use Rattle.dispatcher_rules.specs.declared.answers.CloseError.TheVariants as close
use Rattle.ipc_rules.specs.declared.answers.CapError.{CapError}
use Rattle.dispatcher_rules.specs.declared.answers.CloseError.{CloseError}

-- whom a revocation answers
abbrev pub woken_by : Result Waiter CapError → Waiter
woken_by (Ok w) = w
woken_by (Err e) = nobody

-- where the send id opens for send its channel is revoked and the waiter answered; else nothing is revoked and no count raised
unfoldable pub end_of : Channels → CapId → Ending
end_of t c =
    opened (opening_of t c send_right) (record { waiter = nobody; channels = t }) (λ k.
    record { waiter = woken_by (revoke_of t c).answer; channels = (revoke_of t c).table })

-- a refused closing changes nothing
abbrev pub close_refused : Result Waiter CloseError → Dispatcher → Rows → Channels → JobClosing
close_refused a d rows t = record { answer = a; dispatcher = d; rows = rows; channels = t }

-- the channel ended, both ids out of every row, the place free
abbrev pub job_closed : Dispatcher → Rows → Channels → ℕ → Job → JobClosing
job_closed d rows t p job =
    record {
      answer = Ok (end_of t job.ends.send).waiter;
      dispatcher = with_job d p no_job;
      rows = forgotten_of rows job.ends.send job.ends.recv;
      channels = (end_of t job.ends.send).channels;
    }

-- a place from 16 up or not open is refused (38)
unfoldable pub close_job_of : Dispatcher → Rows → Channels → ℕ → JobClosing
close_job_of d rows t p =
    pick (leb 16 p) (close_refused (Err close.NoJob) d rows t)
    (pick (job_at d p).«open» (job_closed d rows t p (job_at d p))
    (close_refused (Err close.NoJob) d rows t))
