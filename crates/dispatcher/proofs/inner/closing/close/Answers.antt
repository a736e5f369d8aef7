-- `dispatcher::inner::closing::close` meets its contract. Assumes nothing.
use Rattle.laws.proofs.Cases.{cases}
use Rattle.dispatcher_rules.specs.Close.{close_job_of}
use Rattle.dispatcher.proofs.inner.closing.close.Goals as goal

pub returns-then-place-ge-MAX_JOBS : goal.returns-then-place-ge-MAX_JOBS
unfolding close_job_of
returns-then-place-ge-MAX_JOBS c = search cases

pub returns-then-not-job : goal.returns-then-not-job
unfolding close_job_of
returns-then-not-job c = search cases

pub returns : goal.returns
unfolding close_job_of
returns c = rw (c.with_job-without.ensures, c.forget-emptied.ensures, c.end-ended.ensures) (search cases)
