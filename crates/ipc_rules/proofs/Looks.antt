-- The calls that only look: what they answer, in terms of what is seen. Assumes nothing.
use Rattle.std.specs.Prelude.{Err, Ok}
use mathlib.Core.Path.{◌≡◌}
use Prim.Native.Nat.{ℕ}
use lib.ListN.{length}
use Rattle.cap.specs.Rights.{send_right}
use Rattle.cap.specs.declared.CapId.{CapId}
use Rattle.ipc_rules.specs.Opening.{opening_of, either_of, opened}
use Rattle.ipc_rules.specs.Observe.{queued_of, holders_of}
use Rattle.ipc_rules.specs.Views.{queue_of, hold_count}
use Rattle.ipc_rules.specs.declared.state.Table.{Table}
use Rattle.ipc_rules.specs.declared.answers.CapError.TheVariants as cap_error
use Rattle.ipc_rules.specs.declared.opening.Opening.TheVariants.{Opens, Shut}
use Rattle.ipc_rules.proofs.Changes.{queue_length}

module _ (t : Table) (c : CapId) where
  pub queued_says : (k : ℕ) → either_of t c ≡ Opens k → queued_of t c ≡ Ok (length (queue_of t k))
  unfolding queued_of opened
  queued_says k o = rw (o, queue_length)

  pub queued_refused : either_of t c ≡ Shut → queued_of t c ≡ Err cap_error.BadCap
  unfolding queued_of opened
  queued_refused o = rw o

  pub holders_says : (k : ℕ) → opening_of t c send_right ≡ Opens k → holders_of t c ≡ Ok (hold_count t k)
  unfolding holders_of opened
  holders_says k o = rw o

  pub holders_refused : opening_of t c send_right ≡ Shut → holders_of t c ≡ Err cap_error.BadCap
  unfolding holders_of opened
  holders_refused o = rw o
