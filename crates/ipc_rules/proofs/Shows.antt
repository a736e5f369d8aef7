-- A refusal shows no values. Assumes nothing.
use Rattle.std.specs.Prelude.{Err, Ok, Result, ⊤}
use mathlib.Core.Path.{◌≡◌, refl}
use mathlib.Core.List.{[]}
use Prim.Native.Nat.{ℕ}
use Rattle.ipc_rules.specs.Why.{why_values}
use Rattle.ipc_rules.specs.declared.opening.Reason.{Reason}
use Rattle.ipc_rules.specs.declared.answers.WhyError.TheVariants as why
use Rattle.ipc_rules.specs.Answers.{create_values, queued_values, holders_values, revoke_values}
use Rattle.ipc_rules.specs.declared.state.Channel.{Channel}
use Rattle.ipc_rules.specs.declared.state.Waiter.{Waiter}
use Rattle.ipc_rules.specs.declared.answers.CreateError.TheVariants as create
use Rattle.ipc_rules.specs.declared.answers.CapError.TheVariants as cap_error
use Rattle.ipc_rules.specs.declared.answers.WhyError.{WhyError}
use Rattle.ipc_rules.specs.declared.answers.CreateError.{CreateError}
use Rattle.ipc_rules.specs.declared.answers.CapError.{CapError}

pub create_none : (a : Result Channel CreateError) → ((x : Channel) → a ≡ Ok x → ⊥) → create_values a ≡ []
create_none (Ok x) h = absurd (h x refl)
create_none (Err create.NoMailbox) h = refl
create_none (Err create.NoEndpoint) h = refl
create_none (Err create.BadTable) h = refl

pub queued_none : (a : Result ℕ CapError) → ((x : ℕ) → a ≡ Ok x → ⊥) → queued_values a ≡ []
queued_none (Ok x) h = absurd (h x refl)
queued_none (Err cap_error.BadCap) h = refl
queued_none (Err cap_error.BadTable) h = refl

pub why_none : (a : Result ⊤ WhyError) → ((r : Reason) → a ≡ Err (why.Shut r) → ⊥) → why_values a ≡ []
why_none (Ok tt) h = refl
why_none (Err (why.Shut r)) h = absurd (h r refl)
why_none (Err why.BadTable) h = refl

pub holders_none : (a : Result ℕ CapError) → ((x : ℕ) → a ≡ Ok x → ⊥) → holders_values a ≡ []
holders_none (Ok x) h = absurd (h x refl)
holders_none (Err cap_error.BadCap) h = refl
holders_none (Err cap_error.BadTable) h = refl

pub revoke_none : (a : Result Waiter CapError) → ((x : Waiter) → a ≡ Ok x → ⊥) → revoke_values a ≡ []
revoke_none (Ok x) h = absurd (h x refl)
revoke_none (Err cap_error.BadCap) h = refl
revoke_none (Err cap_error.BadTable) h = refl
