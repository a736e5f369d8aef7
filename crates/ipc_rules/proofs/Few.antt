-- What a line shows of each answer is at most twelve values. Assumes nothing.
use Rattle.std.specs.Prelude.{Err, None, Ok, Option, Result, Some, ℕ, ⊤}
use mathlib.Core.List.{List, [], ◌∷◌}
use Prim.Native.Nat.{◌≤◌}
use native.Mathlib.Omega.{arith}
use lib.Dec.{lit≤}
use lib.ListN.{get_or, length}
use Rattle.laws.proofs.Cases.{all_pick}
use Rattle.shown.proofs.Few.{Few, four_few}
use Rattle.ipc_rules.specs.State.{nobody}
use Rattle.ipc_rules.specs.Answers.{waiter_values, four_waiter_values, create_values, send_values, recv_values, park_values, queued_values, holders_values, release_values, revoke_values, clear_values, counts_values}
use Rattle.ipc_rules.specs.declared.state.Waiter.{Waiter}
use Rattle.ipc_rules.specs.declared.answers.CreateError.TheVariants as create
use Rattle.ipc_rules.specs.declared.answers.SendError.TheVariants as send
use Rattle.ipc_rules.specs.declared.answers.RecvError.TheVariants as recv
use Rattle.ipc_rules.specs.declared.answers.ParkError.TheVariants as park
use Rattle.ipc_rules.specs.declared.answers.CapError.TheVariants as cap_error
use Rattle.ipc_rules.specs.declared.answers.TableError.TheVariants as table_error
use Rattle.ipc_rules.specs.declared.state.Channel.{Channel}
use Rattle.ipc_rules.specs.declared.answers.CreateError.{CreateError}
use Rattle.ipc_rules.specs.declared.answers.SendError.{SendError}
use Rattle.ipc_rules.specs.declared.state.Message.{Message}
use Rattle.ipc_rules.specs.declared.answers.RecvError.{RecvError}
use Rattle.ipc_rules.specs.declared.answers.ParkError.{ParkError}
use Rattle.ipc_rules.specs.declared.answers.CapError.{CapError}
use Rattle.ipc_rules.specs.declared.answers.TableError.{TableError}
use Rattle.ipc_rules.specs.declared.state.Refusals.{Refusals}

pub waiter_few : (w : Waiter) → length (waiter_values w) ≤ 3
unfolding waiter_values
waiter_few w = all_pick (λ l. length l ≤ 3) w.present (1 ∷ w.task.slot ∷ w.task.epoch ∷ []) (0 ∷ []) (λ _. omega arith) (λ _. omega arith)

three_few : (w : Waiter) → Few (waiter_values w)
three_few w = let h = waiter_few w in omega arith

pub waiters_few : (ws : List Waiter) → Few (four_waiter_values ws)
waiters_few ws = four_few waiter_values waiter_few (get_or ws 0 nobody) (get_or ws 1 nobody) (get_or ws 2 nobody) (get_or ws 3 nobody)

-- ---- by answer
pub create_few : (a : Result Channel CreateError) → Few (create_values a)
create_few (Ok c) = lit≤ tt
create_few (Err create.NoMailbox) = lit≤ tt
create_few (Err create.NoEndpoint) = lit≤ tt
create_few (Err create.BadTable) = lit≤ tt

pub send_few : (a : Result Waiter SendError) → Few (send_values a)
send_few (Ok w) = three_few w
send_few (Err send.BadRow) = lit≤ tt
send_few (Err send.BadCap) = lit≤ tt
send_few (Err send.Full) = lit≤ tt
send_few (Err send.BadTable) = lit≤ tt

pub recv_few : (a : Result Message RecvError) → Few (recv_values a)
recv_few (Ok m) = lit≤ tt
recv_few (Err recv.BadCap) = lit≤ tt
recv_few (Err recv.Empty) = lit≤ tt
recv_few (Err recv.BadTable) = lit≤ tt

pub park_few : (a : Result (Option Message) ParkError) → Few (park_values a)
park_few (Ok None) = lit≤ tt
park_few (Ok (Some m)) = lit≤ tt
park_few (Err park.BadCap) = lit≤ tt
park_few (Err park.Busy) = lit≤ tt
park_few (Err park.Cancelled) = lit≤ tt
park_few (Err park.BadTable) = lit≤ tt

pub queued_few : (a : Result ℕ CapError) → Few (queued_values a)
queued_few (Ok n) = lit≤ tt
queued_few (Err cap_error.BadCap) = lit≤ tt
queued_few (Err cap_error.BadTable) = lit≤ tt

pub holders_few : (a : Result ℕ CapError) → Few (holders_values a)
holders_few (Ok n) = lit≤ tt
holders_few (Err cap_error.BadCap) = lit≤ tt
holders_few (Err cap_error.BadTable) = lit≤ tt

pub release_few : (a : Result ⊤ TableError) (ws : List Waiter) → Few (release_values a ws)
release_few (Ok tt) ws = waiters_few ws
release_few (Err table_error.BadTable) ws = lit≤ tt

pub revoke_few : (a : Result Waiter CapError) → Few (revoke_values a)
revoke_few (Ok w) = three_few w
revoke_few (Err cap_error.BadCap) = lit≤ tt
revoke_few (Err cap_error.BadTable) = lit≤ tt

pub clear_few : (a : Result ℕ TableError) → Few (clear_values a)
clear_few (Ok n) = lit≤ tt
clear_few (Err table_error.BadTable) = lit≤ tt

pub counts_few : (a : Result Refusals TableError) → Few (counts_values a)
counts_few (Ok r) = lit≤ tt
counts_few (Err table_error.BadTable) = lit≤ tt
