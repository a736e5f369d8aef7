-- A BadCap shows no values of its own: what stands behind it on a line is its reason, or nothing. Assumes nothing.
use Rattle.std.specs.Prelude.{Err, None, Ok, Option, Result, Some, ⊤}
use mathlib.Core.Path.{◌≡◌, refl, sym}
use mathlib.Core.Bool.{Bool, true, false}
use mathlib.Core.List.{List, [], ◌++◌, append-nil}
use Prim.Native.Nat.{ℕ}
use native.Mathlib.Omega.{arith}
use borrow.Author.Tests.{eqb-true, ne_eqb}
use lib.Dec.{eqb}
use Rattle.laws.specs.Pick.{pick}
use Rattle.laws.specs.Refusals as no
use Rattle.cap.specs.Slot.{slot_number, slot_values}
use Rattle.cap.specs.declared.slot.SlotError.TheVariants as slot
use Rattle.mint.specs.Answer.{mint_number, mint_values, lookup_number, lookup_values}
use Rattle.mint.specs.declared.MintError.TheVariants as mint
use Rattle.mint.specs.declared.LookupError.TheVariants as lookup
use Rattle.ipc_rules.specs.Answers.{create_number, create_values, send_number, send_values, recv_number, recv_values, park_number, park_values, queued_number, queued_values, revoke_number, revoke_values, release_number, release_values, holders_number, holders_values, clear_number, clear_values, counts_number, counts_values}
use Rattle.ipc_rules.specs.Why.{why_values}
use Rattle.ipc_rules.specs.declared.state.Waiter.{Waiter}
use Rattle.ipc_rules.specs.declared.answers.CreateError.TheVariants as create
use Rattle.ipc_rules.specs.declared.answers.SendError.TheVariants as send
use Rattle.ipc_rules.specs.declared.answers.RecvError.TheVariants as recv
use Rattle.ipc_rules.specs.declared.answers.ParkError.TheVariants as park
use Rattle.ipc_rules.specs.declared.answers.CapError.TheVariants as cap_error
use Rattle.ipc_rules.specs.declared.answers.TableError.TheVariants as table_error
use Rattle.joined.specs.Answers.{spawn_number, spawn_values, leave_number, leave_values}
use Rattle.joined.specs.declared.answers.SpawnError.TheVariants as spawn
use Rattle.joined.specs.declared.answers.LeaveError.TheVariants as leave
use Rattle.operations.specs.Channels.{reasoned}
use Rattle.cap.specs.declared.CapId.{CapId}
use Rattle.cap.specs.declared.slot.SlotError.{SlotError}
use Rattle.mint.specs.declared.MintError.{MintError}
use Rattle.mint.specs.declared.LookupError.{LookupError}
use Rattle.ipc_rules.specs.declared.state.Channel.{Channel}
use Rattle.ipc_rules.specs.declared.answers.CreateError.{CreateError}
use Rattle.ipc_rules.specs.declared.answers.SendError.{SendError}
use Rattle.ipc_rules.specs.declared.state.Message.{Message}
use Rattle.ipc_rules.specs.declared.answers.RecvError.{RecvError}
use Rattle.ipc_rules.specs.declared.answers.ParkError.{ParkError}
use Rattle.ipc_rules.specs.declared.answers.CapError.{CapError}
use Rattle.ipc_rules.specs.declared.answers.TableError.{TableError}
use Rattle.ipc_rules.specs.declared.state.Refusals.{Refusals}
use Rattle.ipc_rules.specs.declared.answers.WhyError.{WhyError}
use Rattle.joined.specs.declared.answers.SpawnError.{SpawnError}
use Rattle.joined.specs.declared.answers.LeaveError.{LeaveError}

-- ---- by answer
abbrev pub Bare : ℕ → List ℕ → Type 0
Bare n vs = n ≡ no.bad_cap → vs ≡ []

pub none_bare : (vs : List ℕ) → Bare no.none vs
none_bare vs e = absurd (omega arith)

pub create_bare : (a : Result Channel CreateError) → Bare (create_number a) (create_values a)
create_bare (Ok c) e = absurd (omega arith)
create_bare (Err create.NoMailbox) e = refl
create_bare (Err create.NoEndpoint) e = refl
create_bare (Err create.BadTable) e = refl

pub send_bare : (a : Result Waiter SendError) → Bare (send_number a) (send_values a)
send_bare (Ok w) e = absurd (omega arith)
send_bare (Err send.BadRow) e = refl
send_bare (Err send.BadCap) e = refl
send_bare (Err send.Full) e = refl
send_bare (Err send.BadTable) e = refl

pub recv_bare : (a : Result Message RecvError) → Bare (recv_number a) (recv_values a)
recv_bare (Ok m) e = absurd (omega arith)
recv_bare (Err recv.BadCap) e = refl
recv_bare (Err recv.Empty) e = refl
recv_bare (Err recv.BadTable) e = refl

pub park_bare : (a : Result (Option Message) ParkError) → Bare (park_number a) (park_values a)
park_bare (Ok None) e = absurd (omega arith)
park_bare (Ok (Some m)) e = absurd (omega arith)
park_bare (Err park.BadCap) e = refl
park_bare (Err park.Busy) e = refl
park_bare (Err park.Cancelled) e = refl
park_bare (Err park.BadTable) e = refl

pub queued_bare : (a : Result ℕ CapError) → Bare (queued_number a) (queued_values a)
queued_bare (Ok n) e = absurd (omega arith)
queued_bare (Err cap_error.BadCap) e = refl
queued_bare (Err cap_error.BadTable) e = refl

pub revoke_bare : (a : Result Waiter CapError) → Bare (revoke_number a) (revoke_values a)
revoke_bare (Ok w) e = absurd (omega arith)
revoke_bare (Err cap_error.BadCap) e = refl
revoke_bare (Err cap_error.BadTable) e = refl

pub release_bare : (a : Result ⊤ TableError) (ws : List Waiter) → Bare (release_number a) (release_values a ws)
release_bare (Ok tt) ws e = absurd (omega arith)
release_bare (Err table_error.BadTable) ws e = refl

pub holders_bare : (a : Result ℕ CapError) → Bare (holders_number a) (holders_values a)
holders_bare (Ok n) e = absurd (omega arith)
holders_bare (Err cap_error.BadCap) e = refl
holders_bare (Err cap_error.BadTable) e = refl

pub clear_bare : (a : Result ℕ TableError) → Bare (clear_number a) (clear_values a)
clear_bare (Ok n) e = absurd (omega arith)
clear_bare (Err table_error.BadTable) e = refl

pub counts_bare : (a : Result Refusals TableError) → Bare (counts_number a) (counts_values a)
counts_bare (Ok r) e = absurd (omega arith)
counts_bare (Err table_error.BadTable) e = refl

pub get_bare : (a : Result CapId SlotError) → Bare (slot_number a) (slot_values a)
get_bare (Ok c) e = absurd (omega arith)
get_bare (Err (slot.OutOfRange s n)) e = absurd (omega arith)
get_bare (Err (slot.Vacant s)) e = absurd (omega arith)

pub mint_bare : (a : Result CapId MintError) → Bare (mint_number a) (mint_values a)
mint_bare (Ok c) e = absurd (omega arith)
mint_bare (Err mint.NoFreeEntry) e = refl

pub lookup_bare : (a : Result ℕ LookupError) → Bare (lookup_number a) (lookup_values a)
lookup_bare (Ok n) e = absurd (omega arith)
lookup_bare (Err lookup.BadCap) e = refl

pub spawn_bare : (a : Result ⊤ SpawnError) (ws : List Waiter) → Bare (spawn_number a) (spawn_values a ws)
spawn_bare (Ok tt) ws e = absurd (omega arith)
spawn_bare (Err spawn.BadWord) ws e = refl
spawn_bare (Err spawn.BadRow) ws e = refl
spawn_bare (Err spawn.BadTable) ws e = refl

pub leave_bare : (a : Result ⊤ LeaveError) (ws : List Waiter) → Bare (leave_number a) (leave_values a ws)
leave_bare (Ok tt) ws e = absurd (omega arith)
leave_bare (Err leave.BadRow) ws e = refl
leave_bare (Err leave.BadTable) ws e = refl

-- ---- the reason behind
-- it stands alone
pub reason_alone : (why : Result ⊤ WhyError) (n : ℕ) (vs : List ℕ) → n ≡ no.bad_cap → reasoned why n vs ≡ why_values why
unfolding reasoned pick
reason_alone why n vs e = rw e refl

-- another number has none
pub no_reason : (why : Result ⊤ WhyError) (n : ℕ) (vs : List ℕ) → (n ≡ no.bad_cap → ⊥) → reasoned why n vs ≡ vs
unfolding reasoned pick
no_reason why n vs h = rw (ne_eqb n no.bad_cap h) refl

-- so a line's values are the answer's, and then the reason
pub reason_behind : (why : Result ⊤ WhyError) (n : ℕ) (vs : List ℕ) → Bare n vs → reasoned why n vs ≡ vs ++ pick (eqb n no.bad_cap) (why_values why) []
unfolding reasoned pick
reason_behind why n vs h = by (eqb n no.bad_cap) refl
  where
    by : (b : Bool) → eqb n no.bad_cap ≡ b → pick b (why_values why) vs ≡ vs ++ pick b (why_values why) []
    by true e = rw (h (eqb-true n no.bad_cap e)) refl
    by false e = sym (append-nil vs)

pub nothing_behind : (n : ℕ) (vs : List ℕ) → vs ≡ vs ++ pick (eqb n no.bad_cap) [] []
unfolding pick
nothing_behind n vs = by (eqb n no.bad_cap)
  where
    by : (b : Bool) → vs ≡ vs ++ pick b [] []
    by true = sym (append-nil vs)
    by false = sym (append-nil vs)
