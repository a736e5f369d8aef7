-- Where a line of send, receive, park or `queued` shows BadCap, there is a reason why, and what the code shows is what the rule shows. Assumes
-- nothing.
use Rattle.std.specs.Prelude.{Err, None, Ok, Option, Result, Some, ⊤}
use mathlib.Core.Path.{◌≡◌, refl, sym, ap, ◌∙◌}
use mathlib.Core.Bool.{Bool, true, false}
use mathlib.Core.List.{List}
use Prim.Native.Nat.{ℕ, ◌<◌}
use native.Mathlib.Omega.{arith}
use borrow.Author.Tests.{eqb-true, leb-false}
use lib.Dec.{eqb, leb}
use Rattle.laws.specs.Pick.{pick}
use Rattle.laws.specs.Refusals as no
use Rattle.shown.specs.Shown.{shown}
use Rattle.shown.specs.declared.Shown.{Shown}
use Rattle.cap.specs.declared.CapId.{CapId}
use Rattle.ipc_rules.specs.Answers.{send_number, recv_number, park_number, queued_number}
use Rattle.ipc_rules.specs.Send.{send_of}
use Rattle.ipc_rules.specs.Receive.{recv_of, park_of}
use Rattle.ipc_rules.specs.Observe.{queued_of}
use Rattle.ipc_rules.specs.Why.{why_of, why_number, why_values, Explained, Explains}
use Rattle.ipc_rules.specs.declared.state.Payload.{Payload}
use Rattle.ipc_rules.specs.declared.state.TaskId.{TaskId}
use Rattle.ipc_rules.specs.declared.state.Table.{Table}
use Rattle.ipc_rules.specs.declared.answers.SendError.TheVariants as sends
use Rattle.ipc_rules.specs.declared.answers.RecvError.TheVariants as receives
use Rattle.ipc_rules.specs.declared.answers.ParkError.TheVariants as parks
use Rattle.ipc_rules.specs.declared.answers.CapError.TheVariants as queues
use Rattle.ipc_rules.specs.declared.opening.Asked.TheVariants.{Send, Receive, Either}
use Rattle.ipc_rules.proofs.Why.{reasons_tie}
use Rattle.operations.specs.Channels.{reasoned, reasoned_in}
use Rattle.ipc_rules.specs.declared.state.Waiter.{Waiter}
use Rattle.ipc_rules.specs.declared.answers.SendError.{SendError}
use Rattle.ipc_rules.specs.declared.state.Message.{Message}
use Rattle.ipc_rules.specs.declared.answers.RecvError.{RecvError}
use Rattle.ipc_rules.specs.declared.answers.ParkError.{ParkError}
use Rattle.ipc_rules.specs.declared.answers.CapError.{CapError}
use Rattle.ipc_rules.specs.declared.answers.WhyError.{WhyError}

-- ---- the number of BadCap is BadCap's alone
send_bad_cap : (a : Result Waiter SendError) → send_number a ≡ no.bad_cap → a ≡ Err sends.BadCap
send_bad_cap (Ok w) e = absurd (omega arith)
send_bad_cap (Err sends.BadRow) e = absurd (omega arith)
send_bad_cap (Err sends.BadCap) e = refl
send_bad_cap (Err sends.Full) e = absurd (omega arith)
send_bad_cap (Err sends.BadTable) e = absurd (omega arith)

recv_bad_cap : (a : Result Message RecvError) → recv_number a ≡ no.bad_cap → a ≡ Err receives.BadCap
recv_bad_cap (Ok m) e = absurd (omega arith)
recv_bad_cap (Err receives.BadCap) e = refl
recv_bad_cap (Err receives.Empty) e = absurd (omega arith)
recv_bad_cap (Err receives.BadTable) e = absurd (omega arith)

park_bad_cap : (a : Result (Option Message) ParkError) → park_number a ≡ no.bad_cap → a ≡ Err parks.BadCap
park_bad_cap (Ok None) e = absurd (omega arith)
park_bad_cap (Ok (Some m)) e = absurd (omega arith)
park_bad_cap (Err parks.BadCap) e = refl
park_bad_cap (Err parks.Busy) e = absurd (omega arith)
park_bad_cap (Err parks.Cancelled) e = absurd (omega arith)
park_bad_cap (Err parks.BadTable) e = absurd (omega arith)

queued_bad_cap : (a : Result ℕ CapError) → queued_number a ≡ no.bad_cap → a ≡ Err queues.BadCap
queued_bad_cap (Ok n) e = absurd (omega arith)
queued_bad_cap (Err queues.BadCap) e = refl
queued_bad_cap (Err queues.BadTable) e = absurd (omega arith)

-- ---- so the number is there exactly where there is a reason
module _ (t : Table) (c : CapId) where
  by_number : {A : Type 0} (number : A → ℕ) {w : Result ⊤ WhyError} {a b : A} → number b ≡ no.bad_cap → (number a ≡ no.bad_cap → a ≡ b) → Explains w (a ≡ b) → Explains w (number a ≡ no.bad_cap)
  by_number number h alone e = record { explained = λ n. e.explained (alone n); only = λ r q. ap number (e.only r q) ∙ h }

  -- of a send by a row that is there
  pub send_explains : (p : Payload) (row : ℕ) → row < 54 → Explains (why_of t c Send) (send_number (send_of t c p row).answer ≡ no.bad_cap)
  send_explains p row l = by_number send_number refl (send_bad_cap _) ((reasons_tie t c).send p row l)

  pub receive_explains : Explains (why_of t c Receive) (recv_number (recv_of t c).answer ≡ no.bad_cap)
  receive_explains = by_number recv_number refl (recv_bad_cap _) (reasons_tie t c).receive

  pub park_explains : (task : TaskId) → Explains (why_of t c Receive) (park_number (park_of t c task).answer ≡ no.bad_cap)
  park_explains task = by_number park_number refl (park_bad_cap _) ((reasons_tie t c).park task)

  pub queued_explains : Explains (why_of t c Either) (queued_number (queued_of t c) ≡ no.bad_cap)
  queued_explains = by_number queued_number refl (queued_bad_cap _) (reasons_tie t c).queued

  -- a row from 54 up is no BadCap
  refused : (p : Payload) (row : ℕ) → leb 54 row ≡ true → send_number (send_of t c p row).answer ≡ no.bad_row
  unfolding send_of pick
  refused p row g = rw g refl

  pub send_explained : (p : Payload) (row : ℕ) → send_number (send_of t c p row).answer ≡ no.bad_cap → Explained (why_of t c Send)
  send_explained p row h = by (leb 54 row) refl
    where
      by : (b : Bool) → leb 54 row ≡ b → Explained (why_of t c Send)
      by true g = let e = refused p row g in absurd (omega arith)
      by false g = (send_explains p row (leb-false 54 row g)).explained h

-- ---- what the code shows
pub reason_shown : {A : Type 0} (number : A → ℕ) (values : A → List ℕ) {q p : A} {r s : Shown} (why : Result ⊤ WhyError) → q ≡ p → (number p ≡ no.bad_cap → Explained why) →
    r ≡ reasoned_in why s → s ≡ shown (number q) (values q) → r ≡ shown (number q) (reasoned why (number q) (values q))
unfolding reasoned reasoned_in pick
reason_shown number values {q = q} why e explained g h = rw (g, h) (by (eqb (number q) no.bad_cap) refl)
  where
    by : (b : Bool) → eqb (number q) no.bad_cap ≡ b → pick b (shown (why_number why) (why_values why)) (shown (number q) (values q)) ≡ shown (number q) (pick b (why_values why) (values q))
    by true g =
        let n = eqb-true (number q) no.bad_cap g in
        let x = explained (ap number (sym e) ∙ n) in
        let m : why_number why ≡ no.bad_cap = ap why_number x.is in
        rw (n, m) refl
    by false g = refl
