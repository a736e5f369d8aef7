-- How a choice by a slot, by a creation, by two gives or by an opening for send is settled. Assumes nothing.
use Rattle.std.specs.Prelude.{None, Option, Some, Err, Ok, Result}
use mathlib.Core.Path.{◌≡◌, refl}
use Prim.Native.Nat.{ℕ}
use native.Mathlib.Omega.{arith}
use Rattle.laws.specs.Search.{found}
use Rattle.cap.specs.Rights.{send_right}
use Rattle.cap.specs.declared.CapId.{CapId}
use Rattle.cap.specs.declared.slot.SlotError.TheVariants.{OutOfRange, Vacant}
use Rattle.capslots.specs.Rows.{empty_slot_of}
use Rattle.capslots.specs.declared.Table.{Table as Rows}
use Rattle.ipc_rules.specs.State.{mailbox_at}
use Rattle.ipc_rules.specs.Opening.{opening_of, opened}
use Rattle.ipc_rules.specs.Observe.{holders_of}
use Rattle.ipc_rules.specs.declared.opening.Opening.{Opening}
use Rattle.ipc_rules.specs.declared.opening.Opening.TheVariants.{Opens, Shut}
use Rattle.ipc_rules.specs.declared.state.Channel.{Channel}
use Rattle.ipc_rules.specs.declared.state.Table.{Table as Channels}
use Rattle.ipc_rules.specs.declared.answers.CapError.TheVariants.{BadCap}
use Rattle.joined.specs.Steps.{give_of}
use Rattle.joined.specs.declared.answers.Giving.{Giving}
use Rattle.dispatcher_rules.specs.Open.{refused_creation, creates, gives_both}
use Rattle.dispatcher_rules.specs.Slots.{slotted, refused_slot}
use Rattle.cap.specs.declared.slot.SlotError.{SlotError}
use Rattle.dispatcher_rules.specs.declared.answers.BySlotError.{BySlotError}
use Rattle.dispatcher_rules.specs.declared.answers.BySlotError.TheVariants as by_slot
use Rattle.ipc_rules.specs.declared.answers.CreateError.{CreateError}
use Rattle.ipc_rules.specs.declared.answers.CapError.{CapError}
use Rattle.dispatcher_rules.specs.declared.answers.OpenedJob.{OpenedJob}
use Rattle.dispatcher_rules.specs.declared.answers.OpenError.{OpenError}

-- ---- by a slot: q is what the code got, and p what the definition asks
module _ {A : Type 0} {r : A} {q p : Result CapId SlotError} (named : CapId → A) where
  pub slot_refused : (refused : BySlotError → A) {x : SlotError} → q ≡ p → q ≡ Err x → r ≡ refused (refused_slot x)
      → r ≡ slotted p (λ s n. refused (by_slot.OutOfRange s n)) (λ s. refused (by_slot.Vacant s)) named
  unfolding slotted
  slot_refused refused {x = OutOfRange s n} e o h = rw (← e, o) h
  slot_refused refused {x = Vacant s} e o h = rw (← e, o) h

  pub slot_out : (out : ℕ → ℕ → A) (vacant : ℕ → A) (s n : ℕ) → q ≡ p → q ≡ Err (OutOfRange s n) → r ≡ out s n → r ≡ slotted p out vacant named
  unfolding slotted
  slot_out out vacant s n e o h = rw (← e, o) h

  pub slot_vacant : (out : ℕ → ℕ → A) (vacant : ℕ → A) (s : ℕ) → q ≡ p → q ≡ Err (Vacant s) → r ≡ vacant s → r ≡ slotted p out vacant named
  unfolding slotted
  slot_vacant out vacant s e o h = rw (← e, o) h

  pub slot_names : (out : ℕ → ℕ → A) (vacant : ℕ → A) (c : CapId) → q ≡ p → q ≡ Ok c → r ≡ named c → r ≡ slotted p out vacant named
  unfolding slotted
  slot_names out vacant c e o h = rw (← e, o) h

-- ---- by a creation
module _ {A : Type 0} {r : A} {o : Result Channel CreateError} (refused : Result OpenedJob OpenError → A) (done : Channel → A) where
  pub creation_made : (ends : Channel) → o ≡ Ok ends → r ≡ done ends → r ≡ creates o refused done
  unfolding creates
  creation_made ends e h = rw e h

  pub creation_refused : {x : CreateError} → o ≡ Err x → r ≡ refused (Err (refused_creation x)) → r ≡ creates o refused done
  unfolding creates
  creation_refused e h = rw e h

-- ---- by two gives: o and u are what the code's searches found, g and h what its gives left
module _ {A : Type 0} (lacking : A) (done : Giving → A) (t : Channels) (rows : Rows) (ends : Channel) (x v : ℕ) {o : Option ℕ} (first : o ≡ empty_slot_of rows x) where
  pub no_first : o ≡ None → lacking ≡ gives_both t rows ends x v lacking done
  unfolding gives_both found
  no_first n = rw (← first, n)

  module _ (s : ℕ) (at : o ≡ Some s) {g : Giving} (gave : g ≡ give_of t rows x s ends.send) {u : Option ℕ} (second : u ≡ empty_slot_of g.rows v) where
    pub no_second : u ≡ None → lacking ≡ gives_both t rows ends x v lacking done
    unfolding gives_both found
    no_second n = rw (← first, at, ← gave, ← second, n)

    pub gave_both : (k : ℕ) → u ≡ Some k → {h : Giving} → h ≡ give_of g.channels g.rows v k ends.recv → done h ≡ gives_both t rows ends x v lacking done
    unfolding gives_both found
    gave_both k at_second e = rw (← first, at, ← gave, ← second, at_second, ← e)

-- ---- by an opening for send, which the code learns from the holds
module _ {A : Type 0} (t : Channels) (c : CapId) {q : Result ℕ CapError} (e : q ≡ holders_of t c) (shut done : A) where
  pub held_not : ((n : ℕ) → q ≡ Ok n → ⊥) → shut ≡ opened (opening_of t c send_right) shut (λ _. done)
  unfolding holders_of opened
  held_not n = by (opening_of t c send_right) e
    where
      by : (o : Opening) → q ≡ opened o (Err BadCap) (λ k. Ok (mailbox_at t k).send_holders) → shut ≡ opened o shut (λ _. done)
      by Shut h = refl
      by (Opens k) h = absurd (n _ h)

  pub held : (n : ℕ) → q ≡ Ok n → done ≡ opened (opening_of t c send_right) shut (λ _. done)
  unfolding holders_of opened
  held n y = by (opening_of t c send_right) e
    where
      by : (o : Opening) → q ≡ opened o (Err BadCap) (λ k. Ok (mailbox_at t k).send_holders) → done ≡ opened o shut (λ _. done)
      by Shut h = let z : ◌≡◌ {A = ℕ} 0 1 = cc in absurd (omega arith)
      by (Opens k) h = refl
