-- Each message that is accepted for a job is stamped with the row in which the job's send id stands, `all_written`. Assumes nothing.
use Rattle.std.specs.Prelude.{Err, Ok, Result}
use mathlib.Core.Path.{◌≡◌, sym, ap, ◌∙◌}
use mathlib.Core.Bool.{true}
use mathlib.Core.List.Memᴰ
use mathlib.Core.List.{List, [], Memᴰ}
use mathlib.Core.Logic.{⊎_elim}
use Prim.Native.Nat.{ℕ}
use Rattle.laws.specs.Pick.{pick}
use Rattle.laws.proofs.Cases.{all_pick}
use Rattle.cap.specs.Slot.{holding}
use Rattle.capslots.specs.Table.{slot_in}
use Rattle.ipc_rules.specs.State.{stamped}
use Rattle.ipc_rules.specs.declared.state.Message.{Message}
use Rattle.ipc_rules.specs.declared.state.Payload.{Payload}
use Rattle.history.proofs.Stamps.{put}
use Rattle.dispatcher_rules.specs.declared.state.Desk.{Desk}
use Rattle.dispatcher_rules.specs.declared.state.Job.{Job}
use Rattle.dispatcher_rules.specs.declared.answers.BySlotError.TheVariants as toSend
use Rattle.isolation.specs.Runs.{JobCall, open_for, close, send, receive, park, sending, after}
use Rattle.isolation.specs.Jobs.{job_in, OpenIn, slot_holds, if_accepted, accepted, all_accepted, Spares, none, more}
use Rattle.isolation.proofs.Flows.{call_flows}
use Rattle.isolation.proofs.Kept.{Kept}
use Rattle.isolation.proofs.Opened.{slot_stays}
use Rattle.isolation.proofs.Reaches.{after_kept}
use Rattle.isolation.proofs.Slots.{names_holding}
use Rattle.ipc_rules.specs.declared.state.Waiter.{Waiter}
use Rattle.ipc_rules.specs.declared.answers.SendError.{SendError}
use Rattle.dispatcher_rules.specs.declared.answers.BySlotError.{BySlotError}

-- what was accepted is what the sending made
accepted_is : (a : Result (Result Waiter SendError) BySlotError) (x m : Message) → Memᴰ m (if_accepted a x) → m ≡ x
unfolding if_accepted pick
accepted_is (Ok a) x m i = (put true a x m i).is
accepted_is (Err (toSend.OutOfRange _ _)) x m i = absurd (Memᴰ.not-nil i)
accepted_is (Err (toSend.Vacant _)) x m i = absurd (Memᴰ.not-nil i)
accepted_is (Err toSend.BadTable) x m i = absurd (Memᴰ.not-nil i)

-- the send id of the job in place p stands in row x
module _ (w : Desk) (κ : Kept w) (p : ℕ) (mine : OpenIn w p) (x a : ℕ) (h : slot_in w.rows x a ≡ holding (job_in w p).ends.send) where
  -- and in no other
  one_row : (r s : ℕ) → slot_holds w r s (job_in w p).ends.send ≡ true → r ≡ x
  one_row r s e = let o = (κ.own p mine).send_stands in (o.only r s (names_holding _ _ e)).0 ∙ sym (o.only x a h).0

  sent_writes : (r s : ℕ) (y : Payload) (m : Message) → Memᴰ m (pick (slot_holds w r s (job_in w p).ends.send) (if_accepted (sending w r s y).answer (stamped y r)) []) → m.row ≡ x
  sent_writes r s y m =
      all_pick (λ (l : List Message). Memᴰ m l → m.row ≡ x) (slot_holds w r s (job_in w p).ends.send) _ _
      (λ e i. ap (λ (z : Message). z.row) (accepted_is _ (stamped y r) m i) ∙ one_row r s e) (λ _ i. absurd (Memᴰ.not-nil i))

  call_writes : (c : JobCall) (m : Message) → Memᴰ m (accepted w p c) → m.row ≡ x
  unfolding accepted
  call_writes (open_for tag _) m i = absurd (Memᴰ.not-nil i)
  call_writes (close _) m i = absurd (Memᴰ.not-nil i)
  call_writes (send r s y) m i = sent_writes r s y m i
  call_writes (receive r s) m i = absurd (Memᴰ.not-nil i)
  call_writes (park r s task) m i = absurd (Memᴰ.not-nil i)

-- over a run that does not close the place
written : (p : ℕ) (w : Desk) → Kept w → OpenIn w p → (x a : ℕ) → slot_in w.rows x a ≡ holding (job_in w p).ends.send →
    {cs : List JobCall} → Spares p cs → (m : Message) → Memᴰ m (all_accepted w p cs) → m.row ≡ x
unfolding all_accepted
written p w κ o x a h none m i = absurd (Memᴰ.not-nil i)
written p w κ o x a h (more {c = c} {cs = cs} e s) m i =
    let n = κ.own p o in
    let same : job_in (after w c) p ≡ job_in w p = (call_flows w κ p n.box o n.channel.sends c e).job in
    ⊎_elim (call_writes w κ p o x a h c m)
    (written p (after w c) (after_kept w κ c) (rw same o) x a (slot_stays w κ p o x a h c e ∙ ap (λ (j : Job). holding j.ends.send) (sym same)) s m)
    (Memᴰ.append_cases (accepted w p c) i)

pub all_written : (w : Desk) → Kept w → (p : ℕ) → OpenIn w p → (x a : ℕ) → slot_in w.rows x a ≡ holding (job_in w p).ends.send →
    {cs : List JobCall} → Spares p cs → (m : Message) → Memᴰ m (all_accepted w p cs) → m.row ≡ x
all_written w κ p o x a h s m i = written p w κ o x a h s m i
