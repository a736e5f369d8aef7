-- What a dispatcher call answers of the channels is what its call on the channel table answers. Assumes nothing.
use Rattle.std.specs.Prelude.{Ok, Option, Result}
use mathlib.Core.Path.{◌≡◌, sym, ap, ◌∙◌}
use mathlib.Core.Bool.{true}
use Prim.Native.Nat.{ℕ}
use native.Mathlib.Omega.{arith}
use Rattle.ipc_rules.specs.Create.{create_of}
use Rattle.ipc_rules.specs.Revoke.{revoke_of}
use Rattle.ipc_rules.specs.declared.state.Payload.{Payload}
use Rattle.ipc_rules.specs.declared.state.TaskId.{TaskId}
use Rattle.ipc_rules.specs.declared.state.Waiter.{Waiter}
use Rattle.history.specs.Calls as calls
use Rattle.dispatcher_rules.specs.Answers.{open_number, close_number}
use Rattle.dispatcher_rules.specs.Open.{open_job_of}
use Rattle.dispatcher_rules.specs.Close.{end_of, close_job_of}
use Rattle.dispatcher_rules.specs.Slots.{slot_send_of, slot_recv_of, slot_park_of}
use Rattle.dispatcher_rules.specs.declared.state.Desk.{Desk}
use Rattle.dispatcher_rules.specs.declared.state.Tag.{Tag}
use Rattle.dispatcher_rules.specs.declared.answers.JobOpening.{JobOpening}
use Rattle.dispatcher_rules.specs.declared.answers.JobClosing.{JobClosing}
use Rattle.dispatcher_rules.specs.declared.answers.OpenedJob.{OpenedJob}
use Rattle.dispatcher_rules.specs.declared.answers.SlotSending.{SlotSending}
use Rattle.dispatcher_rules.specs.declared.answers.SlotReceiving.{SlotReceiving}
use Rattle.dispatcher_rules.specs.declared.answers.SlotParking.{SlotParking}
use Rattle.dispatcher_rules.proofs.Ways.{open_ways, close_ways, all_slotted}
use Rattle.isolation.specs.Jobs.{job_in}
use Rattle.isolation.specs.AsCalls.{ById, JobsTell}
use Rattle.isolation.proofs.Ended.{channel_ended}
use Rattle.isolation.proofs.Kept.{Kept}
use Rattle.isolation.proofs.Reaches.{serves, all_kept}
use Rattle.ipc_rules.specs.declared.answers.SendError.{SendError}
use Rattle.ipc_rules.specs.declared.state.Message.{Message}
use Rattle.ipc_rules.specs.declared.answers.RecvError.{RecvError}
use Rattle.ipc_rules.specs.declared.answers.ParkError.{ParkError}

module _ (w : Desk) (κ : Kept w) where
  opens_told : (tag : Tag) (x : ℕ) (j : OpenedJob) → (open_job_of w.dispatcher w.rows w.channels tag x).answer ≡ Ok j →
      (create_of w.channels true).answer ≡ Ok (record { send = j.send; recv = j.recv })
  opens_told tag x j =
      open_ways w.dispatcher w.rows w.channels
      (λ (o : JobOpening). o.answer ≡ Ok j → (create_of w.channels true).answer ≡ Ok (record { send = j.send; recv = j.recv })) tag x
      (λ _ n e. absurd (n (ap open_number e)))
      (λ v p ends s q f e.
      let same : ◌≡◌ {A = OpenedJob} (record { place = p; send = ends.send; recv = ends.recv }) j = cc in
      f.created ∙ ap (λ (y : OpenedJob). Ok (record { send = y.send; recv = y.recv })) same)

  closes_told : (p : ℕ) (x : Waiter) → (close_job_of w.dispatcher w.rows w.channels p).answer ≡ Ok x →
      (revoke_of w.channels (job_in w p).ends.send).answer ≡ Ok x
  closes_told p x =
      close_ways w.dispatcher w.rows w.channels
      (λ (o : JobClosing). o.answer ≡ Ok x → (revoke_of w.channels (job_in w p).ends.send).answer ≡ Ok x) p
      (λ e. absurd (omega (arith, ap close_number e)))
      (λ l o e.
      let d = channel_ended w.channels (job_in w p).ends.send _ κ.ready.sound (κ.own p o).channel.sends in
      let same : (end_of w.channels (job_in w p).ends.send).waiter ≡ x = cc in
      d.answer ∙ ap Ok (sym d.waiter ∙ same))

  module _ (r s : ℕ) where
    sends_told : (x : Payload) (a : Result Waiter SendError) → (slot_send_of w.dispatcher w.rows w.channels r s x).answer ≡ Ok a → ById w r s (λ c. calls.send c x r) (calls.sent a)
    unfolding slot_send_of calls.answer
    sends_told x a =
        all_slotted (λ (o : SlotSending). o.answer ≡ Ok a → ById w r s (λ c. calls.send c x r) (calls.sent a)) _ _ _ _
        (λ _ _ _ e. let z : ◌≡◌ {A = ℕ} 0 1 = cc in absurd (omega arith)) (λ _ _ e. let z : ◌≡◌ {A = ℕ} 0 1 = cc in absurd (omega arith))
        (λ c g e. record { id = c; stands = g; answers = ap calls.sent (cc) })

    receives_told : (a : Result Message RecvError) → (slot_recv_of w.dispatcher w.rows w.channels r s).answer ≡ Ok a → ById w r s (λ c. calls.receive c) (calls.received a)
    unfolding slot_recv_of calls.answer
    receives_told a =
        all_slotted (λ (o : SlotReceiving). o.answer ≡ Ok a → ById w r s (λ c. calls.receive c) (calls.received a)) _ _ _ _
        (λ _ _ _ e. let z : ◌≡◌ {A = ℕ} 0 1 = cc in absurd (omega arith)) (λ _ _ e. let z : ◌≡◌ {A = ℕ} 0 1 = cc in absurd (omega arith))
        (λ c g e. record { id = c; stands = g; answers = ap calls.received (cc) })

    parks_told : (task : TaskId) (a : Result (Option Message) ParkError) → (slot_park_of w.dispatcher w.rows w.channels r s task).answer ≡ Ok a → ById w r s (λ c. calls.park c task) (calls.parked a)
    unfolding slot_park_of calls.answer
    parks_told task a =
        all_slotted (λ (o : SlotParking). o.answer ≡ Ok a → ById w r s (λ c. calls.park c task) (calls.parked a)) _ _ _ _
        (λ _ _ _ e. let z : ◌≡◌ {A = ℕ} 0 1 = cc in absurd (omega arith)) (λ _ _ e. let z : ◌≡◌ {A = ℕ} 0 1 = cc in absurd (omega arith))
        (λ c g e. record { id = c; stands = g; answers = ap calls.parked (cc) })

pub jobs_tell : JobsTell
unfolding calls.answer
jobs_tell w ρ =
    let κ = all_kept w ρ in
    record {
      opens = λ tag x j e. ap calls.created (opens_told w κ tag x j (rw (serves w.dispatcher w.channels κ.ready) at e));
      closes = λ p x e. ap calls.revoked (closes_told w κ p x (rw (serves w.dispatcher w.channels κ.ready) at e));
      sends = λ r s x a e. sends_told w κ r s x a (rw (serves w.dispatcher w.channels κ.ready) at e);
      receives = λ r s a e. receives_told w κ r s a (rw (serves w.dispatcher w.channels κ.ready) at e);
      parks = λ r s task a e. parks_told w κ r s task a (rw (serves w.dispatcher w.channels κ.ready) at e);
    }
