-- Sending, receiving and parking keep it. Assumes nothing.
use mathlib.Core.Path.{sym, ◌∙◌}
use Prim.Native.Nat.{ℕ}
use Rattle.cap.specs.declared.CapId.{CapId}
use Rattle.ipc_rules.specs.Sound.{Sound}
use Rattle.ipc_rules.specs.declared.state.Payload.{Payload}
use Rattle.ipc_rules.specs.declared.state.TaskId.{TaskId}
use Rattle.ipc_rules.specs.declared.state.Table.{Table as Channels}
use Rattle.ipc_rules.proofs.KeepsCalls.{send_kept, recv_kept, park_kept}
use Rattle.dispatcher_rules.specs.Slots.{slot_send_of, slot_recv_of, slot_park_of}
use Rattle.dispatcher_rules.specs.declared.state.Desk.{Desk}
use Rattle.dispatcher_rules.specs.declared.answers.SlotSending.{SlotSending}
use Rattle.dispatcher_rules.specs.declared.answers.SlotReceiving.{SlotReceiving}
use Rattle.dispatcher_rules.specs.declared.answers.SlotParking.{SlotParking}
use Rattle.dispatcher_rules.proofs.Ways.{all_slotted}
use Rattle.isolation.specs.Runs.{sent, received, parked}
use Rattle.isolation.specs.Jobs.{OpenIn}
use Rattle.isolation.specs.Own.{InJob, as_send, as_recv, OwnIn}
use Rattle.isolation.proofs.Kept.{Kept}
use Rattle.isolation.proofs.Still.{Still, send_still, recv_still, park_still}

-- the desk with another channel table
abbrev pub with_channels : Desk → Channels → Desk
with_channels w u = record { dispatcher = w.dispatcher; rows = w.rows; channels = u }

module _ (w : Desk) (κ : Kept w) (u : Channels) (σ : Sound u) (x : Still w.channels u) where
  own_still : (p : ℕ) → OpenIn w p → OwnIn (with_channels w u) p
  own_still p o =
      let m = κ.own p o in
      let c = m.channel in
      let b = x.boxes m.box in
      let i = x.steady.opening in
      record {
        box = m.box;
        channel = record {
          live = b.live ∙ c.live;
          kind = b.ephemeral ∙ c.kind;
          sends = i _ _ ∙ c.sends;
          sends_only = i _ _ ∙ c.sends_only;
          receives = i _ _ ∙ c.receives;
          receives_only = i _ _ ∙ c.receives_only;
        };
        send_stands = m.send_stands;
        holds = b.holds ∙ m.holds;
        recv_stands = m.recv_stands;
      }

  in_still : (r : ℕ) (c : CapId) → InJob w r c → InJob (with_channels w u) r c
  in_still r c (as_send p o e) = as_send p o e
  in_still r c (as_recv p o e b) = as_recv p o e b

  pub kept_still : Kept (with_channels w u)
  kept_still =
      let i = x.steady.opening in
      record {
        ready = record { bound = κ.ready.bound; sound = σ };
        places = κ.places;
        shape = κ.shape;
        own = own_still;
        apart = λ p q o h k a b. κ.apart p q o h k (sym (i _ _) ∙ a) (sym (i _ _) ∙ b);
        slots = λ r s c h. in_still r c (κ.slots r s c h);
      }

module _ (w : Desk) (κ : Kept w) (r s : ℕ) where
  abbrev t : Channels
  t = w.channels

  abbrev σ : Sound t
  σ = κ.ready.sound

  pub send_keeps : (x : Payload) → Kept (sent (slot_send_of w.dispatcher w.rows t r s x))
  unfolding slot_send_of
  send_keeps x =
      all_slotted (λ (o : SlotSending). Kept (sent o)) _ _ _ _ (λ _ _ _. κ) (λ _ _. κ) (λ c _. kept_still w κ _ (send_kept t c x r σ) (send_still t c σ x r))

  pub receive_keeps : Kept (received (slot_recv_of w.dispatcher w.rows t r s))
  unfolding slot_recv_of
  receive_keeps =
      all_slotted (λ (o : SlotReceiving). Kept (received o)) _ _ _ _ (λ _ _ _. κ) (λ _ _. κ) (λ c _. kept_still w κ _ (recv_kept t c σ) (recv_still t c σ))

  pub park_keeps : (task : TaskId) → Kept (parked (slot_park_of w.dispatcher w.rows t r s task))
  unfolding slot_park_of
  park_keeps task =
      all_slotted (λ (o : SlotParking). Kept (parked o)) _ _ _ _ (λ _ _ _. κ) (λ _ _. κ) (λ c _. kept_still w κ _ (park_kept t c task σ) (park_still t c σ task))
