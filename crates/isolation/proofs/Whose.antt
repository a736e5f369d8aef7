-- An id that stands in a slot and opens a mailbox is the id of the job whose mailbox it is. Assumes nothing.
use mathlib.Core.Path.{◌≡◌, refl, sym, ap, ◌∙◌}
use mathlib.Core.Logic.{⊎_elim}
use Prim.Native.Nat.{ℕ}
use lib.Dec.{eqb}
use borrow.Author.Tests.{eq-eqb, ne_eqb}
use Rattle.laws.proofs.Bools.{same?}
use Rattle.cap.specs.Rights.{send_right, receive_right}
use Rattle.cap.specs.Slot.{holding}
use Rattle.cap.specs.declared.CapId.{CapId}
use Rattle.cap.specs.declared.slot.Slot.{Slot}
use Rattle.capslots.specs.Table.{slot_in}
use Rattle.capslots.specs.Rows.{names_id}
use Rattle.ipc_rules.specs.Opening.{opening_of}
use Rattle.ipc_rules.specs.declared.opening.Opening.TheVariants.{Opens}
use Rattle.dispatcher_rules.specs.declared.state.Desk.{Desk}
use Rattle.isolation.specs.Jobs.{job_in, OpenIn, BoundTo, slot_holds}
use Rattle.isolation.specs.Own.{InJob, as_send, as_recv}
use Rattle.isolation.proofs.Ids.{one_box, unlike}
use Rattle.isolation.proofs.Kept.{Kept}
use Rattle.isolation.proofs.Slots.{names_itself, names_other}

-- whether a slot that holds c holds e
holds_eqb : (x : Slot) (c e : CapId) (j k : ℕ) → x ≡ holding c → (j ≡ k → c ≡ e) → (c ≡ e → j ≡ k) → names_id e x ≡ eqb j k
holds_eqb x c e j k h same back =
    rw h (⊎_elim (λ i. rw (same i, eq-eqb j k i) (names_itself e)) (λ n. rw (ne_eqb j k n) (names_other e c (λ i. n (back (sym i))))) (same? j k))

-- the job of a send id, and of a receive id in its row
pub record SendsFor (w : Desk) (c : CapId) : Type 0 where
  pub place : ℕ
  pub open_there : OpenIn w place
  pub is : c ≡ (job_in w place).ends.send

pub record ReceivesFor (w : Desk) (r : ℕ) (c : CapId) : Type 0 where
  pub place : ℕ
  pub open_there : OpenIn w place
  pub is : c ≡ (job_in w place).ends.recv
  pub bound : BoundTo w.dispatcher (job_in w place).tag r

module _ (w : Desk) (κ : Kept w) (r s : ℕ) (c : CapId) (h : slot_in w.rows r s ≡ holding c) (j : ℕ) where
  pub sends_for : opening_of w.channels c send_right ≡ Opens j → SendsFor w c
  sends_for o = by (κ.slots r s c h)
    where
      by : InJob w r c → SendsFor w c
      by (as_send p a e) = record { place = p; open_there = a; is = e }
      by (as_recv p a e _) = absurd (unlike w.channels c _ send_right j o (κ.own p a).channel.receives_only e)

  pub receives_for : opening_of w.channels c receive_right ≡ Opens j → ReceivesFor w r c
  receives_for o = by (κ.slots r s c h)
    where
      by : InJob w r c → ReceivesFor w r c
      by (as_send p a e) = absurd (unlike w.channels c _ receive_right j o (κ.own p a).channel.sends_only e)
      by (as_recv p a e b) = record { place = p; open_there = a; is = e; bound = b }

  module _ (p k : ℕ) (mine : OpenIn w p) (opens : opening_of w.channels (job_in w p).ends.send send_right ≡ Opens k) where
    -- the slot holds the send id of place p's job where it opens that job's mailbox
    pub holds_send : opening_of w.channels c send_right ≡ Opens j → slot_holds w r s (job_in w p).ends.send ≡ eqb j k
    holds_send o =
        let f = sends_for o in
        holds_eqb _ c _ j k h
        (λ e. f.is ∙ ap (λ (i : ℕ). (job_in w i).ends.send) (κ.apart f.place p f.open_there mine k (rw (← f.is, ← e) o) opens))
        (λ e. one_box w.channels c _ send_right j k e o opens)

    -- and the receive id likewise
    pub holds_recv : opening_of w.channels c receive_right ≡ Opens j → slot_holds w r s (job_in w p).ends.recv ≡ eqb j k
    holds_recv o =
        let f = receives_for o in
        let m = κ.own f.place f.open_there in
        let n = κ.own p mine in
        let a : j ≡ m.box = one_box w.channels c _ receive_right j m.box f.is o m.channel.receives in
        let b : n.box ≡ k = one_box w.channels _ _ send_right n.box k refl n.channel.sends opens in
        holds_eqb _ c _ j k h
        (λ e. f.is ∙ ap (λ (i : ℕ). (job_in w i).ends.recv) (κ.apart f.place p f.open_there mine k (m.channel.sends ∙ ap Opens (sym a ∙ e)) opens))
        (λ e. one_box w.channels c _ receive_right j n.box e o n.channel.receives ∙ b)
