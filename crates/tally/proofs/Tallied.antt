-- What every step keeps: as many holds as slots that hold the send end, and where ids in slots come from. Assumes nothing.
use mathlib.Core.Path.{◌≡◌, refl, sym, ap, ◌∙◌}
use mathlib.Core.Bool.{true, false}
use mathlib.Core.List.{List, [], ◌∷◌}
use mathlib.Core.Logic.{⊎_elim}
use Prim.Native.Nat.{ℕ, suc, ◌+◌, ◌≤◌, ◌<◌}
use native.Mathlib.Omega.{arith}
use lib.Dec.{eqb}
use lib.ListN.{length}
use Rattle.laws.specs.Pick.{pick}
use Rattle.laws.proofs.Bools.{same?}
use Rattle.laws.proofs.Cases.{all_pick}
use Rattle.cap.specs.Id.{generation_of}
use Rattle.cap.specs.Rights.{send_right}
use Rattle.cap.specs.Slot.{holding}
use Rattle.cap.specs.declared.CapId.{CapId}
use Rattle.cap.specs.declared.slot.Slot.{Slot}
use Rattle.capslots.specs.Table.{slot_in, Shape}
use Rattle.capslots.specs.declared.Table.{Table as Rows}
use Rattle.ipc_rules.specs.State.{mailbox_live, next_of}
use Rattle.ipc_rules.specs.Sound.{Sound}
use Rattle.ipc_rules.specs.Opening.{opening_of, hold_of, opened}
use Rattle.ipc_rules.specs.Views.{hold_count, held_by, held_in, Steady}
use Rattle.ipc_rules.specs.declared.opening.Opening.{Opening}
use Rattle.ipc_rules.specs.declared.opening.Opening.TheVariants.{Opens, Shut}
use Rattle.ipc_rules.specs.declared.state.Channel.{Channel}
use Rattle.ipc_rules.specs.declared.state.Table.{Table as Channels}
use Rattle.ipc_rules.proofs.Held.{held_none, held_one, held_other}
use Rattle.ipc_rules.proofs.Openings.{hold_vacant}
use Rattle.ipc_rules.proofs.OtherOpenings.{hold_steady}
use Rattle.tally.specs.Count.{sum_over, over_slots}
use Rattle.tally.specs.Runs.{Among, Made, CameFrom}
use Rattle.tally.proofs.Sums.{sum_agrees, sum_few}

-- the ids of the channel in mailbox k, which a creation answered
pub record Sender (t : Channels) (l : List Channel) (k : ℕ) : Type 0 where
  pub ids : Channel
  pub made : Made ids l
  pub opens : opening_of t ids.send send_right ≡ Opens k

pub sender_still : {t : Channels} {l : List Channel} {k : ℕ} (u : Channels) → Steady t u → Sender t l k → Sender u l k
sender_still u s x = record { ids = x.ids; made = x.made; opens = s.opening _ _ ∙ x.opens }

pub record Tallied (t : Channels) (rows : Rows) (l : List Channel) : Type 0 where
  pub sound : Sound t
  pub shape : Shape rows
  pub holds : (k : ℕ) → mailbox_live t k ≡ true → hold_count t k ≡ over_slots (held_by t k) rows
  pub sender : (k : ℕ) → mailbox_live t k ≡ true → Sender t l k
  -- each id of the endpoints' class in a slot is a creation's, of a generation that is not above the number of creations
  pub origin : (r s : ℕ) (c : CapId) → slot_in rows r s ≡ holding c → CameFrom l c
  pub generations : (c : CapId) → Among c l → generation_of c ≤ length l
  pub next : length l < 65535 → next_of t ≡ suc (length l)
  -- no creation's receive id opens for send
  pub shut : (ids : Channel) → Made ids l → opening_of t ids.recv send_right ≡ Shut

-- ---- what one slot holds
pub held_vacant : (t : Channels) (k : ℕ) (x : Slot) → x.present ≡ false → held_by t k x ≡ 0
held_vacant t k x e = held_none t k x (sym (hold_vacant t x e))

pub held_most : (t : Channels) (k : ℕ) (x : Slot) → held_by t k x ≤ 1
unfolding held_by opened
held_most t k x = by (hold_of t x)
  where
    by : (o : Opening) → opened o 0 (λ j. pick (eqb j k) 1 0) ≤ 1
    by Shut = omega arith
    by (Opens j) = all_pick (λ n. n ≤ 1) (eqb j k) 1 0 (λ _. omega arith) (λ _. omega arith)

-- a slot that holds mailbox k's send end in both tables or in neither
module _ (t u : Channels) (k : ℕ) (x : Slot) where
  pub held_iff : (hold_of t x ≡ Opens k → hold_of u x ≡ Opens k) → (hold_of u x ≡ Opens k → hold_of t x ≡ Opens k) → held_by u k x ≡ held_by t k x
  held_iff there back = by (hold_of t x) refl
    where
      not_u : (hold_of u x ≡ Opens k → ⊥) → held_by u k x ≡ 0
      not_u n = of (hold_of u x) refl
        where
          of : (o : Opening) → hold_of u x ≡ o → held_by u k x ≡ 0
          of Shut e = held_none u k x e
          of (Opens j) e = held_other u k x j e (λ i. n (e ∙ ap Opens (sym i)))

      by : (o : Opening) → hold_of t x ≡ o → held_by u k x ≡ held_by t k x
      by Shut e = not_u (λ h. let z = sym e ∙ back h in let y : ◌≡◌ {A = ℕ} 0 1 = cc in omega arith) ∙ sym (held_none t k x e)
      by (Opens j) e =
          ⊎_elim (λ i. let h : hold_of t x ≡ Opens k = e ∙ ap Opens (sym i) in held_one u k x (there h) ∙ sym (held_one t k x h))
          (λ n. not_u (λ h. n (let z = sym (back h) ∙ e in cc)) ∙ sym (held_other t k x j e n)) (same? k j)

pub held_still : (t u : Channels) → Steady t u → (k : ℕ) (x : Slot) → held_by u k x ≡ held_by t k x
unfolding held_by
held_still t u s k x = rw (hold_steady t u s x)

-- ---- all slots
module _ (t u : Channels) (rows : Rows) (shape : Shape rows) (k : ℕ) where
  pub same_slots : ((r s : ℕ) → r < 54 → s < 4 → held_by u k (slot_in rows r s) ≡ held_by t k (slot_in rows r s)) → over_slots (held_by u k) rows ≡ over_slots (held_by t k) rows
  same_slots h = sum_agrees (held_by u k) rows shape (held_by t k) h

pub few_slots : (t : Channels) (rows : Rows) → Shape rows → (k : ℕ) → over_slots (held_by t k) rows ≤ 216
few_slots t rows shape k = sum_few (held_by t k) rows shape (held_most t k)

pub list_sum : (t : Channels) (k : ℕ) (xs : List Slot) → held_in t k xs ≡ sum_over (held_by t k) xs
unfolding held_in sum_over
list_sum t k [] = refl
list_sum t k (x ∷ xs) = ap (λ (n : ℕ). held_by t k x + n) (list_sum t k xs)
