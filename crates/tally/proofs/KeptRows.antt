-- Registers and releases beside the rows keep it, where the slots counted change as the holds do. Assumes nothing.
use mathlib.Core.Path.{◌≡◌, sym, ◌∙◌}
use mathlib.Core.List.{List, [], ◌∷◌}
use Prim.Native.Nat.{ℕ, ◌+◌, ◌≤◌}
use native.Mathlib.Omega.{arith}
use lib.ListN.{length}
use Rattle.cap.specs.Slot.{holding}
use Rattle.cap.specs.declared.CapId.{CapId}
use Rattle.cap.specs.declared.slot.Slot.{Slot}
use Rattle.capslots.specs.Table.{slot_in, Shape}
use Rattle.capslots.specs.declared.Table.{Table as Rows}
use Rattle.ipc_rules.specs.Holds.{registered_all, released_all}
use Rattle.ipc_rules.specs.Views.{hold_count, held_by, held_in}
use Rattle.ipc_rules.specs.declared.state.Channel.{Channel}
use Rattle.ipc_rules.specs.declared.state.Table.{Table as Channels}
use Rattle.ipc_rules.proofs.AfterRegister.{registered_in}
use Rattle.ipc_rules.proofs.AfterReleaseAll.{released_in}
use Rattle.ipc_rules.proofs.Held.{raised_few}
use Rattle.ipc_rules.proofs.KeepsCalls.{registered_all_kept, released_all_kept}
use Rattle.tally.specs.Count.{over_slots}
use Rattle.tally.specs.Runs.{CameFrom}
use Rattle.tally.proofs.Tallied.{sender_still, Tallied, held_most, held_still, same_slots, few_slots}

-- as many as the list has, at most
list_most : (t : Channels) (k : ℕ) (xs : List Slot) → held_in t k xs ≤ length xs
unfolding held_in
list_most t k [] = omega arith
list_most t k (x ∷ xs) = let a = held_most t k x in let b = list_most t k xs in omega arith

module _ {t : Channels} {rows : Rows} {l : List Channel} (x : Tallied t rows l) (xs : List Slot) (rows' : Rows) (shape : Shape rows')
    (from : (r s : ℕ) (c : CapId) → slot_in rows' r s ≡ holding c → CameFrom l c) where
  -- a few slots registered, and so many slots more
  pub kept_registered : length xs ≤ 4 → ((k : ℕ) → over_slots (held_by t k) rows' ≡ over_slots (held_by t k) rows + held_in t k xs) → Tallied (registered_all t xs) rows' l
  kept_registered few more =
      let y = registered_in t xs x.sound in
      record {
        sound = registered_all_kept t xs x.sound;
        shape = shape;
        holds = λ k v.
            let b = y.mailboxes k in
            let h = x.holds k (sym b.live ∙ v) in
            let a = few_slots t rows x.shape k in
            let m = list_most t k xs in
            let s = more k in
            let z = same_slots t (registered_all t xs) rows' shape k (λ r a _ _. held_still t _ y.steady k (slot_in rows' r a)) in
            b.holds ∙ raised_few (held_in t k xs) (hold_count t k) (omega (arith, h)) ∙ (omega (arith, h)) ∙ sym z;
        sender = λ k v. sender_still _ y.steady (x.sender k (sym (y.mailboxes k).live ∙ v));
        origin = from;
        generations = x.generations;
        next = λ b. y.steady.next ∙ x.next b;
        shut = λ ids m. y.steady.opening _ _ ∙ x.shut ids m;
      }

  -- slots released, and so many slots fewer
  pub kept_released : ((k : ℕ) → over_slots (held_by t k) rows' + held_in t k xs ≡ over_slots (held_by t k) rows) → Tallied (released_all t xs).table rows' l
  kept_released fewer =
      let y = released_in t xs x.sound in
      record {
        sound = released_all_kept t xs x.sound;
        shape = shape;
        holds = λ k v.
            let b = y.mailboxes k in
            let h = x.holds k (sym b.live ∙ v) in
            let s = fewer k in
            let z = same_slots t (released_all t xs).table rows' shape k (λ r a _ _. held_still t _ y.steady k (slot_in rows' r a)) in
            b.holds ∙ (omega (arith, h)) ∙ sym z;
        sender = λ k v. sender_still _ y.steady (x.sender k (sym (y.mailboxes k).live ∙ v));
        origin = from;
        generations = x.generations;
        next = λ b. y.steady.next ∙ x.next b;
        shut = λ ids m. y.steady.opening _ _ ∙ x.shut ids m;
      }
