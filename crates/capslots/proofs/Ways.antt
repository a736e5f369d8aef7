-- The ways that a call on rows can go: what holds of each way holds of the call. Assumes nothing.
use Rattle.std.specs.Prelude.{Err, Ok, Result, ⊤}
use mathlib.Core.Path.{◌≡◌, ap}
use mathlib.Core.Bool.{true, false, ◌&&◌}
use mathlib.Core.List.{List}
use Prim.Native.Nat.{ℕ, ◌<◌, ◌≤◌}
use native.Mathlib.Omega.{arith}
use borrow.Author.Tests.{leb-true, leb-false, eqb-true, not-false}
use lib.Dec.{eqb}
use Rattle.laws.proofs.Cases.{all_pick}
use Rattle.laws.proofs.Every.{and_left, and_right}
use Rattle.cap.specs.Id.{class_of}
use Rattle.cap.specs.Slot.{four_vacant, holding}
use Rattle.cap.specs.Word.{words_read}
use Rattle.cap.specs.declared.CapId.{CapId}
use Rattle.capslots.specs.Answers.{transfer_number}
use Rattle.capslots.specs.Table.{empty_row, row_at, slot_in, with_row, with_slot}
use Rattle.capslots.specs.Rows.{row_of, seed_of, install_of, drain_of}
use Rattle.capslots.specs.Transfer.{is_endpoint, refused_by, moved, transfer_of}
use Rattle.capslots.specs.declared.Table.{Table}
use Rattle.capslots.specs.declared.Drained.{Drained}
use Rattle.cap.specs.declared.word.WordError.TheVariants.{BadWord}
use Rattle.capslots.specs.declared.answers.InstallError.TheVariants.{BadSlot}
use Rattle.capslots.specs.declared.answers.TransferError.TheVariants.{BadFromSlot, ToSlotFull, ToSlotOob, Untransferable, BadRow}
use Rattle.cap.specs.declared.word.WordError.{WordError}
use Rattle.shown.specs.declared.Answered.{Answered}
use Rattle.capslots.specs.declared.answers.InstallError.{InstallError}
use Rattle.capslots.specs.declared.answers.TransferError.{TransferError}

module _ (P : Answered (Result ⊤ WordError) Table → Type 0) (t : Table) (r : ℕ) (words : List ℕ) where
  pub seed_ways : P (record { answer = Err BadWord; table = t })
      → (words_read words ≡ true → 54 ≤ r → P (record { answer = Ok tt; table = t }))
      → (words_read words ≡ true → r < 54 → P (record { answer = Ok tt; table = with_row t r (row_of words) }))
      → P (seed_of t r words)
  unfolding seed_of
  seed_ways bad past fills =
      all_pick P (words_read words) _ _
      (λ w. all_pick P _ _ _ (λ l. past w (leb-true 54 r l)) (λ l. fills w (leb-false 54 r l)))
      (λ _. bad)

module _ (P : Answered (Result ⊤ InstallError) Table → Type 0) (t : Table) (r s : ℕ) (c : CapId) where
  pub install_ways : P (record { answer = Err BadSlot; table = t })
      → (r < 54 → s < 4 → (slot_in t r s).present ≡ false → P (record { answer = Ok tt; table = with_slot t r s (holding c) }))
      → P (install_of t r s c)
  unfolding install_of
  install_ways bad installs =
      all_pick P _ _ _ (λ _. bad)
      (λ l. all_pick P _ _ _ (λ _. bad)
      (λ m. all_pick P _ _ _ (λ _. bad) (λ v. installs (leb-false 54 r l) (leb-false 4 s m) v)))

module _ (P : Drained → Type 0) (t : Table) (r : ℕ) where
  pub drain_ways : (54 ≤ r → P (record { slots = four_vacant; table = t }))
      → (r < 54 → P (record { slots = (row_at t r).slots; table = with_row t r empty_row })) → P (drain_of t r)
  unfolding drain_of
  drain_ways past takes = all_pick P _ _ _ (λ l. past (leb-true 54 r l)) (λ l. takes (leb-false 54 r l))

-- what a transfer that reaches its destination has passed
pub record Reaches (t : Table) (r s r' s' : ℕ) : Type 0 where
  pub from_slot : s < 4
  pub to_slot : s' < 4
  pub elsewhere : (eqb r r' && eqb s s') ≡ false
  pub from_row : r < 54
  pub held : (slot_in t r s).present ≡ true
  pub endpoint : is_endpoint (class_of (slot_in t r s).id) ≡ true
  pub to_row : r' < 54

module _ (P : Answered (Result ⊤ TransferError) Table → Type 0) (t : Table) (r s r' s' : ℕ) where
  pub transfer_ways : ((a : Result ⊤ TransferError) → (a ≡ Ok tt → ⊥) → P (refused_by a t))
      → (r ≡ r' → s ≡ s' → P (record { answer = Ok tt; table = t }))
      → (Reaches t r s r' s' → (slot_in t r' s').present ≡ false → P (record { answer = Ok tt; table = moved t r s r' s' }))
      → P (transfer_of t r s r' s')
  unfolding transfer_of
  transfer_ways bad same moves =
      all_pick P _ _ _ (λ _. bad (Err BadFromSlot) (λ e. omega (arith, ap transfer_number e)))
      (λ a. all_pick P _ _ _ (λ _. bad (Err ToSlotOob) (λ e. omega (arith, ap transfer_number e)))
      (λ b. all_pick P _ _ _ (λ e. same (eqb-true r r' (and_left (eqb r r') (eqb s s') e)) (eqb-true s s' (and_right (eqb r r') (eqb s s') e)))
      (λ n. all_pick P _ _ _ (λ _. bad (Err BadRow) (λ e. omega (arith, ap transfer_number e)))
      (λ l. all_pick P _ _ _ (λ _. bad (Err BadFromSlot) (λ e. omega (arith, ap transfer_number e)))
      (λ h. all_pick P _ _ _ (λ _. bad (Err Untransferable) (λ e. omega (arith, ap transfer_number e)))
      (λ k. all_pick P _ _ _ (λ _. bad (Err BadRow) (λ e. omega (arith, ap transfer_number e)))
      (λ m. all_pick P _ _ _ (λ _. bad (Err ToSlotFull) (λ e. omega (arith, ap transfer_number e)))
      (λ v. moves (record {
        from_slot = leb-false 4 s a;
        to_slot = leb-false 4 s' b;
        elsewhere = n;
        from_row = leb-false 54 r l;
        held = not-false _ h;
        endpoint = not-false _ k;
        to_row = leb-false 54 r' m;
      }) v))))))))
