-- What each call on rows leaves: the changed places, every other place as before, and no change where it is refused. Assumes nothing.
use Rattle.std.specs.Prelude.{Err, Ok, Result, ⊤}
use mathlib.Core.Path.{◌≡◌, refl, ap, ◌∙◌}
use mathlib.Core.Bool.{Bool, true, false}
use mathlib.Core.List.{List}
use Prim.Native.Nat.{ℕ, zero, suc, ◌<◌, ◌≤◌}
use native.Mathlib.Omega.{arith}
use borrow.Author.Tests.{lt-ltb, lt-leb, eq-eqb}
use lib.ListN.{get_or}
use Rattle.laws.specs.Pick.{pick}
use Rattle.cap.specs.Slot.{vacant_slot, holding, from_slot}
use Rattle.cap.specs.Word.{slot_at}
use Rattle.cap.specs.declared.CapId.{CapId}
use Rattle.capslots.specs.Answers.{seed_number, install_number}
use Rattle.capslots.specs.Table.{empty_row, row_at, slot_in, with_slot, Shape}
use Rattle.capslots.specs.Rows.{row_of, get_of, seed_of, install_of, drain_of}
use Rattle.capslots.specs.Transfer.{moved, transfer_of}
use Rattle.capslots.specs.declared.Table.{Table}
use Rattle.capslots.specs.declared.Drained.{Drained}
use Rattle.cap.specs.declared.word.WordError.TheVariants.{BadWord}
use Rattle.capslots.specs.declared.answers.InstallError.TheVariants.{BadSlot}
use Rattle.capslots.proofs.Places.{other_row, other_row_slot, new_row, new_slot, other_slot, shape_row, shape_slot}
use Rattle.capslots.proofs.Ways.{seed_ways, install_ways, drain_ways, Reaches, transfer_ways}
use Rattle.cap.specs.declared.word.WordError.{WordError}
use Rattle.shown.specs.declared.Answered.{Answered}
use Rattle.capslots.specs.declared.answers.InstallError.{InstallError}
use Rattle.capslots.specs.declared.answers.TransferError.{TransferError}

module _ (t : Table) (r : ℕ) (words : List ℕ) where
  pub seed_refused : (seed_of t r words).answer ≡ Err BadWord → (seed_of t r words).table ≡ t
  seed_refused =
      seed_ways (λ (x : Answered (Result ⊤ WordError) Table). x.answer ≡ Err BadWord → x.table ≡ t) t r words (λ _. refl) (λ _ _ _. refl)
      (λ _ _ e. absurd (omega (arith, ap seed_number e)))

  pub seed_other_row : (q : ℕ) → (q ≡ r → ⊥) → row_at (seed_of t r words).table q ≡ row_at t q
  seed_other_row q n =
      seed_ways (λ (x : Answered (Result ⊤ WordError) Table). row_at x.table q ≡ row_at t q) t r words refl (λ _ _. refl)
      (λ _ _. other_row t r (row_of words) q n)

  -- a row from 54 up is without effect
  pub seed_past : 54 ≤ r → (seed_of t r words).table ≡ t
  seed_past l =
      seed_ways (λ (x : Answered (Result ⊤ WordError) Table). x.table ≡ t) t r words refl (λ _ _. refl) (λ _ m. absurd (omega arith))

  module _ (shape : Shape t) where
    -- the row holds the list's slots, and nothing past its end
    pub seed_fills : (seed_of t r words).answer ≡ Ok tt → r < 54 → row_at (seed_of t r words).table r ≡ row_of words
    seed_fills =
        seed_ways (λ (x : Answered (Result ⊤ WordError) Table). x.answer ≡ Ok tt → r < 54 → row_at x.table r ≡ row_of words) t r words
        (λ e _. absurd (omega (arith, ap seed_number e))) (λ _ past _ l. absurd (omega arith))
        (λ _ l _ _. new_row t r (row_of words) shape l)

    pub seed_shape : Shape (seed_of t r words).table
    seed_shape =
        seed_ways (λ (x : Answered (Result ⊤ WordError) Table). Shape x.table) t r words shape (λ _ _. shape)
        (λ _ l. shape_row t r (row_of words) shape l refl)

-- the slots that the list gives a row
pub row_slots : (words : List ℕ) (s : ℕ) → s < 4 → get_or (row_of words).slots s vacant_slot ≡ slot_at words s
row_slots words zero l = refl
row_slots words (suc zero) l = refl
row_slots words (suc (suc zero)) l = refl
row_slots words (suc (suc (suc zero))) l = refl
row_slots words (suc (suc (suc (suc s)))) l = absurd (omega arith)

-- `get` names what a slot of the table holds
pub named : (t : Table) (r s : ℕ) (c : CapId) → r < 54 → s < 4 → slot_in t r s ≡ holding c → get_of t r s ≡ Ok c
unfolding get_of from_slot pick
named t r s c l m e = rw (lt-leb 54 r l, lt-ltb s 4 m, e)

module _ (t : Table) (r s : ℕ) (c : CapId) where
  pub install_refused : (install_of t r s c).answer ≡ Err BadSlot → (install_of t r s c).table ≡ t
  install_refused =
      install_ways (λ (x : Answered (Result ⊤ InstallError) Table). x.answer ≡ Err BadSlot → x.table ≡ t) t r s c (λ _. refl)
      (λ _ _ _ e. absurd (omega (arith, ap install_number e)))

  pub install_other_row : (q : ℕ) → (q ≡ r → ⊥) → row_at (install_of t r s c).table q ≡ row_at t q
  install_other_row q n =
      install_ways (λ (x : Answered (Result ⊤ InstallError) Table). row_at x.table q ≡ row_at t q) t r s c refl (λ _ _ _. other_row_slot t r s (holding c) q n)

  module _ (shape : Shape t) where
    pub install_other_slot : (q p : ℕ) → (q ≡ r → p ≡ s → ⊥) → slot_in (install_of t r s c).table q p ≡ slot_in t q p
    install_other_slot q p n =
        install_ways (λ (x : Answered (Result ⊤ InstallError) Table). slot_in x.table q p ≡ slot_in t q p) t r s c refl
        (λ l _ _. other_slot t shape r s (holding c) l q p n)

    pub install_shape : Shape (install_of t r s c).table
    install_shape =
        install_ways (λ (x : Answered (Result ⊤ InstallError) Table). Shape x.table) t r s c shape (λ l _ _. shape_slot t shape r s (holding c) l)

    -- a successful install fills a vacant slot of the table, which `get` then names
    pub install_fills : (install_of t r s c).answer ≡ Ok tt → slot_in (install_of t r s c).table r s ≡ holding c
    install_fills =
        install_ways (λ (x : Answered (Result ⊤ InstallError) Table). x.answer ≡ Ok tt → slot_in x.table r s ≡ holding c) t r s c
        (λ e. absurd (omega (arith, ap install_number e))) (λ l m _ _. new_slot t shape r s (holding c) l m)

    pub get_installed : (install_of t r s c).answer ≡ Ok tt → get_of (install_of t r s c).table r s ≡ Ok c
    get_installed =
        install_ways (λ (x : Answered (Result ⊤ InstallError) Table). x.answer ≡ Ok tt → get_of x.table r s ≡ Ok c) t r s c
        (λ e. absurd (omega (arith, ap install_number e)))
        (λ l m _ _. named (with_slot t r s (holding c)) r s c l m (new_slot t shape r s (holding c) l m))

module _ (t : Table) (r : ℕ) where
  pub drain_other_row : (q : ℕ) → (q ≡ r → ⊥) → row_at (drain_of t r).table q ≡ row_at t q
  drain_other_row q n =
      drain_ways (λ (x : Drained). row_at x.table q ≡ row_at t q) t r (λ _. refl) (λ _. other_row t r empty_row q n)

  pub drain_past : 54 ≤ r → (drain_of t r).table ≡ t
  drain_past l = drain_ways (λ (x : Drained). x.table ≡ t) t r (λ _. refl) (λ m. absurd (omega arith))

  -- what the row held is given
  pub drain_gives : r < 54 → (drain_of t r).slots ≡ (row_at t r).slots
  drain_gives l = drain_ways (λ (x : Drained). x.slots ≡ (row_at t r).slots) t r (λ m. absurd (omega arith)) (λ _. refl)

  module _ (shape : Shape t) where
    -- and the row is empty
    pub drain_empties : r < 54 → row_at (drain_of t r).table r ≡ empty_row
    drain_empties l =
        drain_ways (λ (x : Drained). row_at x.table r ≡ empty_row) t r (λ m. absurd (omega arith))
        (λ _. new_row t r empty_row shape l)

    pub drain_shape : Shape (drain_of t r).table
    drain_shape =
        drain_ways (λ (x : Drained). Shape x.table) t r (λ _. shape) (λ l. shape_row t r empty_row shape l refl)

-- u is t with the id of slot s of row r moved to slot s' of row r'
pub record Moves (t u : Table) (r s r' s' : ℕ) : Type 0 where
  pub source : slot_in u r s ≡ vacant_slot
  pub destination : slot_in u r' s' ≡ holding (slot_in t r s).id
  pub others : (q p : ℕ) → (q ≡ r → p ≡ s → ⊥) → (q ≡ r' → p ≡ s' → ⊥) → slot_in u q p ≡ slot_in t q p

module _ (t : Table) (r s r' s' : ℕ) where
  pub transfer_refused : ((transfer_of t r s r' s').answer ≡ Ok tt → ⊥) → (transfer_of t r s r' s').table ≡ t
  transfer_refused =
      transfer_ways (λ (x : Answered (Result ⊤ TransferError) Table). (x.answer ≡ Ok tt → ⊥) → x.table ≡ t) t r s r' s' (λ _ _ _. refl)
      (λ _ _ n. absurd (n refl)) (λ _ _ n. absurd (n refl))

  pub transfer_other_row : (q : ℕ) → (q ≡ r → ⊥) → (q ≡ r' → ⊥) → row_at (transfer_of t r s r' s').table q ≡ row_at t q
  transfer_other_row q n m =
      transfer_ways (λ (x : Answered (Result ⊤ TransferError) Table). row_at x.table q ≡ row_at t q) t r s r' s' (λ _ _. refl) (λ _ _. refl)
      (λ _ _. other_row_slot (with_slot t r s vacant_slot) r' s' (holding (slot_in t r s).id) q m ∙ other_row_slot t r s vacant_slot q n)

  module _ (shape : Shape t) where
    apart : Reaches t r s r' s' → r ≡ r' → s ≡ s' → ⊥
    apart way e f = let z : ◌≡◌ {A = Bool} true false = rw (eq-eqb r r' e, eq-eqb s s' f) at way.elsewhere in let n : ◌≡◌ {A = ℕ} 0 1 = cc in omega arith

    move : Reaches t r s r' s' → Moves t (moved t r s r' s') r s r' s'
    move way =
        let kept = shape_slot t shape r s vacant_slot way.from_row in
        record {
          source = other_slot _ kept r' s' _ way.to_row r s (apart way) ∙ new_slot t shape r s vacant_slot way.from_row way.from_slot;
          destination = new_slot _ kept r' s' _ way.to_row way.to_slot;
          others = λ q p n m. other_slot _ kept r' s' _ way.to_row q p m ∙ other_slot t shape r s vacant_slot way.from_row q p n;
        }

    -- a transfer to another place moves the id
    pub transfer_moves : (transfer_of t r s r' s').answer ≡ Ok tt → (r ≡ r' → s ≡ s' → ⊥) → Moves t (transfer_of t r s r' s').table r s r' s'
    transfer_moves =
        transfer_ways (λ (x : Answered (Result ⊤ TransferError) Table). x.answer ≡ Ok tt → (r ≡ r' → s ≡ s' → ⊥) → Moves t x.table r s r' s') t r s r' s'
        (λ _ n e _. absurd (n e)) (λ e f _ n. absurd (n e f)) (λ way _ _ _. move way)

    pub transfer_shape : Shape (transfer_of t r s r' s').table
    transfer_shape =
        transfer_ways (λ (x : Answered (Result ⊤ TransferError) Table). Shape x.table) t r s r' s' (λ _ _. shape) (λ _ _. shape)
        (λ way _. shape_slot _ (shape_slot t shape r s vacant_slot way.from_row) r' s' _ way.to_row)

-- to its own place an id is always moved, and nothing changes
pub transfer_same : (t : Table) (r s : ℕ) → s < 4 → transfer_of t r s r s ≡ record { answer = Ok tt; table = t }
unfolding transfer_of pick
transfer_same t r s l = rw (lt-leb 4 s l, eq-eqb r r refl, eq-eqb s s refl)
