-- Give, leave, spawn and transfer keep it. Assumes nothing.
use Rattle.std.specs.Prelude.{Err, Ok, Result, ⊤}
use mathlib.Core.Path.{◌≡◌, refl, sym, ap, ◌∙◌}
use mathlib.Core.Bool.{true, false}
use mathlib.Core.List.{List, [], ◌∷◌}
use mathlib.Core.Logic.{⊎_elim}
use Prim.Native.Nat.{ℕ, zero, suc, ◌<◌}
use native.Mathlib.Omega.{arith}
use borrow.Author.Tests.{eq-eqb, lt-leb}
use lib.Dec.{eqb}
use lib.ListN.{get_or}
use Rattle.laws.specs.Pick.{pick}
use Rattle.laws.proofs.Bools.{same?}
use Rattle.laws.proofs.Cases.{not_both}
use Rattle.laws.proofs.Every.{and_both}
use Rattle.cap.specs.Slot.{vacant_slot, four_vacant, holding}
use Rattle.cap.specs.Word.{slot_at, words_read}
use Rattle.cap.specs.declared.CapId.{CapId}
use Rattle.cap.specs.declared.slot.Slot.{Slot}
use Rattle.capslots.specs.Table.{empty_row, row_at, slot_in, with_row, with_slot, Shape}
use Rattle.capslots.specs.Rows.{row_of, seed_of, drain_of}
use Rattle.capslots.specs.Transfer.{transfer_of}
use Rattle.capslots.specs.declared.Row.{Row}
use Rattle.capslots.specs.declared.Table.{Table as Rows}
use Rattle.capslots.specs.declared.Drained.{Drained}
use Rattle.capslots.specs.declared.answers.InstallError.TheVariants.{BadSlot}
use Rattle.capslots.proofs.Places.{new_row, other_row, shape_row, new_slot, other_slot, shape_slot}
use Rattle.capslots.proofs.Ways.{install_ways, drain_ways, transfer_ways}
use Rattle.ipc_rules.specs.Holds.{registered, registered_all, release_of}
use Rattle.ipc_rules.specs.Views.{held_by, held_in}
use Rattle.ipc_rules.specs.declared.state.Channel.{Channel}
use Rattle.ipc_rules.specs.declared.state.Table.{Table as Channels}
use Rattle.joined.specs.declared.answers.GiveError.{GiveError}
use Rattle.joined.specs.Steps.{vacated, spawn_of, leave_of, give_of}
use Rattle.joined.specs.declared.answers.Spawning.{Spawning}
use Rattle.joined.specs.declared.answers.Leaving.{Leaving}
use Rattle.joined.specs.declared.answers.Giving.{Giving}
use Rattle.joined.proofs.Ways.{spawn_ways, leave_ways, give_ways}
use Rattle.isolation.proofs.Slots.{never_vacant, same_held}
use Rattle.tally.specs.Count.{sum_over, over_slots}
use Rattle.tally.specs.Runs.{CameFrom}
use Rattle.tally.proofs.Sums.{sum_row, sum_slot}
use Rattle.tally.proofs.Tallied.{Tallied, held_vacant, list_sum}
use Rattle.tally.proofs.KeptRows.{kept_registered, kept_released}
use Rattle.capslots.specs.declared.answers.InstallError.{InstallError}
use Rattle.shown.specs.declared.Answered.{Answered}
use Rattle.capslots.specs.declared.answers.TransferError.{TransferError}

-- ---- an id put in a vacant slot and registered
module _ {t : Channels} {rows : Rows} {l : List Channel} (x : Tallied t rows l) where
  pub put_keeps : (r s : ℕ) (c : CapId) → r < 54 → s < 4 → (slot_in rows r s).present ≡ false → CameFrom l c → Tallied (registered t (holding c)) (with_slot rows r s (holding c)) l
  unfolding registered_all held_in
  put_keeps r s c a b vacant from =
      kept_registered x (holding c ∷ []) (with_slot rows r s (holding c)) (shape_slot rows x.shape r s (holding c) a)
      (λ q p d h. ⊎_elim
      (λ (e : q ≡ r). ⊎_elim (λ (f : p ≡ s). let g : holding c ≡ holding d = sym (new_slot rows x.shape r s (holding c) a b) ∙ (rw (e, f) at h) in let i : c ≡ d = same_held g in rw (← i) from)
      (λ n. x.origin q p d (sym (other_slot rows x.shape r s (holding c) a q p (λ _ f. n f)) ∙ h)) (same? p s))
      (λ n. x.origin q p d (sym (other_slot rows x.shape r s (holding c) a q p (λ e _. n e)) ∙ h)) (same? q r))
      (omega arith)
      (λ k. let u = sum_slot (held_by t k) rows x.shape r s (holding c) a b in let v = held_vacant t k (slot_in rows r s) vacant in omega arith)

  pub give_keeps : (r s : ℕ) (c : CapId) → ((give_of t rows r s c).answer ≡ Ok tt → CameFrom l c) → Tallied (give_of t rows r s c).channels (give_of t rows r s c).rows l
  give_keeps r s c =
      give_ways t rows (λ (o : Giving). (o.answer ≡ Ok tt → CameFrom l c) → Tallied o.channels o.rows l) r s c (λ _ _ _. x)
      (install_ways (λ (o : Answered (Result ⊤ InstallError) Rows). o.answer ≡ Ok tt → (◌≡◌ {A = Result ⊤ GiveError} (Ok tt) (Ok tt) → CameFrom l c) → Tallied (registered t (holding c)) o.table l) rows r s c (λ e. absurd (bad e)) (λ a b v _ from. put_keeps r s c a b v (from refl)))
    where
      bad : ◌≡◌ {A = Result ⊤ InstallError} (Err BadSlot) (Ok tt) → ⊥
      bad e = let z : ◌≡◌ {A = ℕ} 0 1 = cc in omega arith

  -- ---- a row let go
  none_vacant : (k : ℕ) → sum_over (held_by t k) four_vacant ≡ 0
  unfolding sum_over
  none_vacant k = let z = held_vacant t k vacant_slot refl in omega arith

  from_left : (r : ℕ) → r < 54 → (q p : ℕ) (d : CapId) → slot_in (with_row rows r empty_row) q p ≡ holding d → CameFrom l d
  from_left r a q p d h = ⊎_elim
      (λ e. let g : get_or four_vacant p vacant_slot ≡ holding d = ap (λ (row : Row). get_or row.slots p vacant_slot) (sym (new_row rows r empty_row x.shape a)) ∙ (rw e at h) in absurd (vacant p g))
      (λ n. x.origin q p d (ap (λ (row : Row). get_or row.slots p vacant_slot) (sym (other_row rows r empty_row q n)) ∙ h)) (same? q r)
    where
      vacant : (p : ℕ) → get_or four_vacant p vacant_slot ≡ holding d → ⊥
      vacant zero e = never_vacant refl e
      vacant (suc zero) e = never_vacant refl e
      vacant (suc (suc zero)) e = never_vacant refl e
      vacant (suc (suc (suc zero))) e = never_vacant refl e
      vacant (suc (suc (suc (suc p)))) e = never_vacant refl e

  vacate : (r : ℕ) → r < 54 → Tallied (release_of t (row_at rows r).slots).table (with_row rows r empty_row) l
  unfolding release_of
  vacate r a =
      kept_released x (row_at rows r).slots (with_row rows r empty_row) (shape_row rows r empty_row x.shape a refl) (from_left r a)
      (λ k. let u = sum_row (held_by t k) rows x.shape r empty_row a in let v = none_vacant k in let w = list_sum t k (row_at rows r).slots in omega arith)

  pub vacate_keeps : (r : ℕ) → r < 54 → Tallied (vacated t rows r).channels (vacated t rows r).rows l
  vacate_keeps r a =
      drain_ways (λ (o : Drained). Tallied (release_of t o.slots).table o.table l) rows r (λ b. absurd (omega arith)) (λ _. vacate r a)

  pub leave_keeps : (r : ℕ) → Tallied (leave_of t rows r).channels (leave_of t rows r).rows l
  leave_keeps r = leave_ways t rows (λ (o : Leaving). Tallied o.channels o.rows l) r (λ _ _. x) (λ a. vacate_keeps r a)

-- ---- a row that is vacant filled and registered
module _ {t : Channels} {rows : Rows} {l : List Channel} (x : Tallied t rows l) (r : ℕ) (a : r < 54) (empty : row_at rows r ≡ empty_row) where
  four_from : (words : List ℕ) (p : ℕ) (d : CapId) → ((i : ℕ) (c : CapId) → i < 4 → slot_at words i ≡ holding c → CameFrom l c) → get_or (row_of words).slots p vacant_slot ≡ holding d → CameFrom l d
  four_from words zero d h e = h 0 d (omega arith) e
  four_from words (suc zero) d h e = h 1 d (omega arith) e
  four_from words (suc (suc zero)) d h e = h 2 d (omega arith) e
  four_from words (suc (suc (suc zero))) d h e = h 3 d (omega arith) e
  four_from words (suc (suc (suc (suc p)))) d h e = never_vacant refl e

  fill : (words : List ℕ) → ((i : ℕ) (c : CapId) → i < 4 → slot_at words i ≡ holding c → CameFrom l c) → Tallied (registered_all t (row_of words).slots) (with_row rows r (row_of words)) l
  fill words h =
      kept_registered x (row_of words).slots (with_row rows r (row_of words)) (shape_row rows r (row_of words) x.shape a refl)
      (λ q p d e. ⊎_elim
      (λ i. four_from words p d h (ap (λ (row : Row). get_or row.slots p vacant_slot) (sym (new_row rows r (row_of words) x.shape a)) ∙ (rw i at e)))
      (λ n. x.origin q p d (ap (λ (row : Row). get_or row.slots p vacant_slot) (sym (other_row rows r (row_of words) q n)) ∙ e)) (same? q r))
      (omega arith)
      (λ k. let u = sum_row (held_by t k) rows x.shape r (row_of words) a in
      let v : sum_over (held_by t k) (row_at rows r).slots ≡ 0 = ap (λ (row : Row). sum_over (held_by t k) row.slots) empty ∙ none_vacant x k in
      let w = list_sum t k (row_of words).slots in omega arith)

-- ---- spawn: the row let go, filled anew and registered
module _ {t : Channels} {rows : Rows} {l : List Channel} (x : Tallied t rows l) (r : ℕ) (words : List ℕ)
    (from : (spawn_of t rows r words).answer ≡ Ok tt → (i : ℕ) (c : CapId) → i < 4 → slot_at words i ≡ holding c → CameFrom l c) where
  seeded : words_read words ≡ true → r < 54 → (seed_of (vacated t rows r).rows r words).table ≡ with_row (with_row rows r empty_row) r (row_of words)
  unfolding seed_of drain_of pick
  seeded w a = rw (w, lt-leb 54 r a)

  gone_rows : r < 54 → (vacated t rows r).rows ≡ with_row rows r empty_row
  unfolding drain_of pick
  gone_rows a = rw (lt-leb 54 r a)

  -- a list that reads, and a row that is there
  succeeds : words_read words ≡ true → r < 54 → (spawn_of t rows r words).answer ≡ Ok tt
  unfolding spawn_of pick
  succeeds w a = rw (w, lt-leb 54 r a)

  pub spawn_keeps : Tallied (spawn_of t rows r words).channels (spawn_of t rows r words).rows l
  spawn_keeps =
      spawn_ways t rows (λ (o : Spawning). Tallied o.channels o.rows l) r words (λ _ _. x)
      (λ w a.
      let g = gone_rows a in
      let y : Tallied (vacated t rows r).channels (with_row rows r empty_row) l = rw g at (vacate_keeps x r a) in
      let e = new_row rows r empty_row x.shape a in
      let f : row_at (with_row (with_row rows r empty_row) r (row_of words)) r ≡ row_of words = new_row (with_row rows r empty_row) r (row_of words) y.shape a in
      rw (seeded w a, f) (fill y r a e words (from (succeeds w a))))

-- ---- transfer
-- a sum in which a vacant slot counts nothing stays as it was
pub transfer_sum : (f : Slot → ℕ) → ((y : Slot) → y.present ≡ false → f y ≡ 0) → (rows : Rows) → Shape rows → (r s r' s' : ℕ) →
    over_slots f (transfer_of rows r s r' s').table ≡ over_slots f rows
transfer_sum f none rows shape r s r' s' =
    transfer_ways (λ (o : Answered (Result ⊤ TransferError) Rows). over_slots f o.table ≡ over_slots f rows) rows r s r' s' (λ _ _. refl) (λ _ _. refl)
    (λ w free.
    let one = with_slot rows r s vacant_slot in
    let c = (slot_in rows r s).id in
    let shape₁ = shape_slot rows shape r s vacant_slot w.from_row in
    let apart : slot_in one r' s' ≡ slot_in rows r' s' = other_slot rows shape r s vacant_slot w.from_row r' s' (λ e g. not_both _ (and_both (eqb r r') (eqb s s') (eq-eqb r r' (sym e)) (eq-eqb s s' (sym g))) w.elsewhere) in
    let a = sum_slot f rows shape r s vacant_slot w.from_row w.from_slot in
    let b = sum_slot f one shape₁ r' s' (holding c) w.to_row w.to_slot in
    let v = none vacant_slot refl in
    let u : f (slot_in one r' s') ≡ 0 = ap f apart ∙ none (slot_in rows r' s') free in
    let h : f (slot_in rows r s) ≡ f (holding c) = ap f (present (slot_in rows r s) w.held) in
    omega arith)
  where
    present : (y : Slot) → y.present ≡ true → y ≡ holding y.id
    present y e = rw (← e)
