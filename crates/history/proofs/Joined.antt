-- The joined steps are runs of calls: `joined_runs` and `joined_tell`. Assumes nothing.
use Rattle.std.specs.Prelude.{Err, Ok, Result, ⊤}
use mathlib.Core.Path.{◌≡◌, refl, sym, ap, ◌∙◌}
use mathlib.Core.Bool.{Bool, true, false}
use mathlib.Core.List.{List, [], ◌∷◌, map}
use Prim.Native.Nat.{ℕ, ◌+◌, ◌/◌, ◌%◌, ◌≤◌, ◌<◌}
use native.Mathlib.Omega.{arith}
use borrow.Author.Tests.{ne_eqb, ltb-true, ltb-false}
use lib.Dec.{eqb, ltb}
use lib.ListN.{get_or, length}
use Rattle.laws.specs.Pick.{pick}
use Rattle.laws.specs.Every.{every}
use Rattle.laws.proofs.Cases.{all_pick}
use Rattle.cap.specs.Slot.{vacant_slot, holding}
use Rattle.cap.specs.Word.{read_word, word_of, is_word, or_vacant, slot_at, words_read, slots_of}
use Rattle.cap.specs.declared.CapId.{CapId}
use Rattle.cap.specs.declared.slot.Slot.{Slot}
use Rattle.cap.proofs.Words.{holding_back, vacant_back, reads_test}
use Rattle.capslots.specs.Rows.{row_of, drain_of}
use Rattle.capslots.specs.Table.{row_at, fresh_table, Shape}
use Rattle.capslots.specs.declared.Table.{Table as Rows}
use Rattle.capslots.specs.declared.Drained.{Drained}
use Rattle.capslots.proofs.Ways.{drain_ways}
use Rattle.ipc_rules.specs.Holds.{registered, registered_all, register_of, release_of}
use Rattle.ipc_rules.specs.Opening.{hold_of}
use Rattle.ipc_rules.specs.declared.state.Table.{Table}
use Rattle.ipc_rules.proofs.Openings.{all_opened, hold_opens}
use Rattle.joined.specs.Answers.{spawn_number, leave_number, give_number}
use Rattle.joined.specs.Steps.{spawn_of, leave_of, give_of}
use Rattle.joined.specs.declared.answers.Spawning.{Spawning}
use Rattle.joined.specs.declared.answers.SpawnError.TheVariants as spawn
use Rattle.joined.specs.declared.answers.Leaving.{Leaving}
use Rattle.joined.specs.declared.answers.LeaveError.TheVariants as leave
use Rattle.joined.specs.declared.answers.Giving.{Giving}
use Rattle.joined.specs.declared.answers.GiveError.TheVariants as give
use Rattle.joined.proofs.Register.{list_registered, word_registered, seeded_row}
use Rattle.joined.proofs.Ways.{spawn_ways, leave_ways, give_ways}
use Rattle.history.specs.Calls as calls
use Rattle.history.specs.Calls.{Call, register, four_slots, releasing, answer, after}
use Rattle.history.specs.World.{World, step, run, Reached}
use Rattle.history.specs.Lent.{lending}
use Rattle.history.specs.Joined.{if_accepted, registering, spawn_calls, leave_calls, give_calls, SpawnTold, JoinedRuns, JoinedTell}
use Rattle.history.proofs.Kept.{step_table}
use Rattle.history.proofs.Tidy.{Tidy, reached_tidy}
use Rattle.cap.specs.declared.word.WordError.{WordError}
use Rattle.joined.specs.declared.answers.SpawnError.{SpawnError}
use Rattle.joined.specs.declared.answers.LeaveError.{LeaveError}
use Rattle.joined.specs.declared.answers.GiveError.{GiveError}

-- ---- no call, one, and two
pub not_accepted : (w : World) (n : ℕ) (cs : List Call) → (n ≡ 0 → ⊥) → (run w (if_accepted n cs)).table ≡ w.table
unfolding run if_accepted pick
not_accepted w n cs h = rw (ne_eqb n 0 h)

pub one_call : (w : World) (c : Call) → (run w (c ∷ [])).table ≡ after w.table c
unfolding run
one_call w c = step_table w c

two_calls : (w : World) (c d : Call) → (run w (c ∷ d ∷ [])).table ≡ after (after w.table c) d
unfolding run
two_calls w c d = step_table (step w c) d ∙ ap (λ u. after u d) (step_table w c)

accepted_two : (w : World) (c d : Call) → (run w (if_accepted 0 (c ∷ d ∷ []))).table ≡ after (after w.table c) d
unfolding if_accepted pick
accepted_two w c d = two_calls w c d

accepted : (w : World) (c : Call) → (run w (if_accepted 0 (c ∷ []))).table ≡ after w.table c
unfolding if_accepted pick
accepted w c = one_call w c

-- ---- what is refused has a number
spawn_number_lem : (a : Result ⊤ SpawnError) → (a ≡ Ok tt → ⊥) → spawn_number a ≡ 0 → ⊥
spawn_number_lem (Ok tt) n e = n refl
spawn_number_lem (Err spawn.BadWord) n e = omega arith
spawn_number_lem (Err spawn.BadRow) n e = omega arith
spawn_number_lem (Err spawn.BadTable) n e = omega arith

leave_number_lem : (a : Result ⊤ LeaveError) → (a ≡ Ok tt → ⊥) → leave_number a ≡ 0 → ⊥
leave_number_lem (Ok tt) n e = n refl
leave_number_lem (Err leave.BadRow) n e = omega arith
leave_number_lem (Err leave.BadTable) n e = omega arith

give_number_lem : (a : Result ⊤ GiveError) → (a ≡ Ok tt → ⊥) → give_number a ≡ 0 → ⊥
give_number_lem (Ok tt) n e = n refl
give_number_lem (Err give.BadSlot) n e = omega arith
give_number_lem (Err give.BadTable) n e = omega arith

-- ---- a row of four is its four slots
four : (l : List Slot) → length l ≡ 4 → four_slots (get_or l 0 vacant_slot) (get_or l 1 vacant_slot) (get_or l 2 vacant_slot) (get_or l 3 vacant_slot) ≡ l
four [] e = absurd (omega arith)
four (a ∷ []) e = absurd (omega arith)
four (a ∷ b ∷ []) e = absurd (omega arith)
four (a ∷ b ∷ c ∷ []) e = absurd (omega arith)
four (a ∷ b ∷ c ∷ d ∷ []) e = refl
four (a ∷ b ∷ c ∷ d ∷ x ∷ l) e = absurd (omega arith)

drained_four : (rows : Rows) (r : ℕ) → Shape rows → length (drain_of rows r).slots ≡ 4
drained_four rows r shape = drain_ways (λ (x : Drained). length x.slots ≡ 4) rows r (λ _. refl) (λ l. shape.slots r l)

pub row_four : (rows : Rows) (r : ℕ) → Shape rows → let l = (drain_of rows r).slots in four_slots (get_or l 0 vacant_slot) (get_or l 1 vacant_slot) (get_or l 2 vacant_slot) (get_or l 3 vacant_slot) ≡ l
row_four rows r shape = four (drain_of rows r).slots (drained_four rows r shape)

-- ---- the slots that a list gives a row, as words, read back as they are
slot_back : (w : ℕ) → let s = or_vacant (read_word w) in read_word (word_of s) ≡ Ok s
unfolding read_word or_vacant
slot_back w =
    all_pick Back (eqb w 0) _ _ (λ _. vacant_back) (λ _.
    all_pick Back (eqb (w / 4294967296) 1) _ _ (λ _. holding_back (record { raw = w % 4294967296 }) (omega arith)) (λ _. vacant_back))
  where
    Back : Result Slot WordError → Type 0
    Back a = read_word (word_of (or_vacant a)) ≡ Ok (or_vacant a)

module _ (words : List ℕ) where
  row_reads : words_read (map word_of (row_of words).slots) ≡ true
  unfolding every
  row_reads =
      let at : (i : ℕ) → is_word (word_of (slot_at words i)) ≡ true = λ i. reads_test (word_of (slot_at words i)) (slot_at words i) (slot_back (get_or words i 0)) in
      rw (at 0, at 1, at 2, at 3)

  row_back : slots_of (map word_of (row_of words).slots) ≡ (row_of words).slots
  unfolding slots_of or_vacant
  row_back =
      let at : (i : ℕ) → or_vacant (read_word (word_of (slot_at words i))) ≡ slot_at words i = λ i. ap or_vacant (slot_back (get_or words i 0)) in
      λ j. at 0 j ∷ at 1 j ∷ at 2 j ∷ at 3 j ∷ []

  -- registered, they are the four slots registered
  row_held : (t : Table) → after t (lending (row_of words).slots) ≡ registered_all t (row_of words).slots
  unfolding after
  row_held t = list_registered t (map word_of (row_of words).slots) row_reads ∙ ap (registered_all t) row_back

-- ---- an id of 32 bits reads as a word, and one past them opens nothing in a run
id_reads : (c : CapId) → c.raw < 4294967296 → words_read (word_of (holding c) ∷ []) ≡ true
unfolding every
id_reads c h = reads_test (word_of (holding c)) (holding c) (holding_back c h)

long_id : (t : Table) (c : CapId) → 4294967296 ≤ c.raw → (register_of t (word_of (holding c) ∷ [])).table ≡ t
unfolding register_of every word_of pick
long_id t c h = rw (ne_eqb (4294967296 + c.raw) 0 (λ e. omega arith), ne_eqb ((4294967296 + c.raw) / 4294967296) 1 (λ e. omega arith))

shut_long : (w : World) (c : CapId) → Tidy w → 4294967296 ≤ c.raw → registered w.table (holding c) ≡ w.table
unfolding registered
shut_long w c τ h = all_opened (λ (u : Table). u ≡ w.table) (hold_of w.table (holding c)) _ _ (λ _. refl)
    (λ k e. let g = τ.generation c _ k (hold_opens w.table (holding c) k e).1 in absurd (omega arith))

-- ---- the three steps
module _ (w : World) (rows : Rows) where
  abbrev t : Table
  t = w.table

  -- what their calls leave
  row_freed : (r : ℕ) → Shape rows → after t (releasing (drain_of rows r).slots) ≡ (release_of t (drain_of rows r).slots).table
  unfolding after
  row_freed r shape = ap (λ (l : List Slot). (release_of t l).table) (row_four rows r shape)

  id_held : (c : CapId) → Tidy w → (b : Bool) → ltb c.raw 4294967296 ≡ b → after t (registering c) ≡ registered t (holding c)
  unfolding after
  id_held c τ true e = word_registered t (word_of (holding c)) (holding c) (holding_back c (ltb-true c.raw 4294967296 e))
  id_held c τ false e = let h = ltb-false c.raw 4294967296 e in long_id t c h ∙ sym (shut_long w c τ h)

  -- what they leave
  spawn_run : (r : ℕ) (words : List ℕ) → Shape rows → (run w (spawn_calls t rows r words)).table ≡ (spawn_of t rows r words).channels
  unfolding spawn_calls
  spawn_run r words shape =
      spawn_ways t rows (λ (x : Spawning). (run w (if_accepted (spawn_number x.answer) (releasing (drain_of rows r).slots ∷ lending (row_at x.rows r).slots ∷ []))).table ≡ x.channels) r words
      (λ a n. not_accepted w (spawn_number a) _ (spawn_number_lem a n))
      (λ h l.
      let filled = seeded_row rows r words shape h l in
      accepted_two w (releasing (drain_of rows r).slots) _ ∙ rw (filled, row_freed r shape) (row_held words (release_of t (drain_of rows r).slots).table))

  leave_run : (r : ℕ) → Shape rows → (run w (leave_calls t rows r)).table ≡ (leave_of t rows r).channels
  unfolding leave_calls
  leave_run r shape =
      leave_ways t rows (λ (x : Leaving). (run w (if_accepted (leave_number x.answer) (releasing (drain_of rows r).slots ∷ []))).table ≡ x.channels) r
      (λ a n. not_accepted w (leave_number a) _ (leave_number_lem a n)) (λ _. accepted w (releasing (drain_of rows r).slots) ∙ row_freed r shape)

  give_run : (r s : ℕ) (c : CapId) → Tidy w → (run w (give_calls t rows r s c)).table ≡ (give_of t rows r s c).channels
  unfolding give_calls
  give_run r s c τ =
      give_ways t rows (λ (x : Giving). (run w (if_accepted (give_number x.answer) (registering c ∷ []))).table ≡ x.channels) r s c
      (λ a n. not_accepted w (give_number a) _ (give_number_lem a n)) (λ _. accepted w (registering c) ∙ id_held c τ (ltb c.raw 4294967296) refl)

pub joined_runs : JoinedRuns
joined_runs w reached rows shape = record { spawn = λ r words. spawn_run w rows r words shape; leave = λ r. leave_run w rows r shape; give = λ r s c. give_run w rows r s c (reached_tidy reached) }

-- an id registered by itself, as a give does
pub id_registered : (w : World) → Reached w → (c : CapId) → after w.table (registering c) ≡ registered w.table (holding c)
id_registered w reached c = id_held w fresh_table c (reached_tidy reached) (ltb c.raw 4294967296) refl

-- ---- what they answer
register_reads : (t : Table) (words : List ℕ) → words_read words ≡ true → answer t (register words) ≡ calls.registered (Ok tt)
unfolding answer register_of pick
register_reads t words h = rw h

module _ (t : Table) (rows : Rows) where
  row_wakes : (r : ℕ) → Shape rows → answer t (releasing (drain_of rows r).slots) ≡ calls.released (Ok tt) (release_of t (drain_of rows r).slots).waiters
  unfolding answer release_of
  row_wakes r shape = ap (λ (l : List Slot). calls.released (Ok tt) (release_of t l).waiters) (row_four rows r shape)

  spawn_told : (r : ℕ) (words : List ℕ) → Shape rows → (spawn_of t rows r words).answer ≡ Ok tt → SpawnTold t rows r words
  spawn_told r words shape e =
      record {
        first =
            spawn_ways t rows (λ (x : Spawning). x.answer ≡ Ok tt → answer t (releasing (drain_of rows r).slots) ≡ calls.released (Ok tt) x.waiters) r words
            (λ _ n q. absurd (n q)) (λ _ _ _. row_wakes r shape) e;
        then = λ u.
            spawn_ways t rows (λ (x : Spawning). x.answer ≡ Ok tt → answer u (lending (row_at x.rows r).slots) ≡ calls.registered (Ok tt)) r words
            (λ _ n q. absurd (n q)) (λ h l _. rw (seeded_row rows r words shape h l) (register_reads u (map word_of (row_of words).slots) (row_reads words))) e;
      }

  leave_told : (r : ℕ) → Shape rows → (leave_of t rows r).answer ≡ Ok tt → answer t (releasing (drain_of rows r).slots) ≡ calls.released (Ok tt) (leave_of t rows r).waiters
  leave_told r shape =
      leave_ways t rows (λ (x : Leaving). x.answer ≡ Ok tt → answer t (releasing (drain_of rows r).slots) ≡ calls.released (Ok tt) x.waiters) r
      (λ _ n e. absurd (n e)) (λ _ _. row_wakes r shape)

pub joined_tell : JoinedTell
joined_tell t rows shape =
    record {
      spawn = λ r words. spawn_told t rows r words shape;
      leave = λ r. leave_told t rows r shape;
      give = λ r s c h _. register_reads t (word_of (holding c) ∷ []) (id_reads c h);
    }
