-- An id that opens one channel or nothing, in the list of a register or a release: its slot's own step, and the whole call beside the one
-- with that place vacant. Assumes nothing.
use Rattle.std.specs.Prelude.{Ok, Result, ⊤}
use mathlib.Core.Path.{◌≡◌, refl, sym, ap, ◌∙◌}
use mathlib.Core.Bool.{true}
use mathlib.Core.List.{List, [], ◌∷◌}
use mathlib.Core.Logic.{inl, inr, ⊎_elim}
use Prim.Native.Nat.{ℕ, suc, ◌-◌, ◌<◌}
use native.Mathlib.Omega.{arith}
use lib.ListN.{get_or, length, set, length-set}
use Rattle.laws.specs.Pick.{pick}
use Rattle.laws.specs.Every.{every}
use Rattle.laws.proofs.Bools.{either, same?}
use Rattle.laws.proofs.Cases.{not_both}
use Rattle.laws.proofs.Lists.{all_reset}
use Rattle.cap.specs.Slot.{vacant_slot}
use Rattle.cap.specs.Word.{read_word, is_word, words_read, or_vacant, slot_at, slots_of}
use Rattle.cap.specs.declared.CapId.{CapId}
use Rattle.cap.specs.declared.slot.Slot.{Slot}
use Rattle.cap.proofs.Words.{reads_test, slots_at, slots_length}
use Rattle.ipc_rules.specs.Sound.{Sound}
use Rattle.ipc_rules.specs.Opening.{opened, hold_of}
use Rattle.ipc_rules.specs.Holds.{registered, registered_all, released, released_all, release_of, Freed}
use Rattle.ipc_rules.specs.Views.{waiter_of, hold_count, ephemeral_of, held_by, held_in, Alike, Steady}
use Rattle.ipc_rules.specs.declared.state.Table.{Table}
use Rattle.ipc_rules.specs.declared.opening.Opening.{Opening}
use Rattle.ipc_rules.specs.declared.opening.Opening.TheVariants.{Opens, Shut}
use Rattle.ipc_rules.proofs.Changes.{alike_same}
use Rattle.ipc_rules.proofs.Held.{held_none, held_other}
use Rattle.ipc_rules.proofs.KeepsCalls.{registered_all_kept, released_all_kept}
use Rattle.ipc_rules.proofs.OtherOpenings.{hold_steady}
use Rattle.ipc_rules.proofs.AfterRegister as register
use Rattle.ipc_rules.proofs.AfterRelease as release
use Rattle.ipc_rules.proofs.AfterReleaseAll.{ReleasedAt, released_in}
use Rattle.history.specs.Calls.{register, four_slots, releasing, after}
use Rattle.history.specs.World.{World}
use Rattle.history.specs.Channels.{LivesIn}
use Rattle.history.specs.Reach.{Touches, untouched, touched, AlikeBut}
use Rattle.history.specs.Ids.{OpensOnly}
use Rattle.ipc_rules.specs.declared.answers.RegisterError.{RegisterError}
use Rattle.shown.specs.declared.Answered.{Answered}

-- the four slots of a release
abbrev four : List Slot → List Slot
four slots = four_slots (get_or slots 0 vacant_slot) (get_or slots 1 vacant_slot) (get_or slots 2 vacant_slot) (get_or slots 3 vacant_slot)

-- ---- a mailbox that two lists hold alike
module _ (t : Table) (j : ℕ) where
  -- two lists whose slots hold mailbox j alike, place by place
  held_places : (xs ys : List Slot) → length xs ≡ length ys → ((p : ℕ) → held_by t j (get_or xs p vacant_slot) ≡ held_by t j (get_or ys p vacant_slot)) → held_in t j xs ≡ held_in t j ys
  unfolding held_in
  held_places [] [] l h = refl
  held_places [] (y ∷ ys) l h = absurd (omega arith)
  held_places (x ∷ xs) [] l h = absurd (omega arith)
  held_places (x ∷ xs) (y ∷ ys) l h = let a = h 0 in let b = held_places xs ys (omega arith) (λ p. h (suc p)) in omega arith

  registered_alike : {u v : Table} (m : ℕ) → register.RegisteredAt t u j m → register.RegisteredAt t v j m → Alike u v j
  registered_alike m a b =
      record {
        live = b.live ∙ sym a.live;
        ephemeral = b.ephemeral ∙ sym a.ephemeral;
        queue = b.queue ∙ sym a.queue;
        waiter = b.waiter ∙ sym a.waiter;
        holds = b.holds ∙ sym a.holds;
      }

  module _ (r s : Freed) (m : ℕ) (a : ReleasedAt t j m r) (b : ReleasedAt t j m s) where
    both_stay : ((waiter_of t j).present ≡ true → ephemeral_of t j ≡ true → 0 < hold_count t j - m) → waiter_of s.table j ≡ waiter_of r.table j
    both_stay h =
        let p = a.holds in
        let q = b.holds in
        b.stays (λ x e. let l = h x e in omega arith) ∙ sym (a.stays (λ x e. let l = h x e in omega arith))

    released_waiter : waiter_of s.table j ≡ waiter_of r.table j
    released_waiter =
        ⊎_elim
        (λ x. ⊎_elim
        (λ e. ⊎_elim (λ z. b.gone x e (b.holds ∙ z) ∙ sym (a.gone x e (a.holds ∙ z))) (λ n. both_stay (λ _ _. omega arith)) (same? (hold_count t j - m) 0))
        (λ e. both_stay (λ _ f. absurd (not_both _ f e))) (either (ephemeral_of t j)))
        (λ x. both_stay (λ y _. absurd (not_both _ y x))) (either (waiter_of t j).present)

    released_alike : Alike r.table s.table j
    released_alike =
        record {
          live = b.live ∙ sym a.live;
          ephemeral = b.ephemeral ∙ sym a.ephemeral;
          queue = b.queue ∙ sym a.queue;
          waiter = released_waiter;
          holds = b.holds ∙ sym a.holds;
        }

module _ (w : World) (n : ℕ) (c : CapId) (σ : Sound w.table) (only : OpensOnly w n c) where
  abbrev t : Table
  t = w.table

  -- ---- the slot's own step
  -- at its turn it opens what it opens in w
  lives_held : (u : Table) → Steady t u → (x : Slot) → x.id ≡ c → (k : ℕ) → hold_of u x ≡ Opens k → LivesIn w n k
  lives_held u a x e k o = only.hold x e k (sym (hold_steady t u a x) ∙ o)

  pub touch_register : (x : Slot) → x.id ≡ c → (before : List Slot) → let u = registered_all t before in Touches w n u (record { table = registered u x; woken = [] })
  touch_register x e before = by (register.register_ways u x (registered_all_kept t before σ))
    where
      u : Table
      u = registered_all t before

      by : register.RegisterWays u x (registered u x) → Touches w n u (record { table = registered u x; woken = [] })
      by (register.skipped _ q) = untouched (ap (λ (v : Table). record { table = v; woken = [] }) q)
      by (register.counted k o r) = touched k (lives_held u (register.registered_in t before σ).steady x e k o) r.rest (inl refl)

  pub touch_release : (x : Slot) → x.id ≡ c → (before : List Slot) → let u = (released_all t before).table in Touches w n u (released u x)
  touch_release x e before = by (release.release_ways u x (released_all_kept t before σ))
    where
      u : Table
      u = (released_all t before).table

      lives : (k : ℕ) → hold_of u x ≡ Opens k → LivesIn w n k
      lives = lives_held u (released_in t before σ).steady x e

      by : release.ReleaseWays u x (released u x) → Touches w n u (released u x)
      by (release.skipped _ q) = untouched q
      by (release.kept k o _ r _ q) = touched k (lives k o) r.rest (inl q)
      by (release.woke k o _ r _ q) = touched k (lives k o) r.rest (inr q)

  -- ---- the whole call, seen from a mailbox where n does not live
  module _ (j : ℕ) (away : LivesIn w n j → ⊥) where
    holds_none : (x : Slot) → x.id ≡ c → held_by t j x ≡ 0
    holds_none x e = by (hold_of t x) refl
      where
        by : (o : Opening) → hold_of t x ≡ o → held_by t j x ≡ 0
        by Shut o = held_none t j x o
        by (Opens k) o = held_other t j x k o (λ q. away (rw q (only.hold x e k o)))

    vacant_none : held_by t j vacant_slot ≡ 0
    unfolding held_by hold_of opened pick
    vacant_none = refl

    -- a list of words, and of slots, with place i vacant
    word_held : (words : List ℕ) (i : ℕ) (x : Slot) → read_word (get_or words i 0) ≡ Ok x → x.id ≡ c → (p : ℕ) →
        held_by t j (slot_at (set words i 0) p) ≡ held_by t j (slot_at words p)
    unfolding or_vacant read_word pick
    word_held words i x r e p =
        all_reset (λ v. held_by t j (or_vacant (read_word v)) ≡ held_by t j (slot_at words p)) words i p 0
        (λ q. vacant_none ∙ sym (rw (q, r) (holds_none x e))) (λ _. refl)

    words_held : (words : List ℕ) (i : ℕ) (x : Slot) → read_word (get_or words i 0) ≡ Ok x → x.id ≡ c → held_in t j (slots_of (set words i 0)) ≡ held_in t j (slots_of words)
    words_held words i x r e =
        held_places t j (slots_of (set words i 0)) (slots_of words) (slots_length (set words i 0) ∙ length-set words i 0 ∙ sym (slots_length words))
        (λ p. ap (held_by t j) (slots_at (set words i 0) p) ∙ word_held words i x r e p ∙ ap (held_by t j) (sym (slots_at words p)))

    slot_held : (slots : List Slot) (i : ℕ) → (get_or slots i vacant_slot).id ≡ c → (p : ℕ) → held_by t j (get_or (set slots i vacant_slot) p vacant_slot) ≡ held_by t j (get_or slots p vacant_slot)
    slot_held slots i e p =
        all_reset (λ x. held_by t j x ≡ held_by t j (get_or slots p vacant_slot)) slots i p vacant_slot (λ q. vacant_none ∙ sym (rw q (holds_none (get_or slots i vacant_slot) e))) (λ _. refl)

    four_held : (slots : List Slot) (i : ℕ) → (get_or slots i vacant_slot).id ≡ c → held_in t j (four (set slots i vacant_slot)) ≡ held_in t j (four slots)
    unfolding held_in
    four_held slots i e =
        let h₀ = slot_held slots i e 0 in
        let h₁ = slot_held slots i e 1 in
        let h₂ = slot_held slots i e 2 in
        let h₃ = slot_held slots i e 3 in
        omega arith

  -- the list reads with that place vacant where it reads
  same_reads : (words : List ℕ) (i : ℕ) (x : Slot) → read_word (get_or words i 0) ≡ Ok x → words_read (set words i 0) ≡ words_read words
  same_reads words i x r = ap (every (λ p. is_word (get_or (set words i 0) p 0))) (length-set words i 0) ∙ (λ k. every (λ p. same p k) (length words))
    where
      same : (p : ℕ) → is_word (get_or (set words i 0) p 0) ≡ is_word (get_or words p 0)
      same p = all_reset (λ v. is_word v ≡ is_word (get_or words p 0)) words i p 0 (λ q. sym (rw q (reads_test (get_or words i 0) x r))) (λ _. refl)

  pub alike_register : (words : List ℕ) (i : ℕ) (x : Slot) → read_word (get_or words i 0) ≡ Ok x → x.id ≡ c → AlikeBut w n (register words) (register (set words i 0))
  unfolding after
  alike_register words i x r e j away = by (register.register_call_ways t (set words i 0) σ) (register.register_call_ways t words σ)
    where
      by : {u v : Answered (Result ⊤ RegisterError) Table} → register.RegisterCallWays t (set words i 0) u → register.RegisterCallWays t words v → Alike u.table v.table j
      by (register.bad_word _ p) (register.bad_word _ q) = rw (p, q) (alike_same t j)
      by (register.bad_word h _) (register.all f _ _) = absurd (not_both _ f (sym (same_reads words i x r) ∙ h))
      by (register.all f _ _) (register.bad_word h _) = absurd (not_both _ (sym (same_reads words i x r) ∙ f) h)
      by (register.all _ _ a) (register.all _ _ b) =
          registered_alike t j (held_in t j (slots_of words)) (rw (words_held j away words i x r e) at (a.mailboxes j)) (b.mailboxes j)

  pub alike_release : (slots : List Slot) (i : ℕ) → (get_or slots i vacant_slot).id ≡ c → AlikeBut w n (releasing slots) (releasing (set slots i vacant_slot))
  unfolding after release_of
  alike_release slots i e j away =
      released_alike t j _ _ (held_in t j (four slots)) (rw (four_held j away slots i e) at ((released_in t (four (set slots i vacant_slot)) σ).mailboxes j)) ((released_in t (four slots) σ).mailboxes j)
