-- A release answers who is woken at the place of its turn in the list. Assumes nothing.
use mathlib.Core.Path.{◌≡◌, refl, sym, ap, ◌∙◌}
use mathlib.Core.Bool.{true, false, ◌&&◌}
use mathlib.Core.List.{List, [], ◌∷◌, ◌++◌}
use mathlib.Core.Logic.{⊎_elim}
use Prim.Native.Nat.{ℕ, suc, ◌+◌, ◌-◌, ◌<◌, ◌≤◌}
use native.Mathlib.Omega.{arith}
use borrow.Author.Tests.{eqb-true, eq-eqb, ne_eqb}
use lib.Dec.{eqb}
use lib.ListN.{get_or}
use Rattle.laws.specs.Pick.{pick}
use Rattle.laws.proofs.Bools.{either, same?, and_three}
use Rattle.laws.proofs.Cases.{all_pick, not_both}
use Rattle.laws.proofs.Every.{and_right, and_both}
use Rattle.cap.specs.declared.slot.Slot.{Slot}
use Rattle.ipc_rules.specs.State.{nobody}
use Rattle.ipc_rules.specs.Sound.{Sound}
use Rattle.ipc_rules.specs.Opening.{hold_of, opened}
use Rattle.ipc_rules.specs.Holds.{released, released_all, Freed}
use Rattle.ipc_rules.specs.Views.{waiter_of, hold_count, ephemeral_of, held_by, held_in, Steady}
use Rattle.ipc_rules.specs.declared.state.Waiter.{Waiter}
use Rattle.ipc_rules.specs.declared.state.Table.{Table}
use Rattle.ipc_rules.specs.declared.opening.Opening.TheVariants.{Opens, Shut}
use Rattle.ipc_rules.proofs.Changes.{steady_same, steady_then}
use Rattle.ipc_rules.proofs.Held.{held_none, held_one, held_other}
use Rattle.ipc_rules.proofs.KeepsCalls.{released_kept}
use Rattle.ipc_rules.proofs.Openings.{all_opened}
use Rattle.ipc_rules.proofs.OtherOpenings.{hold_steady}
use Rattle.ipc_rules.proofs.AfterRelease.{Reaps, ReleaseWays, skipped, kept, woke, release_ways, release_steady}
use Rattle.ipc_rules.proofs.AfterReleaseAll.{ReleasedAt, released_in}
use Rattle.history.specs.Waits.{takes_last, waits_ended, turn_of}

-- ---- the table behind the slots xs
record Behind (t : Table) (xs : List Slot) (u : Table) : Type 0 where
  pub steady : Steady t u
  pub holds : (j : ℕ) → hold_count u j ≡ hold_count t j - held_in t j xs
  pub ephemeral : (j : ℕ) → ephemeral_of u j ≡ ephemeral_of t j
  pub waiter : (j : ℕ) → 0 < hold_count u j → waiter_of u j ≡ waiter_of t j

behind_none : (t : Table) → Behind t [] t
unfolding held_in
behind_none t = record { steady = steady_same t; holds = λ j. (let e : hold_count t j ≡ hold_count t j - 0 = omega arith in e); ephemeral = λ _. refl; waiter = λ _ _. refl }

-- a slot holds what it held
module _ (t u : Table) (a : Steady t u) where
  held_same : (j : ℕ) (s : Slot) → held_by u j s ≡ held_by t j s
  unfolding held_by
  held_same j s = rw (hold_steady t u a s)

-- at most one hold a slot
held_most : (t : Table) (k : ℕ) (s : Slot) → held_by t k s ≤ 1
unfolding held_by
held_most t k s =
    all_opened (λ n. n ≤ 1) (hold_of t s) _ _ (λ _. omega arith) (λ j _.
    all_pick (λ n. n ≤ 1) (eqb j k) _ _ (λ _. omega arith) (λ _. omega arith))

-- one slot, seen from each mailbox
one_at : (u : Table) (s : Slot) (j : ℕ) → Sound u → ReleasedAt u j (held_by u j s + 0) (record { table = (released u s).table; woken = (released u s).woken ++ [] })
unfolding released_all held_in
one_at u s j σ = (released_in u (s ∷ []) σ).mailboxes j

behind_next : (t u : Table) (xs : List Slot) (s : Slot) → Sound u → Behind t xs u → Behind t (s ∷ xs) (released u s).table
unfolding held_in
behind_next t u xs s σ b =
    record {
      steady = steady_then b.steady (release_steady u s σ);
      holds = λ j.
          let h = (one_at u s j σ).holds in
          let p = b.holds j in
          let q = held_same t u b.steady j s in
          omega arith;
      ephemeral = λ j. (one_at u s j σ).ephemeral ∙ b.ephemeral j;
      waiter = λ j l. let h = (one_at u s j σ).holds in (one_at u s j σ).stays (λ _ _. l) ∙ b.waiter j (omega arith);
    }

-- ---- one slot of the list, seen from mailbox k, on which holds are left: it wakes nobody, another, or who waits on k
data Turn (t : Table) (k : ℕ) (xs : List Slot) (s : Slot) (w : Waiter) (r : Freed) : Type 0 where
  nobody_yet : r.woken ≡ [] → waits_ended t xs s ≡ 0 → takes_last t xs s k ≡ false → 0 < hold_count r.table k → Turn t k xs s w r
  another : (v : Waiter) → r.woken ≡ v ∷ [] → waits_ended t xs s ≡ 1 → takes_last t xs s k ≡ false → 0 < hold_count r.table k → Turn t k xs s w r
  itself : r.woken ≡ w ∷ [] → takes_last t xs s k ≡ true → Turn t k xs s w r

module _ (t u : Table) (k : ℕ) (xs : List Slot) (s : Slot) (σ : Sound u) (b : Behind t xs u) where
  hold_same : hold_of t s ≡ hold_of u s
  hold_same = sym (hold_steady t u b.steady s)

  -- it takes the last hold of a mailbox where it holds its send end and one hold is left
  takes : (j : ℕ) → held_by t j s ≡ 1 → hold_count u j ≡ 1 → takes_last t xs s j ≡ true
  unfolding takes_last
  takes j o e = and_both (eqb (held_by t j s) 1) (eqb (hold_count t j - held_in t j xs) 1) (eq-eqb _ _ o) (eq-eqb _ _ (sym (b.holds j) ∙ e))

  one_left : (j : ℕ) → takes_last t xs s j ≡ true → hold_count u j ≡ 1
  unfolding takes_last
  one_left j e = b.holds j ∙ eqb-true _ _ (and_right (eqb (held_by t j s) 1) (eqb (hold_count t j - held_in t j xs) 1) e)

  takes_none : (j : ℕ) → held_by t j s ≡ 0 → takes_last t xs s j ≡ false
  unfolding takes_last
  takes_none j o = simp (ne_eqb (held_by t j s) 1 (λ e. omega arith))

  -- mailbox k has holds left, unless it takes the last
  left : 0 < hold_count u k → takes_last t xs s k ≡ false → 0 < hold_count (released u s).table k
  left l n =
      let h = (one_at u s k σ).holds in
      let e = held_same t u b.steady k s in
      let m = held_most t k s in
      ⊎_elim (λ p. ⊎_elim (λ q. absurd (not_both _ (takes k q p) n)) (λ q. omega arith) (same? (held_by t k s) 1)) (λ p. omega arith) (same? (hold_count u k) 1)

  ended_none : hold_of u s ≡ Shut → waits_ended t xs s ≡ 0
  unfolding waits_ended opened
  ended_none o = rw (hold_same ∙ o)

  -- a wait is ended where the release reaps
  ended_kept : (j : ℕ) → hold_of u s ≡ Opens j → (Reaps u j → ⊥) → waits_ended t xs s ≡ 0
  unfolding waits_ended opened
  ended_kept j o n =
      rw (hold_same ∙ o)
      (all_pick (λ i. i ≡ 0) (takes_last t xs s j && ephemeral_of t j && (waiter_of t j).present) 1 0
      (λ h.
      let p = and_three (takes_last t xs s j) (ephemeral_of t j) (waiter_of t j).present h in
      let e = one_left j p.0 in
      absurd (n (record { none_left = omega arith; ephemeral = b.ephemeral j ∙ p.1; waits = ap (λ (x : Waiter). x.present) (b.waiter j (omega arith)) ∙ p.2 })))
      (λ _. refl))

  ended_one : (j : ℕ) → hold_of u s ≡ Opens j → Reaps u j → waits_ended t xs s ≡ 1
  unfolding waits_ended opened pick
  ended_one j o r =
      let l = σ.waits_held j r.waits r.ephemeral in
      let z = r.none_left in
      let e : hold_count u j ≡ 1 = omega arith in
      let f : takes_last t xs s j ≡ true = takes j (held_one t j s (hold_same ∙ o)) e in
      let g : ephemeral_of t j ≡ true = sym (b.ephemeral j) ∙ r.ephemeral in
      let h : (waiter_of t j).present ≡ true = sym (ap (λ (x : Waiter). x.present) (b.waiter j l)) ∙ r.waits in
      rw (hold_same ∙ o, f, g, h)

  -- it takes no last hold where it does not reap, or reaps another mailbox
  takes_kept : (j : ℕ) → hold_of u s ≡ Opens j → (Reaps u j → ⊥) → ephemeral_of t k ≡ true → (waiter_of t k).present ≡ true → takes_last t xs s k ≡ false
  takes_kept j o n f p = ⊎_elim (λ h. absurd (reaps h)) (λ h. h) (either (takes_last t xs s k))
    where
      reaps : takes_last t xs s k ≡ true → ⊥
      reaps h =
          let e = one_left k h in
          let r : Reaps u k = record { none_left = omega arith; ephemeral = b.ephemeral k ∙ f; waits = ap (λ (x : Waiter). x.present) (b.waiter k (omega arith)) ∙ p } in
          ⊎_elim (λ q. n (rw (← q) r)) (λ q. not_both _ h (takes_none k (held_other t k s j (hold_same ∙ o) q))) (same? k j)

  turn_at : 0 < hold_count u k → ephemeral_of t k ≡ true → (waiter_of t k).present ≡ true → Turn t k xs s (waiter_of u k) (released u s)
  turn_at l f p = by (release_ways u s σ)
    where
      by : ReleaseWays u s (released u s) → Turn t k xs s (waiter_of u k) (released u s)
      by (skipped o q) = let n = takes_none k (held_none t k s (hold_same ∙ o)) in nobody_yet (ap (λ (r : Freed). r.woken) q) (ended_none o) n (left l n)
      by (kept j o r _ _ q) = let n = takes_kept j o r f p in nobody_yet q (ended_kept j o r) n (left l n)
      by (woke j o r _ _ q) =
          ⊎_elim
          (λ e. let z = r.none_left in let z' : hold_count u k - 1 ≡ 0 = rw e z in itself (rw e q) (takes k (held_one t k s (rw e (hold_same ∙ o))) (omega arith)))
          (λ ne. let n = takes_none k (held_other t k s j (hold_same ∙ o) ne) in another (waiter_of u j) q (ended_one j o r) n (left l n))
          (same? k j)

-- ---- the list
-- who waits on mailbox k, ephemeral, whose holds the slots take, stands among the woken at its turn
woken_at :
    (t u : Table) (k : ℕ) (xs ss : List Slot) → Sound u → Behind t xs u → ephemeral_of t k ≡ true → (waiter_of t k).present ≡ true → 0 < hold_count u k →
    hold_count u k - held_in t k ss ≡ 0 → get_or (released_all u ss).woken (turn_of t k xs ss) nobody ≡ waiter_of t k
unfolding released_all held_in turn_of pick
woken_at t u k xs [] σ b f p l z = absurd (omega arith)
woken_at t u k xs (s ∷ ss) σ b f p l z =
    by (turn_at t u k xs s σ b l f p) (λ m.
    let h = (one_at u s k σ).holds in
    let e = held_same t u b.steady k s in
    woken_at t (released u s).table k (s ∷ xs) ss (released_kept u s σ) (behind_next t u xs s σ b) f p m (omega arith))
  where
    rest : Freed
    rest = released_all (released u s).table ss

    by :
        Turn t k xs s (waiter_of u k) (released u s) →
        (0 < hold_count (released u s).table k → get_or rest.woken (turn_of t k (s ∷ xs) ss) nobody ≡ waiter_of t k) →
        get_or ((released u s).woken ++ rest.woken) (pick (takes_last t xs s k) 0 (waits_ended t xs s + turn_of t k (s ∷ xs) ss)) nobody ≡ waiter_of t k
    by (nobody_yet q e n m) later = let y : 0 + turn_of t k (s ∷ xs) ss ≡ turn_of t k (s ∷ xs) ss = omega arith in rw (q, e, n, y) (later m)
    by (another v q e n m) later = let y : 1 + turn_of t k (s ∷ xs) ss ≡ suc (turn_of t k (s ∷ xs) ss) = omega arith in rw (q, e, n, y) (later m)
    by (itself q n) later = rw (q, n) (b.waiter k l)

pub release_turn :
    (t : Table) (k : ℕ) (ss : List Slot) → Sound t → ephemeral_of t k ≡ true → (waiter_of t k).present ≡ true → hold_count t k - held_in t k ss ≡ 0 →
    get_or (released_all t ss).woken (turn_of t k [] ss) nobody ≡ waiter_of t k
release_turn t k ss σ f p z = woken_at t t k [] ss σ (behind_none t) f p (σ.waits_held k p f) z
