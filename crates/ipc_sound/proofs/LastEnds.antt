-- The last end of each mailbox: how a pass over the endpoints finds it, and what it says where every end is the last. Assumes nothing.
use Rattle.std.specs.Prelude.{None, Option, Some}
use Rattle.std.proofs.lemmas.Option.{none-some, same_Some}
use mathlib.Core.Path.{◌≡◌, refl, sym, ◌∙◌, ap}
use mathlib.Core.Bool.{true, false, ◌&&◌}
use mathlib.Core.Logic.{⊎_elim}
use mathlib.Core.List.{List}
use Prim.Native.Nat.{ℕ, zero, suc, ◌+◌, ◌≤◌, ◌<◌}
use native.Mathlib.Nat.{not-suc-le-zero, le_of_suc-le-suc, eq-or-lt_of_le}
use native.Mathlib.Numerals.{add-one}
use native.Mathlib.Omega.{arith}
use borrow.Author.Tests.{eqb-true, eq-eqb, lt-ltb}
use lib.Dec.{eqb, ltb}
use lib.ListN.{get_or, set, length, replicate, get_or-replicate}
use lib.Seq.{get_or-set_same, get_or-set_other}
use Rattle.laws.specs.Pick.{pick}
use Rattle.laws.proofs.Cases.{all_pick, not_both}
use Rattle.laws.proofs.Every.{and_left, and_right, and_both}
use Rattle.cap.specs.declared.CapRights.{CapRights}
use Rattle.laws.proofs.Bools.{and_three}
use Rattle.ipc_rules.specs.State.{end_in}
use Rattle.ipc_rules.specs.Sound.{IsEnd}
use Rattle.ipc_sound.specs.SoundTest.{is_end, last_end, Remembers, IsPlace}
use Rattle.ipc_rules.specs.declared.state.Endpoint.{Endpoint}

-- ---- the pass
module _ {A : Type 0} (at : List A) (e : Endpoint) (w : CapRights) (i d : A) where
  -- an end of a mailbox is noted at its place, and nothing else changes
  pub noted_end : 32 ≤ length at → (e.live && eqb e.rights.bits w.bits && ltb e.mailbox 32) ≡ true → (k : ℕ) → k < 32 →
      get_or (set at e.mailbox i) k d ≡ pick (is_end e w k) i (get_or at k d)
  noted_end long h k l =
      all_pick (λ x. get_or (set at e.mailbox i) k d ≡ x) (is_end e w k) i (get_or at k d)
      (λ y.
      let q : e.mailbox ≡ k = eqb-true e.mailbox k (and_right (e.live && eqb e.rights.bits w.bits) (eqb e.mailbox k) y) in
      rw q (get_or-set_same at k i d (omega arith)))
      (λ n.
      get_or-set_other at e.mailbox k i d (λ q.
      not_both _ (and_both (e.live && eqb e.rights.bits w.bits) (eqb e.mailbox k)
      (and_left (e.live && eqb e.rights.bits w.bits) (ltb e.mailbox 32) h) (eq-eqb e.mailbox k (sym q))) n))

  pub noted_none : (e.live && eqb e.rights.bits w.bits && ltb e.mailbox 32) ≡ false → (k : ℕ) → k < 32 →
      get_or at k d ≡ pick (is_end e w k) i (get_or at k d)
  noted_none h k l =
      all_pick (λ x. get_or at k d ≡ x) (is_end e w k) i (get_or at k d)
      (λ y.
      let q : e.mailbox ≡ k = eqb-true e.mailbox k (and_right (e.live && eqb e.rights.bits w.bits) (eqb e.mailbox k) y) in
      absurd (not_both _ (and_both (e.live && eqb e.rights.bits w.bits) (ltb e.mailbox 32)
      (and_left (e.live && eqb e.rights.bits w.bits) (eqb e.mailbox k) y) (lt-ltb e.mailbox 32 (omega arith))) h))
      (λ n. refl)

-- before the pass, a turn of it, and its end
pub remembers_none : (es : List Endpoint) (w : CapRights) → Remembers es w 0 (replicate 32 None)
unfolding last_end
remembers_none es w = record { last = λ k l. get_or-replicate 32 k None None l }

pub remembers_more : (es : List Endpoint) (w : CapRights) (n : ℕ) (at after : List (Option ℕ)) → Remembers es w n at →
    ((k : ℕ) → k < 32 → get_or after k None ≡ pick (is_end (end_in es n) w k) (Some n) (get_or at k None)) → Remembers es w (n + 1) after
unfolding last_end
remembers_more es w n at after r h = record { last = λ k l. h k l ∙ rw (add-one, r.last k l) }

-- ---- what it says
pub is_end_lem : (es : List Endpoint) (w : CapRights) (k i : ℕ) → is_end (end_in es i) w k ≡ true → IsEnd es w k i
is_end_lem es w k i h =
    let e = end_in es i in
    let p = and_three e.live (eqb e.rights.bits w.bits) (eqb e.mailbox k) h in
    record { live = p.0; rights = λ j. record { bits = eqb-true e.rights.bits w.bits p.1 j }; names = eqb-true e.mailbox k p.2 }

pub end_is : (es : List Endpoint) (w : CapRights) (k i : ℕ) → IsEnd es w k i → is_end (end_in es i) w k ≡ true
end_is es w k i h = simp (h.live, eq-eqb _ _ (ap (λ (r : CapRights). r.bits) h.rights), eq-eqb _ _ h.names)

-- what is found below n is there and an end, and nothing is found only where there is none
pub record IsLast (es : List Endpoint) (w : CapRights) (k n : ℕ) (o : Option ℕ) : Type 0 where
  pub below : (v : ℕ) → o ≡ Some v → v < n
  pub end : (v : ℕ) → o ≡ Some v → IsEnd es w k v
  pub any : (i : ℕ) → i < n → IsEnd es w k i → o ≡ None → ⊥

pub last_of : (es : List Endpoint) (w : CapRights) (k n : ℕ) → IsLast es w k n (last_end es w k n)
unfolding last_end
last_of es w k zero = record { below = λ v e. absurd (none-some v e); end = λ v e. absurd (none-some v e); any = λ i h _ _. not-suc-le-zero h }
last_of es w k (suc n) =
    let before = last_of es w k n in
    all_pick (IsLast es w k (suc n)) (is_end (end_in es n) w k) (Some n) (last_end es w k n)
    (λ y.
    record {
      below = λ v e. let q = same_Some n v e in omega arith;
      end = λ v e. rw (same_Some n v e) at (is_end_lem es w k n y);
      any = λ i _ _ e. none-some n (sym e);
    })
    (λ no.
    record {
      below = λ v e. let l = before.below v e in omega arith;
      end = before.end;
      any = λ i h e.
          ⊎_elim (λ q. absurd (not_both _ (end_is es w k n (rw q at e)) no)) (λ lt. before.any i lt e)
          (eq-or-lt_of_le (le_of_suc-le-suc h));
    })

-- what is remembered after the pass is one of the 64
pub remembered : (es : List Endpoint) (w : CapRights) (at : List (Option ℕ)) → Remembers es w 64 at → (k : ℕ) → k < 32 → IsPlace (get_or at k None)
remembered es w at r k l = rw (r.last k l) (by (last_end es w k 64) (last_of es w k 64).below)
  where
    by : (o : Option ℕ) → ((v : ℕ) → o ≡ Some v → v < 64) → IsPlace o
    by None h = tt
    by (Some v) h = h v refl
