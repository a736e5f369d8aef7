-- The release call, `release_of`: its four places name exactly those who are woken. Assumes nothing.
use Rattle.std.specs.Prelude.{Ok}
use mathlib.Core.Path.{◌≡◌, refl, ap}
use mathlib.Core.Bool.{true}
use mathlib.Core.List.Memᴰ
use mathlib.Core.List.{List, [], ◌∷◌, Memᴰ}
use mathlib.Core.Logic.{⊎_elim}
use Prim.Native.Nat.{◌≤◌}
use native.Mathlib.Omega.{arith}
use lib.ListN.{length}
use Rattle.laws.proofs.Cases.{not_both}
use Rattle.cap.specs.declared.slot.Slot.{Slot}
use Rattle.ipc_rules.specs.State.{nobody}
use Rattle.ipc_rules.specs.Sound.{Sound}
use Rattle.ipc_rules.specs.Holds.{four_of, released_all, release_of, Freed}
use Rattle.ipc_rules.specs.declared.state.Waiter.{Waiter}
use Rattle.ipc_rules.specs.declared.state.Table.{Table}
use Rattle.ipc_rules.specs.declared.answers.Releasing.{Releasing}
use Rattle.ipc_rules.proofs.AfterReleaseAll.{ReleasedIn, released_in}

-- what the list's release says of the table, and of the four places in the woken's stead
pub record ReleasesFour (t : Table) (xs : List Slot) (r : Releasing) : Type 0 where
  pub freed : Freed
  pub list : ReleasedIn t xs freed
  pub table : r.table ≡ freed.table
  pub named : (w : Waiter) → Memᴰ w freed.woken → Memᴰ w r.waiters
  pub only : (w : Waiter) → w.present ≡ true → Memᴰ w r.waiters → Memᴰ w freed.woken
  pub answer : r.answer ≡ Ok tt

module _ (w : Waiter) where
  four_names : (ws : List Waiter) → length ws ≤ 4 → Memᴰ w ws → Memᴰ w (four_of ws)
  four_names [] h m = absurd (Memᴰ.not-nil m)
  four_names (a ∷ []) h m = Memᴰ.append_left (nobody ∷ nobody ∷ nobody ∷ []) m
  four_names (a ∷ b ∷ []) h m = Memᴰ.append_left (nobody ∷ nobody ∷ []) m
  four_names (a ∷ b ∷ c ∷ []) h m = Memᴰ.append_left (nobody ∷ []) m
  four_names (a ∷ b ∷ c ∷ d ∷ []) h m = m
  four_names (a ∷ b ∷ c ∷ d ∷ e ∷ ws) h m = absurd (omega arith)

  -- an empty place names nobody
  empty_place : (ws : List Waiter) → w.present ≡ true → Memᴰ w (nobody ∷ ws) → Memᴰ w ws
  empty_place ws p m = ⊎_elim (λ e. absurd (not_both _ p (ap (λ (x : Waiter). x.present) e))) (λ r. r) (Memᴰ.cases_cons m)

  only_four : (ws : List Waiter) → length ws ≤ 4 → w.present ≡ true → Memᴰ w (four_of ws) → Memᴰ w ws
  only_four [] h p m = empty_place _ p (empty_place _ p (empty_place _ p (empty_place _ p m)))
  only_four (a ∷ []) h p m = ⊎_elim (λ x. x) (λ y. absurd (Memᴰ.not-nil (empty_place _ p (empty_place _ p (empty_place _ p y))))) (Memᴰ.append_cases (a ∷ []) m)
  only_four (a ∷ b ∷ []) h p m = ⊎_elim (λ x. x) (λ y. absurd (Memᴰ.not-nil (empty_place _ p (empty_place _ p y)))) (Memᴰ.append_cases (a ∷ b ∷ []) m)
  only_four (a ∷ b ∷ c ∷ []) h p m = ⊎_elim (λ x. x) (λ y. absurd (Memᴰ.not-nil (empty_place _ p y))) (Memᴰ.append_cases (a ∷ b ∷ c ∷ []) m)
  only_four (a ∷ b ∷ c ∷ d ∷ []) h p m = m
  only_four (a ∷ b ∷ c ∷ d ∷ e ∷ ws) h p m = absurd (omega arith)

pub releases_four : (t : Table) (xs : List Slot) → Sound t → length xs ≡ 4 → ReleasesFour t xs (release_of t xs)
unfolding release_of
releases_four t xs s four =
    let i = released_in t xs s in
    let f = i.few in
    record {
      freed = released_all t xs;
      list = i;
      table = refl;
      named = λ w. four_names w (released_all t xs).woken (omega arith);
      only = λ w. only_four w (released_all t xs).woken (omega arith);
      answer = refl;
    }
