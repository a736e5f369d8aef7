-- The other openings by the one: either right is send or else receive, a hold is by send, and a revocation's is either right, since an
-- endpoint of a sound table has one of the two. So where ids open what they opened, these do too. Assumes nothing.
use mathlib.Core.Path.{◌≡◌, refl, sym, ap, ◌∙◌}
use mathlib.Core.Bool.{Bool, true, false, ◌||◌}
use mathlib.Core.Logic.{⊎_elim}
use Prim.Native.Nat.{ℕ}
use lib.Dec.{eqb}
use Rattle.laws.specs.Pick.{pick}
use Rattle.cap.specs.Id.{index_of, generation_of}
use Rattle.cap.specs.Rights.{contains_all, send_right, receive_right}
use Rattle.cap.specs.declared.CapId.{CapId}
use Rattle.cap.specs.declared.CapRights.{CapRights}
use Rattle.cap.specs.declared.slot.Slot.{Slot}
use Rattle.ipc_rules.specs.State.{endpoint_at}
use Rattle.ipc_rules.specs.Sound.{Sound}
use Rattle.ipc_rules.specs.Opening.{attempt_of, open_either, open_any, in_reach, opening_of, either_of, any_right_of, hold_of}
use Rattle.ipc_rules.specs.Views.{Steady}
use Rattle.ipc_rules.specs.declared.state.Table.{Table}
use Rattle.ipc_rules.specs.declared.opening.Opening.TheVariants.{Shut}
use Rattle.ipc_rules.proofs.Openings.{tested, either_is}

pub hold_is : (t : Table) (x : Slot) → hold_of t x ≡ pick x.present (opening_of t x.id send_right) Shut
unfolding hold_of
hold_is t x = refl

-- a revocation asks for no right, and a live endpoint has one of the two
any_tested : (b l g r : Bool) (m : ℕ) → (l ≡ true → r ≡ true) → tested b l g true m ≡ tested b l g r m
unfolding pick
any_tested b true g r m h = rw (h refl) refl
any_tested b false g r m h = refl

pub any_is : (t : Table) (c : CapId) → Sound t → any_right_of t c ≡ either_of t c
unfolding any_right_of either_of open_any open_either attempt_of
any_is t c s =
    let e = endpoint_at t (index_of c) in
    any_tested (in_reach t (index_of c)) e.live (eqb e.generation (generation_of c)) (contains_all e.rights send_right || contains_all e.rights receive_right) e.mailbox
    (λ l. ⊎_elim (λ w. ap has w) (λ w. ap has w) (s.names (index_of c) l).rights)
  where
    has : CapRights → Bool
    has x = contains_all x send_right || contains_all x receive_right

-- ---- where each id opens what it opened
module _ (t u : Table) (a : Steady t u) where
  pub either_steady : (c : CapId) → either_of u c ≡ either_of t c
  either_steady c = rw (either_is, either_is, a.opening c send_right, a.opening c receive_right)

  pub any_steady : (c : CapId) → Sound t → Sound u → any_right_of u c ≡ any_right_of t c
  any_steady c s v = any_is u c v ∙ either_steady c ∙ sym (any_is t c s)

  pub hold_steady : (x : Slot) → hold_of u x ≡ hold_of t x
  hold_steady x = rw (hold_is, hold_is, a.opening x.id send_right)
