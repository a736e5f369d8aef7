-- What each turn of `release_holds` keeps.
use mathlib.Core.Path.{◌≡◌}
use mathlib.Core.List.{List, ◌++◌}
use Prim.Native.Nat.{ℕ, ◌≤◌}
use lib.ListN.{length, drop}
use Rattle.cap.specs.declared.slot.Slot.{Slot}
use Rattle.ipc_rules.specs.Sound.{Sound}
use Rattle.ipc_rules.specs.Holds.{released_all, four_of}
use Rattle.ipc_rules.specs.declared.state.Waiter.{Waiter}
use Rattle.ipc_rules.specs.declared.state.Table.{Table}
use Rattle.ipc_holds.proofs.inner.release_holds.Given as goal

pub record Releases (t₀ : Table) (xs : List Slot) (n : ℕ) (t : Table) (waiters : List Waiter) (woken : ℕ) : Type 0 where
  pub sound : Sound t
  pub so_far : List Waiter
  pub table : (released_all t (drop n xs)).table ≡ (released_all t₀ xs).table
  pub all : so_far ++ (released_all t (drop n xs)).woken ≡ (released_all t₀ xs).woken
  pub places : waiters ≡ four_of so_far
  pub many : woken ≡ length so_far
  pub few : length so_far ≤ n

abbrev pub invariant-loop-slot : goal.invariant-loop-slot
invariant-loop-slot l = Releases l.initial.t l.fn.slots l.slot-index l.t l.waiters l.woken
