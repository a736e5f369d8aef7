-- A list that starts past the log's end has four vacant entries, well formed. Assumes nothing.
use mathlib.Core.Path.{◌≡◌, sym}
use mathlib.Core.Bool.{true}
use mathlib.Core.List.{List}
use Prim.Native.Nat.{ℕ, ◌+◌, ◌*◌, ◌<◌, ◌≤◌}
use native.Mathlib.Omega.{arith}
use borrow.Author.Tests.{lt-ltb}
use lib.ListN.{length, get_or-eq_default}
use Rattle.laws.specs.Pick.{pick}
use Rattle.laws.proofs.Every.{at_every}
use Rattle.cap.specs.Slot.{vacant_slot}
use Rattle.logread.specs.Lists.{entry_ok, list_ok, list_slot, presence_at}
use Rattle.logread.proofs.Numbers.{past}

module _ (log : List ℕ) (at : ℕ) (h : length log ≤ at) where
  no_presence : (i : ℕ) → presence_at log at i ≡ 0
  no_presence i = get_or-eq_default log 0 (omega arith)

  entry_past : (i : ℕ) → entry_ok log at i ≡ true
  unfolding entry_ok
  entry_past i = rw (no_presence i, past log 4 (at + 5 * i + 1) (omega arith))

  pub list_past : true ≡ list_ok log at
  unfolding list_ok
  list_past = sym (at_every (entry_ok log at) 4 (λ i l. entry_past i))

  pub slot_past : (i : ℕ) → i < 4 → vacant_slot ≡ list_slot log at i
  unfolding list_slot pick
  slot_past i l = rw (lt-ltb i 4 l, no_presence i)
