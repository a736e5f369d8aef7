-- A loop that registers the slots of a list one after the other. Its invariant: the table is sound, and registering what is left of the list
-- in it gives what registering the whole list gives. Assumes nothing.
use mathlib.Core.Path.{◌≡◌, refl}
use mathlib.Core.List.{List}
use Prim.Native.Nat.{ℕ, ◌+◌, ◌≤◌, ◌<◌}
use native.Mathlib.Numerals.{add-one}
use lib.ListN.{length, get_or, drop, drop_of_length-le}
use lib.Seq.{drop-cons}
use Rattle.cap.specs.Slot.{vacant_slot}
use Rattle.cap.specs.declared.slot.Slot.{Slot}
use Rattle.ipc_rules.specs.Sound.{Sound}
use Rattle.ipc_rules.specs.Holds.{registered, registered_all}
use Rattle.ipc_rules.specs.declared.state.Table.{Table}
use Rattle.ipc_rules.proofs.KeepsCalls.{registered_kept}

pub record Registers (t₀ : Table) (xs : List Slot) (n : ℕ) (t : Table) : Type 0 where
  pub sound : Sound t
  pub same : registered_all t (drop n xs) ≡ registered_all t₀ xs

pub none_yet : (t : Table) (xs : List Slot) → Sound t → Registers t xs 0 t
none_yet t xs s = record { sound = s; same = refl }

pub turn : (t₀ : Table) (xs : List Slot) (n : ℕ) (t t' : Table) (x : Slot) → n < length xs → x ≡ get_or xs n vacant_slot → t' ≡ registered t x → Registers t₀ xs n t → Registers t₀ xs (n + 1) t'
unfolding registered_all
turn t₀ xs n t t' x l e h r =
    record {
      sound = rw h (registered_kept t x r.sound);
      same = rw (h, e, add-one n) (rw (drop-cons xs n vacant_slot l) at r.same);
    }

pub done : (t₀ : Table) (xs : List Slot) (n : ℕ) (t : Table) → length xs ≤ n → Registers t₀ xs n t → t ≡ registered_all t₀ xs
unfolding registered_all
done t₀ xs n t l r = rw (drop_of_length-le xs l) at r.same
