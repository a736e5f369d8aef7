-- Registering record by record is the rule. Assumes nothing.
use mathlib.Core.Path.{◌≡◌, refl}
use mathlib.Core.List.{List, [], ◌∷◌}
use Rattle.walks.specs.Over.{over}
use Rattle.cap.specs.declared.slot.Slot.{Slot}
use Rattle.ipc_rules.specs.Holds.{registered, registered_all}
use Rattle.ipc_rules.specs.declared.state.Table.{Table}

pub register_same : (t : Table) (xs : List Slot) → over registered t xs ≡ registered_all t xs
unfolding registered_all
register_same t [] = refl
register_same t (x ∷ xs) = register_same (registered t x) xs
