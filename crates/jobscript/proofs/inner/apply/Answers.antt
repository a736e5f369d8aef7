-- `jobscript::inner::apply` meets its contract. Assumes nothing.
use mathlib.Core.Path.{◌≡◌, ap, ◌∙◌, sym}
use mathlib.Core.List.{List}
use Prim.Native.Nat.{ℕ, ◌≤◌}
use native.Mathlib.Omega.{arith}
use lib.ListN.{get_or-eq_default}
use Rattle.dispatcher_rules.specs.declared.state.Desk.{Desk}
use Rattle.jobscript.specs.Done.{packed}
use Rattle.jobscript.specs.Operations.{unknown_done, all_done, apply_of}
use Rattle.jobscript.specs.declared.Outcome.{Outcome}
use Rattle.jobscript.proofs.inner.apply.Goals as goal

no_operation : (op : ℕ) (script : List ℕ) (d : Desk) {r : Outcome} → 8 ≤ op → r ≡ packed (unknown_done d) → r ≡ packed (apply_of op script d)
unfolding apply_of
no_operation op script d h e = e ∙ ap packed (sym (get_or-eq_default (all_done script d) (unknown_done d) h))

pub returns-in_default : goal.returns-in_default
returns-in_default c = let past : 8 ≤ c.args.op = omega arith in no_operation _ _ _ past c.unknown.ensures
