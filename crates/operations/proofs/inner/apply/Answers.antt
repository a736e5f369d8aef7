-- `operations::inner::apply` meets its contract. Assumes nothing.
use mathlib.Core.Path.{◌≡◌, ap, ◌∙◌, sym}
use mathlib.Core.List.{List}
use Prim.Native.Nat.{ℕ, ◌≤◌}
use lib.ListN.{get_or-eq_default}
use Rattle.operations.specs.Apply.{apply_of, all_done, unknown_done}
use Rattle.operations.specs.Done.{packed}
use Rattle.operations.specs.declared.Tables.{Tables}
use Rattle.operations.specs.declared.Outcome.{Outcome}
use Rattle.operations.proofs.Matches.{past}
use Rattle.operations.proofs.inner.apply.Goals as goal

no_operation : (op : ℕ) (log : List ℕ) (t : Tables) {r : Outcome} → 28 ≤ op → r ≡ packed (unknown_done t) → r ≡ packed (apply_of op log t)
unfolding apply_of
no_operation op log t h e = e ∙ ap packed (sym (get_or-eq_default (all_done log t) (unknown_done t) h))

pub returns-in-0 : goal.returns-in-0
unfolding apply_of
returns-in-0 c = rw c.in-0.is c.op_new.ensures

pub returns-in-1 : goal.returns-in-1
unfolding apply_of
returns-in-1 c = rw c.in-1.is c.op_create.ensures

pub returns-in-2 : goal.returns-in-2
unfolding apply_of
returns-in-2 c = rw c.in-2.is c.op_send.ensures

pub returns-in-3 : goal.returns-in-3
unfolding apply_of
returns-in-3 c = rw c.in-3.is c.op_receive.ensures

pub returns-in-4 : goal.returns-in-4
unfolding apply_of
returns-in-4 c = rw c.in-4.is c.op_park.ensures

pub returns-in-5 : goal.returns-in-5
unfolding apply_of
returns-in-5 c = rw c.in-5.is c.op_queued.ensures

pub returns-in-6 : goal.returns-in-6
unfolding apply_of
returns-in-6 c = rw c.in-6.is c.op_revoke.ensures

pub returns-in-7 : goal.returns-in-7
unfolding apply_of
returns-in-7 c = rw c.in-7.is c.op_register.ensures

pub returns-in-8 : goal.returns-in-8
unfolding apply_of
returns-in-8 c = rw c.in-8.is c.op_release.ensures

pub returns-in-9 : goal.returns-in-9
unfolding apply_of
returns-in-9 c = rw c.in-9.is c.op_holders.ensures

pub returns-in-10 : goal.returns-in-10
unfolding apply_of
returns-in-10 c = rw c.in-10.is c.op_clear_waiter.ensures

pub returns-in-11 : goal.returns-in-11
unfolding apply_of
returns-in-11 c = rw c.in-11.is c.op_note_authority.ensures

pub returns-in-12 : goal.returns-in-12
unfolding apply_of
returns-in-12 c = rw c.in-12.is c.op_note_state.ensures

pub returns-in-13 : goal.returns-in-13
unfolding apply_of
returns-in-13 c = rw c.in-13.is c.op_get.ensures

pub returns-in-14 : goal.returns-in-14
unfolding apply_of
returns-in-14 c = rw c.in-14.is c.op_holds.ensures

pub returns-in-15 : goal.returns-in-15
unfolding apply_of
returns-in-15 c = rw c.in-15.is c.op_seed.ensures

pub returns-in-16 : goal.returns-in-16
unfolding apply_of
returns-in-16 c = rw c.in-16.is c.op_install.ensures

pub returns-in-17 : goal.returns-in-17
unfolding apply_of
returns-in-17 c = rw c.in-17.is c.op_transfer.ensures

pub returns-in-18 : goal.returns-in-18
unfolding apply_of
returns-in-18 c = rw c.in-18.is c.op_drain.ensures

pub returns-in-19 : goal.returns-in-19
unfolding apply_of
returns-in-19 c = rw c.in-19.is c.op_task_mint.ensures

pub returns-in-20 : goal.returns-in-20
unfolding apply_of
returns-in-20 c = rw c.in-20.is c.op_task_lookup.ensures

pub returns-in-21 : goal.returns-in-21
unfolding apply_of
returns-in-21 c = rw c.in-21.is c.op_task_end.ensures

pub returns-in-22 : goal.returns-in-22
unfolding apply_of
returns-in-22 c = rw c.in-22.is c.op_irq_mint.ensures

pub returns-in-23 : goal.returns-in-23
unfolding apply_of
returns-in-23 c = rw c.in-23.is c.op_irq_lookup.ensures

pub returns-in-24 : goal.returns-in-24
unfolding apply_of
returns-in-24 c = rw c.in-24.is c.op_spawn.ensures

pub returns-in-25 : goal.returns-in-25
unfolding apply_of
returns-in-25 c = rw c.in-25.is c.op_leave.ensures

pub returns-in-26 : goal.returns-in-26
unfolding apply_of
returns-in-26 c = rw c.in-26.is c.op_give.ensures

pub returns-in-27 : goal.returns-in-27
unfolding apply_of
returns-in-27 c = rw c.in-27.is c.op_counts.ensures

pub returns-in_default : goal.returns-in_default
returns-in_default c = no_operation _ _ _ (past _ 28 c.in_default.in_default-own.rest) c.unknown.ensures
