-- `taskcap::revoke_task` meets its contract: after the last turn all entries are swept. Assumes nothing.
use Rattle.std.proofs.Common.{rules, sym, ◌∙◌, arith, ◌≡◌, length}
use Rattle.std.proofs.lemmas.List.{set-get_or}
use Rattle.laws.proofs.Sweep.{swept_none, swept_yes, swept_no, swept_few, swept_all}
use Rattle.mint.specs.Entry.{after_end}
use Rattle.taskcap.specs.Table.{revoke_of}
use Rattle.taskcap.proofs.revoke_task.Goals as goal
use Rattle.taskcap.proofs.revoke_task.Goals.{then-is_of, else-is_of}

pub loop-e-init : goal.loop-e-init
loop-e-init c = swept_none _ _ _ _

pub overflow_add-count : goal.overflow_add-count
overflow_add-count c = omega (arith, swept_few _ _ _ _ c.loop-e.invariant)

pub loop-e-preserved : goal.loop-e-preserved
loop-e-preserved c =
    elim c.if-is_of.branch [
      | then-is_of w ↦ swept_yes _ _ _ _ _ c.loop-e.invariant (sym c.is_of.ensures ∙ w.if-is_of.true) (rw (w.e-items-is, w.ended.ensures)) (omega arith)
      | else-is_of w ↦ swept_no _ _ _ _ _ c.loop-e.invariant (sym c.is_of.ensures ∙ w.if-is_of.false) (w.e-items-is ∙ set-get_or _ _ _) (omega arith)
    ]

pub returns : goal.returns
unfolding revoke_of after_end
returns c =
    let e : c.loop-e.e-index ≡ 32 = omega arith in
    let whole : length c.args.t.entries ≡ 32 = search rules in
    let s = rw e at c.loop-e.invariant in
    rw (← s.counts, ← swept_all _ _ _ _ 32 (omega (arith, whole)) s)
