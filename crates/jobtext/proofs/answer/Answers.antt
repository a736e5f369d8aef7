-- `jobtext::answer` meets its contract. Assumes nothing.
use native.Mathlib.Omega.{arith}
use Prim.Native.Nat.{◌≤◌}
use lib.ListN.{length}
use Rattle.jobtext.proofs.Runs.{tail_long}
use Rattle.jobtext.proofs.Parts.{misplaced, desk_ready, offset_inside, done_counted, too_long, part_run}
use Rattle.jobtext.proofs.answer.Goals as goal
use Rattle.jobtext.proofs.answer.Goals.{Else-not-offset-script}

within : (c : Else-not-offset-script) → c.args.from.offset ≤ length c.args.script.now
within c = let a = c.args in offset_inside a.script.now a.out.now a.from _ c.ready-ready.ensures.0 c.if-not-offset-script.false

pub returns-then-not-offset-script-clause-answer : goal.returns-then-not-offset-script-clause-answer
returns-then-not-offset-script-clause-answer c = (misplaced c.args.script.now c.args.out.now c.args.from _ c.ready-ready.ensures.0 c.if-not-offset-script.true).0

pub returns-then-not-offset-script-clause-buffer : goal.returns-then-not-offset-script-clause-buffer
returns-then-not-offset-script-clause-buffer c = (misplaced c.args.script.now c.args.out.now c.args.from _ c.ready-ready.ensures.0 c.if-not-offset-script.true).1

pub returns-then-script-gt-MOST-clause-answer : goal.returns-then-script-gt-MOST-clause-answer
returns-then-script-gt-MOST-clause-answer c = (too_long c.args.script.now c.args.out.now c.args.from _ c.ready-ready.ensures.0 c.if-not-offset-script.false c.if-script-gt-MOST.true c.last.ensures.answer c.last.ensures.buffer).0

pub returns-then-script-gt-MOST-clause-buffer : goal.returns-then-script-gt-MOST-clause-buffer
returns-then-script-gt-MOST-clause-buffer c = (too_long c.args.script.now c.args.out.now c.args.from _ c.ready-ready.ensures.0 c.if-not-offset-script.false c.if-script-gt-MOST.true c.last.ensures.answer c.last.ensures.buffer).1

pub slice_bounds-run-count : goal.slice_bounds-run-count
slice_bounds-run-count c = within (goal.at.slice_bounds-run-count c).Else-not-offset-script

pub slice_bounds-run-start : goal.slice_bounds-run-start
slice_bounds-run-start c = omega (arith, within (goal.at.slice_bounds-run-start c).Else-not-offset-script)

pub run-requires : goal.run-requires
run-requires c =
    let r = c.ready-ready.ensures in
    let l = c.if-script-gt-MOST.false in
    let i = (within (goal.at.run-requires c).Else-not-offset-script) in
    let d = done_counted c.args.script.now c.args.out.now c.args.from _ r.0 c.if-not-offset-script.false in
    let t = tail_long c.args.script.now c.args.from.offset in
    (r.1 (desk_ready c.args.script.now c.args.out.now c.args.from _ r.0 c.if-not-offset-script.false), omega arith, omega arith)

pub returns-clause-answer : goal.returns-clause-answer
returns-clause-answer c = (part_run c.args.script.now c.args.out.now c.args.from _ c.ready-ready.ensures.0 c.if-not-offset-script.false c.if-script-gt-MOST.false c.run.ensures.answer c.run.ensures.buffer).0

pub returns-clause-buffer : goal.returns-clause-buffer
returns-clause-buffer c = (part_run c.args.script.now c.args.out.now c.args.from _ c.ready-ready.ensures.0 c.if-not-offset-script.false c.if-script-gt-MOST.false c.run.ensures.answer c.run.ensures.buffer).1
