-- `oplog::inner::run` meets its contract. The loop's invariant: the channel table is sound, and a run over what is left of the log ends as
-- the whole run does. Assumes nothing.
use mathlib.Core.Path.{◌≡◌, refl, sym, ◌∙◌}
use Prim.Native.Nat.{suc, ◌+◌, ◌-◌, ◌≤◌, ◌<◌}
use native.Mathlib.Omega.{arith}
use lib.ListN.{length}
use borrow.Author.Rules.{rules}
use Rattle.oplog.proofs.Runs.{last, stops, within, goes, still_sound, tail_long}
use Rattle.oplog.proofs.inner.run.Goals as goal
use Rattle.oplog.proofs.inner.run.Goals.{Else-number-ne0}

-- a step that was not refused used its record
inside : (c : Else-number-ne0) → (3 ≤ c.step-s.result.used) × (c.step-s.result.used ≤ length c.loop-rest.rest.now)
inside c = let p = c.loop-rest.invariant.0 in let q = c.loop-rest.invariant.1 in let l : 0 < length c.loop-rest.rest.now = c.loop-rest-test.true in let m : c.args.before + length c.args.log.now - c.loop-rest.done ≡ suc (c.args.before + length c.args.log.now - (c.loop-rest.done + 1)) = omega arith in within (length c.args.log.now) c.loop-rest.rest.now c.loop-rest.done c.loop-rest.out c.loop-rest.at c.loop-rest.t _ _ _ m l c.loop-rest.invariant.4 c.step-s.result c.step-s.new.out c.step-s.ensures.answer c.step-s.ensures.buffer (sym c.number.ensures ∙ c.if-number-ne0.false)

pub loop-rest-init : goal.loop-rest-init
loop-rest-init c = let f : c.args.before + length c.args.log.now - c.args.before ≡ length c.args.log.now = omega arith in
    (omega arith, omega arith, refl, c.requires.0, rw f)

pub overflow_add-done : goal.overflow_add-done
overflow_add-done c = omega (arith, c.requires.1)

pub step-s-requires : goal.step-s-requires
step-s-requires c = c.loop-rest.invariant.3

pub returns-then-number-ne0-clause-answer : goal.returns-then-number-ne0-clause-answer
returns-then-number-ne0-clause-answer c = (let p = c.loop-rest.invariant.0 in let q = c.loop-rest.invariant.1 in let l : 0 < length c.loop-rest.rest.now = c.loop-rest-test.true in let m : c.args.before + length c.args.log.now - c.loop-rest.done ≡ suc (c.args.before + length c.args.log.now - (c.loop-rest.done + 1)) = omega arith in stops (length c.args.log.now) c.loop-rest.rest.now c.loop-rest.done c.loop-rest.out c.loop-rest.at c.loop-rest.t _ _ _ m l c.loop-rest.invariant.4 c.step-s.result c.step-s.new.out c.step-s.ensures.answer c.step-s.ensures.buffer (λ z. c.if-number-ne0.true (c.number.ensures ∙ z))).0

pub returns-then-number-ne0-clause-buffer : goal.returns-then-number-ne0-clause-buffer
returns-then-number-ne0-clause-buffer c = (let p = c.loop-rest.invariant.0 in let q = c.loop-rest.invariant.1 in let l : 0 < length c.loop-rest.rest.now = c.loop-rest-test.true in let m : c.args.before + length c.args.log.now - c.loop-rest.done ≡ suc (c.args.before + length c.args.log.now - (c.loop-rest.done + 1)) = omega arith in stops (length c.args.log.now) c.loop-rest.rest.now c.loop-rest.done c.loop-rest.out c.loop-rest.at c.loop-rest.t _ _ _ m l c.loop-rest.invariant.4 c.step-s.result c.step-s.new.out c.step-s.ensures.answer c.step-s.ensures.buffer (λ z. c.if-number-ne0.true (c.number.ensures ∙ z))).1

pub slice_bounds-rest-count : goal.slice_bounds-rest-count
slice_bounds-rest-count c = omega (arith, inside (goal.at.slice_bounds-rest-count c).Else-number-ne0)

pub slice_bounds-rest-start : goal.slice_bounds-rest-start
slice_bounds-rest-start c = omega (arith, inside (goal.at.slice_bounds-rest-start c).Else-number-ne0)

pub overflow_add-done-in-loop-rest : goal.overflow_add-done-in-loop-rest
overflow_add-done-in-loop-rest c = omega (arith, c.requires.1, c.loop-rest-test.true)

pub loop-rest-smaller : goal.loop-rest-smaller
loop-rest-smaller c =
    omega (arith, inside (goal.at.loop-rest-smaller c).Else-number-ne0, tail_long c.loop-rest.rest.now c.step-s.result.used)

pub loop-rest-preserved : goal.loop-rest-preserved
loop-rest-preserved c =
    let p = c.loop-rest.invariant.0 in
    let q = c.loop-rest.invariant.1 in
    let l : 0 < length c.loop-rest.rest.now = c.loop-rest-test.true in
    let m : c.args.before + length c.args.log.now - c.loop-rest.done ≡ suc (c.args.before + length c.args.log.now - (c.loop-rest.done + 1)) = omega arith in
    let n = sym c.number.ensures ∙ c.if-number-ne0.false in
    let i = (inside (goal.at.loop-rest-preserved c).Else-number-ne0) in
    let e = tail_long c.loop-rest.rest.now c.step-s.result.used in
    (omega arith, omega arith, search rules, still_sound (length c.args.log.now) c.loop-rest.rest.now c.loop-rest.done c.loop-rest.out c.loop-rest.at c.loop-rest.t _ _ _ m l c.loop-rest.invariant.4 c.step-s.result c.step-s.new.out c.step-s.ensures.answer c.step-s.ensures.buffer c.loop-rest.invariant.3, goes (length c.args.log.now) c.loop-rest.rest.now c.loop-rest.done c.loop-rest.out c.loop-rest.at c.loop-rest.t _ _ _ m l c.loop-rest.invariant.4 c.step-s.result c.step-s.new.out c.step-s.ensures.answer c.step-s.ensures.buffer n)

pub returns-clause-answer : goal.returns-clause-answer
returns-clause-answer c = (last (length c.args.log.now) c.loop-rest.rest.now c.loop-rest.done c.loop-rest.out c.loop-rest.at c.loop-rest.t _ _ c.loop-rest-test.false c.loop-rest.invariant.4).0

pub returns-clause-buffer : goal.returns-clause-buffer
returns-clause-buffer c = (last (length c.args.log.now) c.loop-rest.rest.now c.loop-rest.done c.loop-rest.out c.loop-rest.at c.loop-rest.t _ _ c.loop-rest-test.false c.loop-rest.invariant.4).1
