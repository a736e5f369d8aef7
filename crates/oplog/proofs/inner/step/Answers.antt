-- `oplog::inner::step` meets its contract: each way out of it is a way of the rule. Assumes nothing.
use mathlib.Core.Path.{sym, ◌∙◌}
use Prim.Native.Nat.{◌<◌, ◌^◌}
use lib.ListN.{length}
use native.Mathlib.Omega.{arith}
use Rattle.line.proofs.Room.{lent_within, refused}
use Rattle.oplog.proofs.Steps.{faulty, past_end, took, no_room}
use Rattle.oplog.proofs.inner.step.Goals as goal

pub returns-then-out-at-clause-answer : goal.returns-then-out-at-clause-answer
returns-then-out-at-clause-answer c = (let r = sym c.read_record.ensures ∙ c.in-Ok.is in past_end c.args.log.now c.args.out.now c.args.number c.args.at c.args.t _ _ r c.apply-done.result c.apply-done.ensures c.if-out-at.true).0

pub returns-then-out-at-clause-buffer : goal.returns-then-out-at-clause-buffer
returns-then-out-at-clause-buffer c = (let r = sym c.read_record.ensures ∙ c.in-Ok.is in past_end c.args.log.now c.args.out.now c.args.number c.args.at c.args.t _ _ r c.apply-done.result c.apply-done.ensures c.if-out-at.true).1

pub overflow_add-result : goal.overflow_add-result
overflow_add-result c =
    let buffer-bounded : length c.args.out.now < 2 ^ 64 = omega arith in
    omega (arith, buffer-bounded, lent_within c.args.out.now c.args.at _ c.if-out-at.false c.write_line.ensures.answer _ c.in-Ok-write_line.is)

pub returns-in-Err-clause-answer : goal.returns-in-Err-clause-answer
returns-in-Err-clause-answer c = rw c.from.ensures (faulty c.args.log.now c.args.out.now c.args.number c.args.at c.args.t (sym c.read_record.ensures ∙ c.in-Err.is)).0

pub returns-in-Err-clause-buffer : goal.returns-in-Err-clause-buffer
returns-in-Err-clause-buffer c = (faulty c.args.log.now c.args.out.now c.args.number c.args.at c.args.t (sym c.read_record.ensures ∙ c.in-Err.is)).1

pub returns-in-Ok-write_line-clause-answer : goal.returns-in-Ok-write_line-clause-answer
returns-in-Ok-write_line-clause-answer c = (let r = sym c.read_record.ensures ∙ c.in-Ok.is in took c.args.log.now c.args.out.now c.args.number c.args.at c.args.t _ _ r c.apply-done.result c.apply-done.ensures c.if-out-at.false c.write_line.new.free c.write_line.result c.write_line.ensures.answer c.write_line.ensures.buffer _ c.in-Ok-write_line.is).0

pub returns-in-Ok-write_line-clause-buffer : goal.returns-in-Ok-write_line-clause-buffer
returns-in-Ok-write_line-clause-buffer c = (let r = sym c.read_record.ensures ∙ c.in-Ok.is in took c.args.log.now c.args.out.now c.args.number c.args.at c.args.t _ _ r c.apply-done.result c.apply-done.ensures c.if-out-at.false c.write_line.new.free c.write_line.result c.write_line.ensures.answer c.write_line.ensures.buffer _ c.in-Ok-write_line.is).1

pub returns-in-Err-write_line-clause-answer : goal.returns-in-Err-write_line-clause-answer
returns-in-Err-write_line-clause-answer c = (let r = sym c.read_record.ensures ∙ c.in-Ok.is in no_room c.args.log.now c.args.out.now c.args.number c.args.at c.args.t _ _ r c.apply-done.result c.apply-done.ensures c.if-out-at.false c.write_line.new.free c.write_line.result c.write_line.ensures.answer c.write_line.ensures.buffer (refused c.in-Err-write_line.is)).0

pub returns-in-Err-write_line-clause-buffer : goal.returns-in-Err-write_line-clause-buffer
returns-in-Err-write_line-clause-buffer c = (let r = sym c.read_record.ensures ∙ c.in-Ok.is in no_room c.args.log.now c.args.out.now c.args.number c.args.at c.args.t _ _ r c.apply-done.result c.apply-done.ensures c.if-out-at.false c.write_line.new.free c.write_line.result c.write_line.ensures.answer c.write_line.ensures.buffer (refused c.in-Err-write_line.is)).1
