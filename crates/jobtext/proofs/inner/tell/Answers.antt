-- `jobtext::inner::tell` meets its contract. Assumes nothing.
use mathlib.Core.Path.{sym, ◌∙◌}
use Prim.Native.Nat.{◌<◌, ◌^◌}
use native.Mathlib.Omega.{arith}
use lib.ListN.{length}
use Rattle.line.proofs.Room.{lent_within, refused}
use Rattle.jobtext.proofs.Tells.{fault_told, line_told, crowded_told}
use Rattle.jobtext.proofs.inner.tell.Goals as goal

pub step-s-requires : goal.step-s-requires
step-s-requires c = c.requires.0

pub returns-then-number-ne-NONE-clause-answer : goal.returns-then-number-ne-NONE-clause-answer
returns-then-number-ne-NONE-clause-answer c = (fault_told _ c.args.number _ _ _ c.requires.1 _ c.step-s.ensures (λ z. c.if-number-ne-NONE.true (c.number.ensures ∙ z))).0

pub returns-then-number-ne-NONE-clause-buffer : goal.returns-then-number-ne-NONE-clause-buffer
returns-then-number-ne-NONE-clause-buffer c = (fault_told _ c.args.number _ _ _ c.requires.1 _ c.step-s.ensures (λ z. c.if-number-ne-NONE.true (c.number.ensures ∙ z))).1

pub overflow_add-result : goal.overflow_add-result
overflow_add-result c =
    let buffer-bounded : length c.args.out.now < 2 ^ 64 = omega arith in
    omega (arith, buffer-bounded, lent_within c.args.out.now c.args.at _ c.requires.1 c.write_line.ensures.answer _ c.in-Ok.is)

pub returns-in-Ok-clause-answer : goal.returns-in-Ok-clause-answer
returns-in-Ok-clause-answer c = (line_told _ _ _ _ _ c.requires.1 _ c.step-s.ensures (sym c.number.ensures ∙ c.if-number-ne-NONE.false) _ _ c.write_line.ensures.answer c.write_line.ensures.buffer _ c.in-Ok.is).0

pub returns-in-Ok-clause-buffer : goal.returns-in-Ok-clause-buffer
returns-in-Ok-clause-buffer c = (line_told _ _ _ _ _ c.requires.1 _ c.step-s.ensures (sym c.number.ensures ∙ c.if-number-ne-NONE.false) _ _ c.write_line.ensures.answer c.write_line.ensures.buffer _ c.in-Ok.is).1

pub returns-in-Err-clause-answer : goal.returns-in-Err-clause-answer
returns-in-Err-clause-answer c = (crowded_told _ _ _ _ _ c.requires.1 _ c.step-s.ensures (sym c.number.ensures ∙ c.if-number-ne-NONE.false) _ _ c.write_line.ensures.answer c.write_line.ensures.buffer (refused c.in-Err.is)).0

pub returns-in-Err-clause-buffer : goal.returns-in-Err-clause-buffer
returns-in-Err-clause-buffer c = (crowded_told _ _ _ _ _ c.requires.1 _ c.step-s.ensures (sym c.number.ensures ∙ c.if-number-ne-NONE.false) _ _ c.write_line.ensures.answer c.write_line.ensures.buffer (refused c.in-Err.is)).1
