-- `line::text::fields` meets its contract: each turn puts one value more after what stands before it. Assumes nothing.
use native.Mathlib.Omega.{arith}
use Rattle.line.proofs.Pieces.{field, no_fields}
use Rattle.line.proofs.text.fields.Goals as goal

pub loop-value-init : goal.loop-value-init
loop-value-init c = record { within = omega arith; text = no_fields c.args.out.now c.args.values.now c.args.at }

pub loop-value-preserved : goal.loop-value-preserved
loop-value-preserved c = record {
  within = omega arith;
  text =
      field c.loop-value.out c.spaced-end.new.out c.args.out.now c.args.values.now c.args.at c.loop-value.end c.spaced-end.result
      c.loop-value.value-index c.loop-value-test.true c.loop-value.invariant.text c.spaced-end.ensures.text;
}
