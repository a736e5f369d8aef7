-- Request No. 5: making binds tags to rows, each to one, and no call after it binds another; and what a run from fresh tables reaches passes
-- the test for 27.
use Rattle.std.specs.Prelude.{◌≡◌, ℕ}
use Rattle.dispatcher_rules.specs.Bound.{Bound}
use Rattle.dispatcher_rules.specs.Border.{Ready}
use Rattle.dispatcher_rules.specs.declared.state.Desk.{Desk}
use Rattle.dispatcher_rules.specs.declared.state.Dispatcher.{Dispatcher}
use Rattle.dispatcher_rules.specs.declared.state.Tag.{Tag}
use Rattle.isolation.specs.Jobs.{BoundTo}
use Rattle.isolation.specs.Runs.{JobCall, after, Reached}

-- the bound variants are those of before
pub record SameBindings (w v : Desk) : Type 0 where
  pub count : v.dispatcher.count ≡ w.dispatcher.count
  pub variants : v.dispatcher.variants ≡ w.dispatcher.variants

-- through every call, on every desk
abbrev pub BindingsStay : Type 0
BindingsStay = (w : Desk) (c : JobCall) → SameBindings w (after w c)

-- a tag is bound to one row
abbrev pub BoundOnce : Type 0
BoundOnce = (d : Dispatcher) → Bound d.count d.variants → (tag : Tag) (r q : ℕ) → BoundTo d tag r → BoundTo d tag q → r ≡ q

-- what a run reaches is fit for the calls, so that the border serves it
abbrev pub RunsReady : Type 0
RunsReady = (w : Desk) → Reached w → Ready w.dispatcher w.channels
