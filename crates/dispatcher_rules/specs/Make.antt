-- Request No. 5, making: a dispatcher with its variants bound and no place open.
use Rattle.std.specs.Prelude.{ℕ, List, replicate, Err, Ok}
use Rattle.laws.specs.Pick.{pick}
use Rattle.dispatcher_rules.specs.State.{no_variant, fresh_dispatcher}
use Rattle.dispatcher_rules.specs.Bound.{bound_test}
use Rattle.dispatcher_rules.specs.declared.state.Variant.{Variant}
use Rattle.dispatcher_rules.specs.declared.answers.Making.{Making}
use Rattle.dispatcher_rules.specs.declared.answers.MakeError.TheVariants.{BadVariants}

-- more than 16, equal tags or a row from 54 up: 37, and with it a dispatcher with nothing bound
unfoldable pub make_of : ℕ → List Variant → Making
make_of n vs =
    pick (bound_test n vs)
    (record { answer = Ok tt; dispatcher = fresh_dispatcher n vs })
    (record { answer = Err BadVariants; dispatcher = fresh_dispatcher 0 (replicate 16 no_variant) })
