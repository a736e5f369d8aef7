-- `ipc_life::inner::creation::create` meets its contract. The three searches found what the rule looks for. Assumes nothing.
use mathlib.Core.Path.{refl}
use Rattle.laws.proofs.Cases.{cases, at}
use Rattle.ipc_rules.specs.Create.{create_of}
use Rattle.ipc_life.proofs.inner.creation.create.Goals as goal

pub returns-in_default : goal.returns-in_default
unfolding create_of
returns-in_default c = search cases

pub returns-in_default-free_endpoint : goal.returns-in_default-free_endpoint
unfolding create_of
returns-in_default-free_endpoint c = search cases

pub returns-in_default-free_endpoint-2 : goal.returns-in_default-free_endpoint-2
unfolding create_of
returns-in_default-free_endpoint-2 c = search cases

pub returns : goal.returns
unfolding create_of
returns c = rw (c.new_mailbox.ensures, c.new_endpoint.ensures, c.new_endpoint-2.ensures, c.next_generation-t.ensures, c.new.ensures, c.new-2.ensures) (at _ _ _ c.free_mailbox.ensures c.in-Some.is (at _ _ _ c.free_endpoint.ensures c.in-Some-free_endpoint.is (at _ _ _ c.free_endpoint-2.ensures c.in-Some-free_endpoint-2.is refl)))
