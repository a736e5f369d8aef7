-- `ipc_rules::showing::four_shown` meets its contract. Assumes nothing.
use Rattle.shown.proofs.Appends.{four_pushed}
use Rattle.ipc_rules.proofs.Few.{waiters_few}
use Rattle.ipc_rules.proofs.showing.four_shown.Goals as goal

pub returns : goal.returns
returns c = four_pushed c.new.ensures _ _ _ _ (waiters_few c.args.ws) c.push_waiter-a.ensures c.push_waiter-b.ensures c.push_waiter-c.ensures c.push_waiter.ensures
