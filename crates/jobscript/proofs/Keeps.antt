-- Each operation leaves a desk that is ready for the next, and so is the desk that a script starts with. Assumes nothing.
use mathlib.Core.Path.{refl}
use mathlib.Core.List.{List}
use Prim.Native.Nat.{ℕ}
use Rattle.laws.specs.Every.{every}
use Rattle.laws.proofs.Cases.{all_pick}
use Rattle.ipc_rules.proofs.Fresh.{in_range_of, fresh_sound}
use Rattle.dispatcher_rules.specs.Bound.{bound_test}
use Rattle.dispatcher_rules.specs.declared.state.Desk.{Desk}
use Rattle.dispatcher_rules.proofs.Binds.{bound_of}
use Rattle.dispatcher_rules.proofs.Calls as calls
use Rattle.jobscript.specs.Done.{Done, ReadyDesk}
use Rattle.jobscript.specs.Operations.{start_desk, new_done, open_done, close_done, send_done, receive_done, park_done, row_done, counts_done}

pub start_ready : ReadyDesk start_desk
unfolding bound_test every
start_ready = record { bound = bound_of 0 _ refl; sound = fresh_sound _ (in_range_of _ refl) }

module _ (script : List ℕ) (d : Desk) (w : ReadyDesk d) where
  abbrev Keeps : Done → Type 0
  Keeps r = ReadyDesk r.desk

  pub new_ready : Keeps (new_done script d)
  unfolding new_done
  new_ready =
      all_pick Keeps _ _ _
      (λ z. all_pick Keeps _ _ _ (λ b. record { bound = bound_of _ _ b; sound = fresh_sound _ (in_range_of _ z) }) (λ _. w))
      (λ _. w)

  pub open_ready : Keeps (open_done script d)
  unfolding open_done
  open_ready = calls.open_ready d.dispatcher d.rows d.channels _ _ w

  pub close_ready : Keeps (close_done script d)
  unfolding close_done
  close_ready = calls.close_ready d.dispatcher d.rows d.channels _ w

  pub send_ready : Keeps (send_done script d)
  unfolding send_done
  send_ready = calls.send_ready d.dispatcher d.rows d.channels w _ _ _

  pub receive_ready : Keeps (receive_done script d)
  unfolding receive_done
  receive_ready = calls.receive_ready d.dispatcher d.rows d.channels w _ _

  pub park_ready : Keeps (park_done script d)
  unfolding park_done
  park_ready = calls.park_ready d.dispatcher d.rows d.channels w _ _ _

  -- looks leave the desk as it is
  pub row_ready : Keeps (row_done script d)
  unfolding row_done
  row_ready = all_pick Keeps _ _ _ (λ _. w) (λ _. w)

  pub counts_ready : Keeps (counts_done d)
  unfolding counts_done
  counts_ready = w
