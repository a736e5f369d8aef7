-- What holds of every operation: the desk stays ready, and a line shows at most twelve values. Assumes nothing.
use mathlib.Core.List.{List, [], ◌∷◌}
use Prim.Native.Nat.{ℕ, zero, suc}
use lib.ListN.{get_or}
use Rattle.laws.proofs.Cases.{all_pick}
use Rattle.shown.proofs.Few.{Few, none_few}
use Rattle.capslots.specs.Table.{row_at}
use Rattle.capslots.proofs.Few.{drain_few}
use Rattle.ipc_rules.specs.Observe.{refusals_of}
use Rattle.ipc_rules.proofs.Few.{counts_few}
use Rattle.logread.specs.Little.{byte_at}
use Rattle.dispatcher_rules.specs.Open.{open_job_of}
use Rattle.dispatcher_rules.specs.Close.{close_job_of}
use Rattle.dispatcher_rules.specs.Slots.{slot_send_of, slot_recv_of, slot_park_of}
use Rattle.dispatcher_rules.specs.declared.state.Desk.{Desk}
use Rattle.jobscript.specs.Done.{Done, ReadyDesk}
use Rattle.jobscript.specs.Operands.{tag_at, payload_at, task_at}
use Rattle.jobscript.specs.Operations.{new_done, open_done, close_done, send_done, receive_done, park_done, row_done, counts_done, unknown_done, all_done, apply_of}
use Rattle.jobscript.proofs.Keeps.{new_ready, open_ready, close_ready, send_ready, receive_ready, park_ready, row_ready, counts_ready}
use Rattle.dispatcher_rules.proofs.Shows.{open_few, close_few, slot_send_few, slot_recv_few, slot_park_few}

-- P holds of every element of a list
data Every {A : Type 0} (P : A → Type 0) : List A → Type 0 where
  end : Every P []
  ◌▸◌ : {a : A} {l : List A} → P a → Every P l → Every P (a ∷ l)

infixr 5 ◌▸◌
listed : {A : Type 0} (P : A → Type 0) (l : List A) (d : A) → Every P l → P d → (i : ℕ) → P (get_or l i d)
listed P [] d h e i = e
listed P (a ∷ l) d (h ▸ hs) e zero = h
listed P (a ∷ l) d (h ▸ hs) e (suc i) = listed P l d hs e i

module _ (script : List ℕ) (d : Desk) where
  abbrev Keeps : Done → Type 0
  Keeps r = ReadyDesk r.desk

  all_ready : ReadyDesk d → Every Keeps (all_done script d)
  all_ready w =
      new_ready script d w ▸
      open_ready script d w ▸
      close_ready script d w ▸
      send_ready script d w ▸
      receive_ready script d w ▸
      park_ready script d w ▸
      row_ready script d w ▸
      counts_ready script d w ▸
      end

  pub apply_ready : (op : ℕ) → ReadyDesk d → ReadyDesk (apply_of op script d).desk
  unfolding apply_of
  apply_ready op w = listed Keeps (all_done script d) (unknown_done d) (all_ready w) w op

  abbrev Short : Done → Type 0
  Short r = Few r.values

  new_few : Short (new_done script d)
  unfolding new_done
  new_few = all_pick Short _ _ _ (λ _. all_pick Short _ _ _ (λ _. none_few) (λ _. none_few)) (λ _. none_few)

  row_few : Short (row_done script d)
  unfolding row_done
  row_few = all_pick Short _ _ _ (λ _. none_few) (λ _. drain_few (row_at d.rows (byte_at script 3)).slots)

  all_few : Every Short (all_done script d)
  unfolding open_done close_done send_done receive_done park_done counts_done
  all_few =
      new_few ▸
      open_few (open_job_of d.dispatcher d.rows d.channels (tag_at script 3) (byte_at script 8)).answer ▸
      close_few (close_job_of d.dispatcher d.rows d.channels (byte_at script 3)).answer ▸
      slot_send_few (slot_send_of d.dispatcher d.rows d.channels (byte_at script 3) (byte_at script 4) (payload_at script)).answer ▸
      slot_recv_few (slot_recv_of d.dispatcher d.rows d.channels (byte_at script 3) (byte_at script 4)).answer ▸
      slot_park_few (slot_park_of d.dispatcher d.rows d.channels (byte_at script 3) (byte_at script 4) (task_at script)).answer ▸
      row_few ▸
      counts_few (refusals_of d.channels) ▸
      end

  pub apply_few : (op : ℕ) → Few (apply_of op script d).values
  unfolding apply_of
  apply_few op = listed Short (all_done script d) (unknown_done d) all_few none_few op
