-- What holds of every operation: the channel table stays sound, and a line shows at most twelve values. Assumes nothing.
use Rattle.std.specs.Prelude.{Err, Ok, Result, ⊤}
use mathlib.Core.List.{List, [], ◌∷◌}
use Prim.Native.Nat.{ℕ, zero, suc}
use mathlib.Core.Bool.{not}
use lib.Dec.{lit≤, eqb}
use lib.ListN.{get_or}
use Rattle.laws.specs.Refusals as no
use Rattle.laws.proofs.Cases.{all_pick}
use Rattle.shown.proofs.Few.{Few, none_few, neither_few}
use Rattle.cap.proofs.Few.{slot_few}
use Rattle.capslots.specs.Rows.{get_of, drain_of}
use Rattle.capslots.proofs.Few.{drain_few, holds_few}
use Rattle.ipc_rules.specs.Create.{create_of}
use Rattle.ipc_rules.specs.Send.{send_of}
use Rattle.ipc_rules.specs.Receive.{recv_of, park_of}
use Rattle.ipc_rules.specs.Observe.{queued_of, holders_of, refusals_of}
use Rattle.ipc_rules.specs.Revoke.{revoke_of}
use Rattle.ipc_rules.specs.Holds.{release_of}
use Rattle.ipc_rules.specs.Waiters.{clear_of}
use Rattle.ipc_rules.specs.Sound.{Sound}
use Rattle.ipc_rules.specs.Why.{why_values}
use Rattle.ipc_rules.specs.declared.answers.WhyError.TheVariants.{Shut, BadTable}
use Rattle.ipc_rules.proofs.Few.{create_few, send_few, recv_few, park_few, queued_few, revoke_few, release_few, holders_few, clear_few, counts_few}
use Rattle.irqcap.specs.Table as irqs
use Rattle.taskcap.specs.Table as tasks
use Rattle.mint.proofs.Few.{mint_few, lookup_few}
use Rattle.joined.specs.Steps.{spawn_of, leave_of}
use Rattle.joined.proofs.Shows.{spawn_few, leave_few}
use Rattle.logread.specs.Little.{byte_at, little_at}
use Rattle.logread.specs.Lists.{list_slots, list_words}
use Rattle.operations.specs.Apply.{apply_of, all_done, unknown_done}
use Rattle.operations.specs.Channels.{reasoned, new_done, create_done, send_done, receive_done, park_done, queued_done, revoke_done, holders_done, clear_done, note_authority_done, note_state_done, counts_done}
use Rattle.operations.specs.Done.{Done}
use Rattle.operations.specs.Holds.{register_done, release_done}
use Rattle.operations.specs.Joined.{spawn_done, leave_done, give_done}
use Rattle.operations.specs.Mints.{task_mint_done, task_lookup_done, task_end_done, irq_mint_done, irq_lookup_done}
use Rattle.operations.specs.Rows.{get_done, holds_done, seed_done, install_done, transfer_done, drain_done}
use Rattle.operations.specs.Operands.{id_at, task_at, payload_at}
use Rattle.operations.specs.declared.Tables.{Tables}
use Rattle.operations.proofs.Keeps.{new_done_kept, create_done_kept, send_done_kept, receive_done_kept, park_done_kept, revoke_done_kept, register_done_kept, release_done_kept, clear_done_kept, note_authority_done_kept, note_state_done_kept, spawn_done_kept, leave_done_kept, give_done_kept}
use Rattle.ipc_rules.specs.declared.answers.WhyError.{WhyError}

-- P holds of every element of a list
data Every {A : Type 0} (P : A → Type 0) : List A → Type 0 where
  end : Every P []
  ◌▸◌ : {a : A} {l : List A} → P a → Every P l → Every P (a ∷ l)

infixr 5 ◌▸◌
listed : {A : Type 0} (P : A → Type 0) (l : List A) (d : A) → Every P l → P d → (i : ℕ) → P (get_or l i d)
listed P [] d h e i = e
listed P (a ∷ l) d (h ▸ hs) e zero = h
listed P (a ∷ l) d (h ▸ hs) e (suc i) = listed P l d hs e i

-- a reason is one value
why_few : (a : Result ⊤ WhyError) → Few (why_values a)
why_few (Ok tt) = lit≤ tt
why_few (Err (Shut r)) = lit≤ tt
why_few (Err BadTable) = lit≤ tt

reasoned_few : (why : Result ⊤ WhyError) (n : ℕ) (vs : List ℕ) → Few vs → Few (reasoned why n vs)
unfolding reasoned
reasoned_few why n vs h = all_pick Few (eqb n no.bad_cap) (why_values why) vs (λ _. why_few why) (λ _. h)

module _ (log : List ℕ) (t : Tables) where
  abbrev Keeps : Done → Type 0
  Keeps d = Sound d.tables.channels

  -- the rows, the mints and the looks leave the channel table as it is
  all_kept : Sound t.channels → Every Keeps (all_done log t)
  unfolding queued_done holders_done counts_done get_done holds_done seed_done install_done transfer_done drain_done task_mint_done task_lookup_done task_end_done irq_mint_done irq_lookup_done
  all_kept s =
      new_done_kept log t s ▸
      create_done_kept log t s ▸
      send_done_kept log t s ▸
      receive_done_kept log t s ▸
      park_done_kept log t s ▸
      s ▸
      revoke_done_kept log t s ▸
      register_done_kept log t s ▸
      release_done_kept log t s ▸
      s ▸
      clear_done_kept log t s ▸
      note_authority_done_kept log t s ▸
      note_state_done_kept log t s ▸
      s ▸
      s ▸
      s ▸
      s ▸
      s ▸
      s ▸
      s ▸
      s ▸
      s ▸
      s ▸
      s ▸
      spawn_done_kept log t s ▸
      leave_done_kept log t s ▸
      give_done_kept log t s ▸
      s ▸
      end

  pub apply_kept : (op : ℕ) → Sound t.channels → Sound (apply_of op log t).tables.channels
  unfolding apply_of
  apply_kept op s = listed Keeps (all_done log t) (unknown_done t) (all_kept s) s op

  abbrev Short : Done → Type 0
  Short d = Few d.values

  new_few : Short (new_done log t)
  unfolding new_done
  new_few = all_pick Short _ _ _ (λ _. none_few) (λ _. none_few)

  all_few : Every Short (all_done log t)
  unfolding create_done send_done receive_done park_done queued_done revoke_done register_done release_done holders_done clear_done note_authority_done note_state_done get_done holds_done seed_done install_done transfer_done drain_done task_mint_done task_lookup_done task_end_done irq_mint_done irq_lookup_done spawn_done leave_done give_done counts_done
  all_few =
      new_few ▸
      create_few (create_of t.channels (not (eqb (byte_at log 3) 0))).answer ▸
      reasoned_few _ _ _ (send_few (send_of t.channels (id_at log 3) (payload_at log 7) (byte_at log 27)).answer) ▸
      reasoned_few _ _ _ (recv_few (recv_of t.channels (id_at log 3)).answer) ▸
      reasoned_few _ _ _ (park_few (park_of t.channels (id_at log 3) (task_at log 7)).answer) ▸
      reasoned_few _ _ _ (queued_few (queued_of t.channels (id_at log 3))) ▸
      revoke_few (revoke_of t.channels (id_at log 3)).answer ▸
      neither_few _ ▸
      release_few (release_of t.channels (list_slots log 3)).answer (release_of t.channels (list_slots log 3)).waiters ▸
      holders_few (holders_of t.channels (id_at log 3)) ▸
      clear_few (clear_of t.channels (task_at log 3)).answer ▸
      none_few ▸
      none_few ▸
      slot_few (get_of t.rows (byte_at log 3) (byte_at log 4)) ▸
      holds_few _ ▸
      neither_few _ ▸
      neither_few _ ▸
      neither_few _ ▸
      drain_few (drain_of t.rows (byte_at log 3)).slots ▸
      mint_few (tasks.mint_of t.tasks (little_at log 3 4)).answer ▸
      lookup_few (tasks.lookup_of t.tasks (id_at log 3)) ▸
      lit≤ tt ▸
      mint_few (irqs.mint_of t.irqs (little_at log 3 4)).answer ▸
      lookup_few (irqs.lookup_of t.irqs (id_at log 3)) ▸
      spawn_few (spawn_of t.channels t.rows (byte_at log 3) (list_words log 4)).answer (spawn_of t.channels t.rows (byte_at log 3) (list_words log 4)).waiters ▸
      leave_few (leave_of t.channels t.rows (byte_at log 3)).answer (leave_of t.channels t.rows (byte_at log 3)).waiters ▸
      neither_few _ ▸
      counts_few (refusals_of t.channels) ▸
      end

  pub apply_few : (op : ℕ) → Few (apply_of op log t).values
  unfolding apply_of
  apply_few op = listed Short (all_done log t) (unknown_done t) all_few none_few op
