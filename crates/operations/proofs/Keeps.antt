-- Each operation that calls the channel table leaves it sound. Assumes nothing.
use Rattle.std.specs.Prelude.{Result, ⊤}
use mathlib.Core.List.{List}
use Prim.Native.Nat.{ℕ}
use Rattle.ipc_rules.specs.Sound.{Sound}
use Rattle.ipc_rules.specs.Holds.{register_of, release_of}
use Rattle.ipc_rules.proofs.Fresh.{in_range_of, fresh_sound}
use Rattle.ipc_rules.proofs.Keeps.{counts_kept}
use Rattle.ipc_rules.proofs.KeepsCalls.{send_kept, recv_kept, park_kept, registered_all_kept, released_all_kept}
use Rattle.ipc_rules.proofs.KeepsClear.{clear_kept}
use Rattle.ipc_rules.proofs.KeepsCreate.{create_kept}
use Rattle.ipc_rules.proofs.KeepsRevoke.{revoke_kept}
use Rattle.joined.proofs.Calls.{spawn_kept, leave_kept, give_kept}
use Rattle.laws.proofs.Cases.{all_pick}
use Rattle.operations.specs.Channels.{new_done, create_done, send_done, receive_done, park_done, revoke_done, clear_done, note_authority_done, note_state_done}
use Rattle.operations.specs.Holds.{register_done, release_done}
use Rattle.operations.specs.Joined.{spawn_done, leave_done, give_done}
use Rattle.operations.specs.Done.{Done}
use Rattle.operations.specs.declared.Tables.{Tables}
use Rattle.ipc_rules.specs.declared.answers.RegisterError.{RegisterError}
use Rattle.shown.specs.declared.Answered.{Answered}
use Rattle.ipc_rules.specs.declared.state.Table.{Table as Channels}

module _ (log : List ℕ) (t : Tables) (s : Sound t.channels) where
  pub new_done_kept : Sound (new_done log t).tables.channels
  unfolding new_done
  new_done_kept = all_pick (λ (d : Done). Sound d.tables.channels) _ _ _ (λ h. fresh_sound _ (in_range_of _ h)) (λ _. s)

  pub create_done_kept : Sound (create_done log t).tables.channels
  unfolding create_done
  create_done_kept = create_kept t.channels _ s

  pub send_done_kept : Sound (send_done log t).tables.channels
  unfolding send_done
  send_done_kept = send_kept t.channels _ _ _ s

  pub receive_done_kept : Sound (receive_done log t).tables.channels
  unfolding receive_done
  receive_done_kept = recv_kept t.channels _ s

  pub park_done_kept : Sound (park_done log t).tables.channels
  unfolding park_done
  park_done_kept = park_kept t.channels _ _ s

  pub revoke_done_kept : Sound (revoke_done log t).tables.channels
  unfolding revoke_done
  revoke_done_kept = revoke_kept t.channels _ s

  pub clear_done_kept : Sound (clear_done log t).tables.channels
  unfolding clear_done
  clear_done_kept = clear_kept t.channels _ s

  pub note_authority_done_kept : Sound (note_authority_done t).tables.channels
  unfolding note_authority_done
  note_authority_done_kept = counts_kept t.channels _ s

  pub note_state_done_kept : Sound (note_state_done t).tables.channels
  unfolding note_state_done
  note_state_done_kept = counts_kept t.channels _ s

  pub register_done_kept : Sound (register_done log t).tables.channels
  unfolding register_done register_of
  register_done_kept = all_pick (λ (r : Answered (Result ⊤ RegisterError) Channels). Sound r.table) _ _ _ (λ _. registered_all_kept t.channels _ s) (λ _. s)

  pub release_done_kept : Sound (release_done log t).tables.channels
  unfolding release_done release_of
  release_done_kept = released_all_kept t.channels _ s

  pub spawn_done_kept : Sound (spawn_done log t).tables.channels
  unfolding spawn_done
  spawn_done_kept = spawn_kept t.channels t.rows _ _ s

  pub leave_done_kept : Sound (leave_done log t).tables.channels
  unfolding leave_done
  leave_done_kept = leave_kept t.channels t.rows _ s

  pub give_done_kept : Sound (give_done log t).tables.channels
  unfolding give_done
  give_done_kept = give_kept t.channels t.rows _ _ _ s
