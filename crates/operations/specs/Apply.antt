-- Document 01, "The operation log": the operations by their numbers, 0 to 27.
use Rattle.std.specs.Prelude.{List, [], ◌∷◌, ℕ, get_or}
use Rattle.laws.specs.Refusals as no
use Rattle.operations.specs.Channels.{new_done, create_done, send_done, receive_done, park_done, queued_done, revoke_done, holders_done, clear_done, note_authority_done, note_state_done, counts_done}
use Rattle.operations.specs.Done.{Done, done}
use Rattle.operations.specs.Holds.{register_done, release_done}
use Rattle.operations.specs.Joined.{spawn_done, leave_done, give_done}
use Rattle.operations.specs.Mints.{task_mint_done, task_lookup_done, task_end_done, irq_mint_done, irq_lookup_done}
use Rattle.operations.specs.Rows.{get_done, holds_done, seed_done, install_done, transfer_done, drain_done}
use Rattle.operations.specs.declared.Tables.{Tables}

-- a number above 27 is no operation's
abbrev pub unknown_done : Tables → Done
unknown_done t = done no.bad_op [] t

-- what each operation comes to, in the order of their numbers
abbrev pub all_done : List ℕ → Tables → List Done
all_done log t =
    new_done log t ∷
    create_done log t ∷
    send_done log t ∷
    receive_done log t ∷
    park_done log t ∷
    queued_done log t ∷
    revoke_done log t ∷
    register_done log t ∷
    release_done log t ∷
    holders_done log t ∷
    clear_done log t ∷
    note_authority_done t ∷
    note_state_done t ∷
    get_done log t ∷
    holds_done log t ∷
    seed_done log t ∷
    install_done log t ∷
    transfer_done log t ∷
    drain_done log t ∷
    task_mint_done log t ∷
    task_lookup_done log t ∷
    task_end_done log t ∷
    irq_mint_done log t ∷
    irq_lookup_done log t ∷
    spawn_done log t ∷
    leave_done log t ∷
    give_done log t ∷
    counts_done t ∷
    []

unfoldable pub apply_of : ℕ → List ℕ → Tables → Done
apply_of op log t = get_or (all_done log t) op (unknown_done t)
