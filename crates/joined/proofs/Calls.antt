-- What each joined step leaves: of the channels a run of releases and registers, of the rows what their own calls leave, both as before
-- where it is refused; and sound channels stay sound. Assumes nothing.
use Rattle.std.specs.Prelude.{Ok}
use mathlib.Core.Path.{◌≡◌, refl}
use mathlib.Core.List.{List}
use Prim.Native.Nat.{ℕ}
use Rattle.cap.specs.Slot.{holding}
use Rattle.cap.specs.declared.CapId.{CapId}
use Rattle.capslots.specs.Rows.{row_of, seed_of, drain_of, install_of}
use Rattle.capslots.specs.Table.{row_at, Shape}
use Rattle.capslots.specs.declared.Table.{Table as Rows}
use Rattle.ipc_rules.specs.Sound.{Sound}
use Rattle.ipc_rules.specs.Holds.{registered, registered_all, released_all, release_of, four_of}
use Rattle.ipc_rules.specs.declared.state.Table.{Table as Channels}
use Rattle.ipc_rules.proofs.KeepsCalls.{registered_kept, registered_all_kept, released_all_kept}
use Rattle.joined.specs.Steps.{spawn_of, leave_of, give_of}
use Rattle.joined.specs.Border.{spawn_call, leave_call, give_call}
use Rattle.joined.specs.declared.answers.Spawning.{Spawning}
use Rattle.joined.specs.declared.answers.Leaving.{Leaving}
use Rattle.joined.specs.declared.answers.Giving.{Giving}
use Rattle.joined.proofs.Register.{seeded_row}
use Rattle.joined.proofs.Ways.{spawn_ways, leave_ways, give_ways, guarded_ways}

module _ (channels : Channels) (rows : Rows) where
  -- a refused step leaves both tables as they were
  pub record Unchanged (c : Channels) (r : Rows) : Type 0 where
    pub channels_kept : c ≡ channels
    pub rows_kept : r ≡ rows

  same : Unchanged channels rows
  same = record { channels_kept = refl; rows_kept = refl }

  module _ (r : ℕ) (words : List ℕ) where
    abbrev spawn : Spawning
    spawn = spawn_of channels rows r words

    -- the row's old ids released, then the ids that are in it afterwards registered
    abbrev freed : Channels
    freed = (released_all channels (drain_of rows r).slots).table

    pub spawn_kept : Sound channels → Sound spawn.channels
    unfolding release_of
    spawn_kept s =
        spawn_ways channels rows (λ (x : Spawning). Sound x.channels) r words (λ _ _. s)
        (λ _ _. registered_all_kept freed (row_at (seed_of (drain_of rows r).table r words).table r).slots (released_all_kept channels (drain_of rows r).slots s))

    pub spawn_registers : spawn.answer ≡ Ok tt → spawn.channels ≡ registered_all freed (row_at spawn.rows r).slots
    unfolding release_of
    spawn_registers =
        spawn_ways channels rows (λ (x : Spawning). x.answer ≡ Ok tt → x.channels ≡ registered_all freed (row_at x.rows r).slots) r words
        (λ _ n e. absurd (n e)) (λ _ _ _. refl)

    pub spawn_wakes : spawn.answer ≡ Ok tt → spawn.waiters ≡ four_of (released_all channels (drain_of rows r).slots).woken
    unfolding release_of
    spawn_wakes =
        spawn_ways channels rows (λ (x : Spawning). x.answer ≡ Ok tt → x.waiters ≡ four_of (released_all channels (drain_of rows r).slots).woken) r words
        (λ _ n e. absurd (n e)) (λ _ _ _. refl)

    pub spawn_seeds : spawn.answer ≡ Ok tt → spawn.rows ≡ (seed_of (drain_of rows r).table r words).table
    spawn_seeds =
        spawn_ways channels rows (λ (x : Spawning). x.answer ≡ Ok tt → x.rows ≡ (seed_of (drain_of rows r).table r words).table) r words
        (λ _ n e. absurd (n e)) (λ _ _ _. refl)

    -- the ids that are in the row afterwards are the list's first four, and none of those past them
    pub spawn_fills : Shape rows → spawn.answer ≡ Ok tt → row_at spawn.rows r ≡ row_of words
    spawn_fills shape =
        spawn_ways channels rows (λ (x : Spawning). x.answer ≡ Ok tt → row_at x.rows r ≡ row_of words) r words
        (λ _ n e. absurd (n e)) (λ w l _. seeded_row rows r words shape w l)

    spawn_keeps : Spawning → Type 0
    spawn_keeps x = (x.answer ≡ Ok tt → ⊥) → Unchanged x.channels x.rows

    -- on a table that is known to be sound, and at the border
    pub spawn_refused : (spawn.answer ≡ Ok tt → ⊥) → Unchanged spawn.channels spawn.rows
    unfolding spawn_keeps
    spawn_refused =
        spawn_ways channels rows spawn_keeps r words (λ _ _ _. same) (λ _ _ n. absurd (n refl))

    pub spawn_call_refused : ((spawn_call channels rows r words).answer ≡ Ok tt → ⊥) → Unchanged (spawn_call channels rows r words).channels (spawn_call channels rows r words).rows
    unfolding spawn_keeps
    spawn_call_refused = guarded_ways spawn_keeps channels _ _ (λ _. same) spawn_refused

  module _ (r : ℕ) where
    abbrev leave : Leaving
    leave = leave_of channels rows r

    pub leave_kept : Sound channels → Sound leave.channels
    unfolding release_of
    leave_kept s =
        leave_ways channels rows (λ (x : Leaving). Sound x.channels) r (λ _ _. s)
        (λ _. released_all_kept channels (drain_of rows r).slots s)

    pub leave_releases : leave.answer ≡ Ok tt → leave.channels ≡ (released_all channels (drain_of rows r).slots).table
    unfolding release_of
    leave_releases =
        leave_ways channels rows (λ (x : Leaving). x.answer ≡ Ok tt → x.channels ≡ (released_all channels (drain_of rows r).slots).table) r
        (λ _ n e. absurd (n e)) (λ _ _. refl)

    pub leave_wakes : leave.answer ≡ Ok tt → leave.waiters ≡ four_of (released_all channels (drain_of rows r).slots).woken
    unfolding release_of
    leave_wakes =
        leave_ways channels rows (λ (x : Leaving). x.answer ≡ Ok tt → x.waiters ≡ four_of (released_all channels (drain_of rows r).slots).woken) r
        (λ _ n e. absurd (n e)) (λ _ _. refl)

    pub leave_drains : leave.answer ≡ Ok tt → leave.rows ≡ (drain_of rows r).table
    leave_drains =
        leave_ways channels rows (λ (x : Leaving). x.answer ≡ Ok tt → x.rows ≡ (drain_of rows r).table) r
        (λ _ n e. absurd (n e)) (λ _ _. refl)

    leave_keeps : Leaving → Type 0
    leave_keeps x = (x.answer ≡ Ok tt → ⊥) → Unchanged x.channels x.rows

    pub leave_refused : (leave.answer ≡ Ok tt → ⊥) → Unchanged leave.channels leave.rows
    unfolding leave_keeps
    leave_refused =
        leave_ways channels rows leave_keeps r (λ _ _ _. same) (λ _ n. absurd (n refl))

    pub leave_call_refused : ((leave_call channels rows r).answer ≡ Ok tt → ⊥) → Unchanged (leave_call channels rows r).channels (leave_call channels rows r).rows
    unfolding leave_keeps
    leave_call_refused = guarded_ways leave_keeps channels _ _ (λ _. same) leave_refused

  module _ (r s : ℕ) (c : CapId) where
    abbrev give : Giving
    give = give_of channels rows r s c

    pub give_kept : Sound channels → Sound give.channels
    give_kept sound =
        give_ways channels rows (λ (x : Giving). Sound x.channels) r s c (λ _ _. sound)
        (λ _. registered_kept channels (holding c) sound)

    pub give_registers : give.answer ≡ Ok tt → give.channels ≡ registered channels (holding c)
    give_registers =
        give_ways channels rows (λ (x : Giving). x.answer ≡ Ok tt → x.channels ≡ registered channels (holding c)) r s c
        (λ _ n e. absurd (n e)) (λ _ _. refl)

    pub give_installs : give.answer ≡ Ok tt → give.rows ≡ (install_of rows r s c).table
    give_installs =
        give_ways channels rows (λ (x : Giving). x.answer ≡ Ok tt → x.rows ≡ (install_of rows r s c).table) r s c
        (λ _ n e. absurd (n e)) (λ _ _. refl)

    give_keeps : Giving → Type 0
    give_keeps x = (x.answer ≡ Ok tt → ⊥) → Unchanged x.channels x.rows

    pub give_refused : (give.answer ≡ Ok tt → ⊥) → Unchanged give.channels give.rows
    unfolding give_keeps
    give_refused =
        give_ways channels rows give_keeps r s c (λ _ _ _. same) (λ _ n. absurd (n refl))

    pub give_call_refused : ((give_call channels rows r s c).answer ≡ Ok tt → ⊥) → Unchanged (give_call channels rows r s c).channels (give_call channels rows r s c).rows
    unfolding give_keeps
    give_call_refused = guarded_ways give_keeps channels _ _ (λ _. same) give_refused
