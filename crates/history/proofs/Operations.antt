-- The log's operations are runs of calls: `operations_follow`, `logs_follow` and `operations_run`. Assumes nothing.
use mathlib.Core.Path.{◌≡◌, refl, sym, ap, subst, ◌∙◌}
use mathlib.Core.Bool.{Bool, true, false, not}
use mathlib.Core.List.{List, [], ◌∷◌}
use Prim.Native.Nat.{ℕ, zero, suc}
use native.Mathlib.Omega.{arith}
use borrow.Author.Tests.{ne_eqb, not-true}
use Rattle.laws.specs.Pick.{pick}
use Rattle.laws.specs.Refusals as no
use Rattle.laws.proofs.Every.{and_left, and_right}
use Rattle.capslots.specs.Table.{Shape}
use Rattle.capslots.proofs.Places.{shape_fresh}
use Rattle.capslots.proofs.Calls.{seed_shape, install_shape, drain_shape, transfer_shape}
use Rattle.ipc_rules.specs.Make.{in_range}
use Rattle.joined.specs.Steps.{spawn_of, leave_of, give_of}
use Rattle.logread.specs.Little.{byte_at}
use Rattle.logread.specs.Lists.{list_words}
use Rattle.operations.specs.Operands.{id_at, sizes_at}
use Rattle.operations.specs.Apply.{all_done, unknown_done, apply_of}
use Rattle.operations.specs.Channels.{all_fresh, new_done, create_done, send_done, receive_done, park_done, queued_done, revoke_done, holders_done, clear_done, note_authority_done, note_state_done, counts_done}
use Rattle.operations.specs.Done.{Done}
use Rattle.operations.specs.Holds.{register_done, release_done}
use Rattle.operations.specs.Joined.{spawn_done, leave_done, give_done}
use Rattle.operations.specs.Mints.{task_mint_done, task_lookup_done, task_end_done, irq_mint_done, irq_lookup_done}
use Rattle.operations.specs.Rows.{get_done, holds_done, seed_done, install_done, transfer_done, drain_done}
use Rattle.operations.specs.declared.Tables.{Tables}
use Rattle.history.specs.Calls.{Call, after}
use Rattle.history.specs.World.{World, run, start, Reached, fresh}
use Rattle.history.specs.Joined.{spawn_calls, leave_calls, give_calls}
use Rattle.history.specs.Operations.{Operation, all_calls, calls_of, renews, Logged, follow, operate, operated, beginning, Follows, OperationsFollow, LogsFollow, lasting, calls_over, OperationsRun}
use Rattle.history.proofs.Kept.{run_on, reached_run}
use Rattle.history.proofs.Along.{Along, end, ◌▸◌, along_all}
use Rattle.history.proofs.Joined.{one_call, joined_runs}
use Rattle.history.proofs.Sequences.{spawn_shape, leave_shape, give_shape}

-- a list but for its head
abbrev past : {A : Type 0} → List A → List A
past [] = []
past (a ∷ l) = l

-- ---- an operation that is no accepted `new`
pub goes_on : (s : Logged) (o : Operation) → renews o ≡ false → (operate s o).world ≡ run s.world (calls_of o s.tables)
unfolding operate follow pick
goes_on s o h = rw h

pub other_number : (n : ℕ) (log : List ℕ) → renews (record { number = suc n; bytes = log }) ≡ false
other_number n log = rw (ne_eqb (suc n) 0 (λ e. omega arith))

-- ---- the tables after an operation
module _ (w : World) (log : List ℕ) (t : Tables) (reached : Reached w) (same : w.table ≡ t.channels) (shape : Shape t.rows) where
  -- calls that leave the channel table, beside rows of the same shape
  record Leaves (d : Done) (cs : List Call) : Type 0 where
    table : (run w cs).table ≡ d.tables.channels
    rows : Shape d.tables.rows

  calls : (d : Done) (c : Call) → after t.channels c ≡ d.tables.channels → t.rows ≡ d.tables.rows → Leaves d (c ∷ [])
  calls d c e r = record { table = one_call w c ∙ ap (λ u. after u c) same ∙ e; rows = subst Shape r shape }

  none : (d : Done) → t.channels ≡ d.tables.channels → Shape d.tables.rows → Leaves d []
  unfolding run
  none d e r = record { table = same ∙ e; rows = r }

  -- the joined steps
  spawn_leaves : Leaves (spawn_done log t) (spawn_calls t.channels t.rows (byte_at log 3) (list_words log 4))
  unfolding spawn_done
  spawn_leaves =
      record {
        table = subst (λ u. (run w (spawn_calls u t.rows (byte_at log 3) (list_words log 4))).table ≡ (spawn_of u t.rows (byte_at log 3) (list_words log 4)).channels) same
            ((joined_runs w reached t.rows shape).spawn (byte_at log 3) (list_words log 4));
        rows = spawn_shape t.channels t.rows shape (byte_at log 3) (list_words log 4);
      }

  leave_leaves : Leaves (leave_done log t) (leave_calls t.channels t.rows (byte_at log 3))
  unfolding leave_done
  leave_leaves =
      record {
        table = subst (λ u. (run w (leave_calls u t.rows (byte_at log 3))).table ≡ (leave_of u t.rows (byte_at log 3)).channels) same
            ((joined_runs w reached t.rows shape).leave (byte_at log 3));
        rows = leave_shape t.channels t.rows shape (byte_at log 3);
      }

  give_leaves : Leaves (give_done log t) (give_calls t.channels t.rows (byte_at log 3) (byte_at log 4) (id_at log 5))
  unfolding give_done
  give_leaves =
      record {
        table = subst (λ u. (run w (give_calls u t.rows (byte_at log 3) (byte_at log 4) (id_at log 5))).table ≡ (give_of u t.rows (byte_at log 3) (byte_at log 4) (id_at log 5)).channels) same
            ((joined_runs w reached t.rows shape).give (byte_at log 3) (byte_at log 4) (id_at log 5));
        rows = give_shape t.channels t.rows shape (byte_at log 3) (byte_at log 4) (id_at log 5);
      }

  -- every operation but `new`
  all_leave : Along (λ _. Leaves) 0 (past (all_done log t)) (past (all_calls log t))
  unfolding after create_done send_done receive_done park_done queued_done revoke_done register_done release_done holders_done clear_done note_authority_done note_state_done get_done holds_done seed_done install_done transfer_done drain_done task_mint_done task_lookup_done task_end_done irq_mint_done irq_lookup_done counts_done
  all_leave =
      calls _ _ refl refl ▸
      calls _ _ refl refl ▸
      calls _ _ refl refl ▸
      calls _ _ refl refl ▸
      calls _ _ refl refl ▸
      calls _ _ refl refl ▸
      calls _ _ refl refl ▸
      calls _ _ refl refl ▸
      calls _ _ refl refl ▸
      calls _ _ refl refl ▸
      calls _ _ refl refl ▸
      calls _ _ refl refl ▸
      none _ refl shape ▸
      none _ refl shape ▸
      none _ refl (seed_shape t.rows (byte_at log 3) (list_words log 4) shape) ▸
      none _ refl (install_shape t.rows (byte_at log 3) (byte_at log 4) (id_at log 5) shape) ▸
      none _ refl (transfer_shape t.rows (byte_at log 3) (byte_at log 4) (byte_at log 5) (byte_at log 6) shape) ▸
      none _ refl (drain_shape t.rows (byte_at log 3) shape) ▸
      none _ refl shape ▸
      none _ refl shape ▸
      none _ refl shape ▸
      none _ refl shape ▸
      none _ refl shape ▸
      spawn_leaves ▸
      leave_leaves ▸
      give_leaves ▸
      calls _ _ refl refl ▸
      end

  by_calls : (n : ℕ) → Follows (record { world = run w (calls_of (record { number = suc n; bytes = log }) t); tables = (apply_of (suc n) log t).tables })
  unfolding apply_of calls_of
  by_calls n =
      let x = along_all (λ _. Leaves) (past (all_done log t)) (past (all_calls log t)) (unknown_done t) [] all_leave (λ _. none (unknown_done t) refl shape) n in
      record { reached = reached_run reached _; channels = x.table; rows = x.rows }

  -- `new`: a fresh start, or nothing
  by_new : (b : Bool) → in_range (sizes_at log 3) ≡ b → Follows (record {
    world = pick b (start (sizes_at log 3)) (run w []);
    tables = (pick {A = Done} b
        (record { number = no.none; values = []; tables = all_fresh (byte_at log 3) (byte_at log 4) (byte_at log 5) })
        (record { number = no.bad_sizes; values = []; tables = t })).tables;
  })
  unfolding pick run
  by_new true h = record { reached = fresh (sizes_at log 3) h; channels = refl; rows = shape_fresh }
  by_new false h = record { reached = reached; channels = same; rows = shape }

  begins_anew : Follows (operate (record { world = w; tables = t }) (record { number = 0; bytes = log }))
  unfolding operate follow apply_of calls_of new_done
  begins_anew = by_new (in_range (sizes_at log 3)) refl

  by_number : (n : ℕ) → Follows (operate (record { world = w; tables = t }) (record { number = n; bytes = log }))
  unfolding operate
  by_number zero = begins_anew
  by_number (suc n) = subst (λ v. Follows (record { world = v; tables = (apply_of (suc n) log t).tables })) (sym (goes_on (record { world = w; tables = t }) _ (other_number n log))) (by_calls n)

pub operations_follow : OperationsFollow
operations_follow s o f = by_number s.world o.bytes s.tables f.reached f.channels f.rows o.number

pub operated_follow : (s : Logged) (os : List Operation) → Follows s → Follows (operated s os)
unfolding operated
operated_follow s [] f = f
operated_follow s (o ∷ os) f = operated_follow (operate s o) os (operations_follow s o f)

pub logs_follow : LogsFollow
logs_follow os = operated_follow beginning os (record { reached = fresh _ refl; channels = refl; rows = shape_fresh })

-- ---- without an accepted `new`, one run
pub operations_run : OperationsRun
unfolding operated calls_over lasting operate run
operations_run s [] h = refl
operations_run s (o ∷ os) h =
    operations_run (operate s o) os (and_right (not (renews o)) (lasting os) h)
    ∙ ap (λ v. run v (calls_over (operate s o) os)) (goes_on s o (not-true (renews o) (and_left (not (renews o)) (lasting os) h)))
    ∙ sym (run_on s.world (calls_of o s.tables) (calls_over (operate s o) os))
