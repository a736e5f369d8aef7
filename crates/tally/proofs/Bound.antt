-- The bound of 65,535 creations is needed, `bound_needed`: one mailbox, in which 65,535 channels are made and revoked; then the first one's
-- send id is given to a row, and the next creation makes that id again. The rounds are those that show the bound of ids exact. Assumes
-- nothing.
use mathlib.Core.Path.{◌≡◌, refl, sym, ap, subst, ◌∙◌}
use mathlib.Core.Bool.{false}
use mathlib.Core.List.{List, [], ◌∷◌}
use Prim.Native.Nat.{ℕ, zero, suc, ◌<◌}
use native.Mathlib.Omega.{arith}
use lib.ListN.{length, replicate}
use Rattle.laws.specs.Pick.{pick}
use Rattle.cap.specs.Id.{id_of}
use Rattle.cap.specs.Rights.{send_right}
use Rattle.cap.specs.Slot.{holding}
use Rattle.cap.specs.declared.CapId.{CapId}
use Rattle.capslots.specs.Rows.{install_of}
use Rattle.capslots.specs.Table.{fresh_table, with_slot}
use Rattle.capslots.specs.declared.Table.{Table as Rows}
use Rattle.ipc_rules.specs.Create.{create_of}
use Rattle.ipc_rules.specs.Holds.{registered}
use Rattle.ipc_rules.specs.Opening.{opening_of, hold_of, opened}
use Rattle.ipc_rules.specs.declared.opening.Opening.TheVariants.{Opens}
use Rattle.ipc_rules.specs.declared.state.Channel.{Channel}
use Rattle.ipc_rules.specs.declared.state.Table.{Table as Channels}
use Rattle.ipc_rules.proofs.AfterCreate.{Creates}
use Rattle.dispatcher_rules.specs.State.{no_variant}
use Rattle.dispatcher_rules.specs.Make.{make_of}
use Rattle.joined.specs.Steps.{give_of, installs}
use Rattle.history.specs.Calls as calls
use Rattle.history.specs.World.{World, step}
use Rattle.history.specs.World as worlds
use Rattle.history.proofs.Kept.{step_table}
use Rattle.history.proofs.Tidy.{gen_of}
use Rattle.history.proofs.Return.{Idle, idle_shut, makes_first, idle_round, idle_start, revoke_table, round, small}
use Rattle.tally.specs.Count.{sum_over, over_slots}
use Rattle.tally.specs.Runs.{Among, as_send, earlier, Books, give, create, revoke, after, if_created, PutsCreated, Reached, fresh, then}
use Rattle.tally.specs.Needed.{first, BoundNeeded}

-- the books of a run that has touched nothing but channels
abbrev pub books_at : Channels → Rows → List Channel → Books
books_at t rows l = record { channels = t; rows = rows; dispatcher = (make_of 0 (replicate 16 no_variant)).dispatcher; created = l }

-- the two ids of the next channel of an idle table
abbrev pub next_ids : Channels → Channel
next_ids t = record { send = id_of 0 t.counters.next_gen; recv = id_of 1 t.counters.next_gen }

-- n channels were made and revoked
record Rest (w : World) (l : List Channel) (n : ℕ) : Type 0 where
  idle : Idle w n
  made : length l ≡ n
  named : 0 < n → Among first l
  reached : Reached (books_at w.table fresh_table l)

module _ (w : World) (l : List Channel) (n : ℕ) (ρ : Rest w l n) where
  abbrev t : Channels
  t = w.table

  abbrev x : Creates t false 0 0 1 (create_of t false)
  x = makes_first w n ρ.idle

  -- ---- a creation
  create_books : (rows : Rows) → after (books_at t rows l) (create false) ≡ books_at (create_of t false).table rows (next_ids t ∷ l)
  unfolding after if_created
  create_books rows = rw x.answer refl

  create_reached : (rows : Rows) → Reached (books_at t rows l) → Reached (books_at (create_of t false).table rows (next_ids t ∷ l))
  unfolding PutsCreated
  create_reached rows r = subst Reached (create_books rows) (then r (create false) _)

  -- ---- a round
  abbrev c : CapId
  c = id_of 0 t.counters.next_gen

  round_books : after (books_at (create_of t false).table fresh_table (next_ids t ∷ l)) (revoke c) ≡ books_at (round w c).table fresh_table (next_ids t ∷ l)
  unfolding after calls.after
  round_books = let e = revoke_table (step w (calls.create false)) c in let h = step_table w (calls.create false) in rw (e, h) refl

  rest_round : Rest (round w c) (next_ids t ∷ l) (suc n)
  unfolding PutsCreated after
  rest_round =
      record {
        idle = idle_round w n ρ.idle;
        made = ap suc ρ.made;
        named = λ _. of n ρ.idle ρ.named;
        reached = subst Reached round_books (then (create_reached fresh_table ρ.reached) (revoke c) _);
      }
    where
      of : (j : ℕ) → Idle w j → (0 < j → Among first l) → Among first (next_ids t ∷ l)
      of zero ι h = as_send (ap (λ (g : ℕ). id_of 0 g) (sym (ι.tidy.next ∙ ap (λ (i : ℕ). gen_of (suc i)) ι.made)))
      of (suc j) ι h = earlier (h (omega arith))

-- after n rounds
record Rested (n : ℕ) : Type 0 where
  world : World
  created : List Channel
  rest : Rest world created n

rested : (n : ℕ) → Rested n
rested zero =
    record {
      world = worlds.start small;
      created = [];
      rest = record { idle = idle_start; made = refl; named = λ l. absurd (omega arith); reached = fresh small refl };
    }
rested (suc n) =
    let ρ = rested n in
    record { world = _; created = _; rest = rest_round ρ.world ρ.created n ρ.rest }

-- ---- the first id in a slot, and the creation after it
abbrev pub with_first : Rows
with_first = with_slot fresh_table 0 0 (holding first)

module _ (w : World) (l : List Channel) (ρ : Rest w l 65535) where
  -- the id opens nothing, so the give registers nothing
  give_books : after (books_at w.table fresh_table l) (give 0 0 first) ≡ books_at w.table with_first l
  unfolding after give_of installs install_of registered opened hold_of pick
  give_books = let e = idle_shut w 65535 ρ.idle first send_right in rw e refl

  give_reached : Reached (books_at w.table with_first l)
  unfolding PutsCreated
  give_reached = subst Reached give_books (then ρ.reached (give 0 0 first) (λ _ _. ρ.named (omega arith)))

  -- the 65,536th channel has the generation of the first
  again : w.table.counters.next_gen ≡ 1
  again = ρ.idle.tidy.next ∙ ap (λ (i : ℕ). gen_of (suc i)) ρ.idle.made

  breached : BoundNeeded
  unfolding over_slots sum_over pick
  breached =
      let y = makes_first w 65535 ρ.idle in
      record {
        books = books_at (create_of w.table false).table with_first (next_ids w.table ∷ l);
        reached = create_reached w l 65535 ρ with_first give_reached;
        creations = ap suc ρ.made;
        live = y.live;
        opens = subst (λ (g : ℕ). opening_of (create_of w.table false).table (id_of 0 g) send_right ≡ Opens 0) again y.openings.sends;
        holds = y.holds;
        slots = refl;
      }

pub bound_needed : BoundNeeded
bound_needed = let ρ = rested 65535 in breached ρ.world ρ.created ρ.rest
