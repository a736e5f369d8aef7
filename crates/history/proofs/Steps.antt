-- A step makes a channel, or it settles with a table in which no more ids open. Assumes nothing.
use Rattle.std.specs.Prelude.{Result, ⊤}
use mathlib.Core.Path.{◌≡◌, refl, sym, subst}
use mathlib.Core.Bool.{Bool}
use mathlib.Core.List.{List}
use Prim.Native.Nat.{ℕ, suc}
use borrow.Author.Tests.{eq-eqb, ne_eqb}
use Rattle.laws.specs.Pick.{pick}
use Rattle.laws.proofs.Cases.{all_pick, not_both}
use Rattle.cap.specs.Id.{id_of, index_of}
use Rattle.cap.specs.Rights.{send_right}
use Rattle.cap.specs.Word.{slots_of}
use Rattle.cap.specs.declared.CapId.{CapId}
use Rattle.ipc_rules.specs.State.{endpoint_at}
use Rattle.ipc_rules.specs.Sound.{Sound}
use Rattle.ipc_rules.specs.Create.{create_of}
use Rattle.ipc_rules.specs.Holds.{register_of, release_of}
use Rattle.ipc_rules.specs.Revoke.{revoke_of}
use Rattle.ipc_rules.specs.Views.{Steady}
use Rattle.ipc_rules.specs.declared.state.Table.{Table}
use Rattle.ipc_rules.proofs.Openings.{opened_of}
use Rattle.ipc_rules.proofs.Changes.{steady_same}
use Rattle.ipc_rules.proofs.AfterSend.{send_steady}
use Rattle.ipc_rules.proofs.AfterReceive.{recv_steady}
use Rattle.ipc_rules.proofs.AfterPark.{park_steady}
use Rattle.ipc_rules.proofs.AfterRegister.{registered_in}
use Rattle.ipc_rules.proofs.AfterReleaseAll.{released_in}
use Rattle.ipc_rules.proofs.AfterRevoke.{RevokeWays, bad_cap, revoked, revoke_ways}
use Rattle.ipc_rules.proofs.AfterClear.{clear_clears}
use Rattle.ipc_rules.proofs.AfterCounts.{authority_only, note_authority_only, note_state_only}
use Rattle.ipc_rules.proofs.AfterCreate.{Creates, CreateWays, no_mailbox, no_endpoint, created, create_ways}
use Rattle.history.specs.Calls.{Call, create, send, receive, park, queued, revoke, register, release, holders, clear, note_authority, note_state, counts, four_slots, answer, after}
use Rattle.history.specs.World.{World, but, if_created, on_creation, settled, born, step}
use Rattle.history.proofs.Shrinks.{Shrinks, steady_shrinks}
use Rattle.ipc_rules.specs.declared.state.Channel.{Channel}
use Rattle.ipc_rules.specs.declared.answers.CreateError.{CreateError}
use Rattle.shown.specs.declared.Answered.{Answered}
use Rattle.ipc_rules.specs.declared.answers.RegisterError.{RegisterError}
use Rattle.ipc_rules.specs.declared.state.Waiter.{Waiter}
use Rattle.ipc_rules.specs.declared.answers.CapError.{CapError}

-- the creation makes a channel in mailbox k, with its ends at endpoints s and r, and v is the world with it
pub record Births (w : World) (b : Bool) (k s r : ℕ) (v : World) : Type 0 where
  pub makes : Creates w.table b k s r (create_of w.table b)
  pub table : v.table ≡ (create_of w.table b).table
  pub made : v.made ≡ suc w.made
  pub tenant : v.tenant k ≡ suc w.made
  pub others : (j : ℕ) → (j ≡ k → ⊥) → v.tenant j ≡ w.tenant j

pub data StepWays (w : World) (c : Call) (v : World) : Type 0 where
  settles : Shrinks w.table (after w.table c) → v ≡ settled w (after w.table c) → StepWays w c v
  births : (b : Bool) (k s r : ℕ) → c ≡ create b → Births w b k s r v → StepWays w c v

unchanged : (t : Table) → Shrinks t t
unchanged t = steady_shrinks t t (steady_same t)

-- ---- creation
-- the new channel's send end names its mailbox
module _ (w : World) (b : Bool) (k s r : ℕ) (x : Creates w.table b k s r (create_of w.table b)) where
  abbrev u : Table
  u = (create_of w.table b).table

  named : (endpoint_at u (index_of (id_of s w.table.counters.next_gen))).mailbox ≡ k
  named = (opened_of u (id_of s w.table.counters.next_gen) send_right k x.openings.sends).names

  born_births : Births w b k s r (born w u (id_of s w.table.counters.next_gen))
  unfolding but pick
  born_births = record { makes = x; table = refl; made = refl; tenant = rw (named, eq-eqb k k refl); others = λ j ne. rw (named, ne_eqb j k ne) }

-- what a creation makes of a world
abbrev pub numbered : World → Answered (Result Channel CreateError) Table → World
numbered w x = if_created x.answer (settled w x.table) (λ ids. born w x.table ids.send)

-- a creation that succeeds
pub create_births : (w : World) (b : Bool) (k s r : ℕ) → Creates w.table b k s r (create_of w.table b) → Births w b k s r (step w (create b))
unfolding step answer after on_creation if_created
create_births w b k s r x = rw x.answer (born_births w b k s r x)

create_step : (w : World) (b : Bool) → Sound w.table → StepWays w (create b) (step w (create b))
unfolding step answer after on_creation if_created
create_step w b σ = by (create_ways w.table b σ)
  where
    same : (x : Answered (Result Channel CreateError) Table) → create_of w.table b ≡ x → Shrinks w.table x.table → numbered w x ≡ settled w x.table → StepWays w (create b) (step w (create b))
    same x q h e = settles (subst (λ (y : Answered (Result Channel CreateError) Table). Shrinks w.table y.table) (sym q) h) (subst (λ (y : Answered (Result Channel CreateError) Table). numbered w y ≡ settled w y.table) (sym q) e)

    by : CreateWays w.table b (create_of w.table b) → StepWays w (create b) (step w (create b))
    by (no_mailbox _ q) = same _ q (unchanged w.table) refl
    by (no_endpoint _ _ _ q) = same _ q (unchanged w.table) refl
    by (created k s r x) = births b k s r refl (create_births w b k s r x)

-- ---- every call
register_steady : (t : Table) (words : List ℕ) → Sound t → Steady t (register_of t words).table
unfolding register_of
register_steady t words s = all_pick (λ (r : Answered (Result ⊤ RegisterError) Table). Steady t r.table) _ _ _ (λ _. (registered_in t (slots_of words) s).steady) (λ _. steady_same t)

-- a revocation shuts the ids of one mailbox, which dies
revoke_shrinks : (t : Table) (c : CapId) → Sound t → Shrinks t (revoke_of t c).table
revoke_shrinks t c s = by (revoke_ways t c s)
  where
    by : {r : Answered (Result Waiter CapError) Table} → RevokeWays t c r → Shrinks t r.table
    by (bad_cap _ q) = rw q (steady_shrinks t _ (authority_only t).steady)
    by (revoked k _ _ _ x) =
        record {
          only = x.only;
          still = λ d need j e l. x.still d need j (λ q. not_both _ l (rw q x.live)) e;
          next = x.next;
        }

pub step_ways : (w : World) (c : Call) → Sound w.table → StepWays w c (step w c)
unfolding step answer after on_creation release_of
step_ways w (create b) s = create_step w b s
step_ways w (send c p row) s = settles (steady_shrinks _ _ (send_steady w.table c p row s)) refl
step_ways w (receive c) s = settles (steady_shrinks _ _ (recv_steady w.table c s)) refl
step_ways w (park c task) s = settles (steady_shrinks _ _ (park_steady w.table c task s)) refl
step_ways w (queued c) s = settles (unchanged w.table) refl
step_ways w (revoke c) s = settles (revoke_shrinks w.table c s) refl
step_ways w (register words) s = settles (steady_shrinks _ _ (register_steady w.table words s)) refl
step_ways w (release x y z v) s = settles (steady_shrinks _ _ (released_in w.table (four_slots x y z v) s).steady) refl
step_ways w (holders c) s = settles (unchanged w.table) refl
step_ways w (clear task) s = settles (steady_shrinks _ _ (clear_clears w.table task).steady) refl
step_ways w note_authority s = settles (steady_shrinks _ _ (note_authority_only w.table).steady) refl
step_ways w note_state s = settles (steady_shrinks _ _ (note_state_only w.table).steady) refl
step_ways w counts s = settles (unchanged w.table) refl
