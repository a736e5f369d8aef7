-- The bound of 65,535 is exact, `ids_return`. A table of one mailbox and two endpoints with nothing alive makes every channel in the same
-- places, so that only generations tell its ids apart; a round is a creation and the revocation of what it made, and by induction over
-- rounds nothing lives after each, and the next generation goes by their number. Assumes nothing.
use mathlib.Core.Path.{◌≡◌, refl, sym, ap, subst, ◌∙◌}
use mathlib.Core.Bool.{false}
use mathlib.Core.List.{List, [], ◌∷◌}
use mathlib.Core.Logic.{⊎_elim}
use Prim.Native.Nat.{ℕ, zero, suc, ◌+◌}
use native.Mathlib.Omega.{arith}
use Rattle.laws.proofs.Bools.{either, same?}
use Rattle.laws.proofs.Cases.{not_both}
use Rattle.laws.proofs.Search.{here, none_free}
use Rattle.cap.specs.Id.{id_of, index_of}
use Rattle.cap.specs.Rights.{send_right, receive_right}
use Rattle.cap.specs.declared.CapId.{CapId}
use Rattle.cap.specs.declared.CapRights.{CapRights}
use Rattle.ipc_rules.specs.State.{endpoint_live, mailbox_live, sizes_of}
use Rattle.ipc_rules.specs.Create.{create_of}
use Rattle.ipc_rules.specs.Opening.{opening_of, any_right_of, opened}
use Rattle.ipc_rules.specs.Revoke.{revoke_of}
use Rattle.ipc_rules.specs.declared.state.Channel.{Channel}
use Rattle.ipc_rules.specs.declared.state.Mailbox.{Mailbox}
use Rattle.ipc_rules.specs.declared.state.Sizes.{Sizes}
use Rattle.ipc_rules.specs.declared.state.Table.{Table}
use Rattle.ipc_rules.specs.declared.opening.Opening.TheVariants.{Opens, Shut}
use Rattle.ipc_rules.proofs.Openings.{either_is}
use Rattle.ipc_rules.proofs.OtherOpenings.{any_is}
use Rattle.ipc_rules.proofs.NewChannel.{dead_shut}
use Rattle.ipc_rules.proofs.AfterNew.{fresh_box}
use Rattle.ipc_rules.proofs.AfterCreate.{Creates, CreateWays, no_mailbox, no_endpoint, create_ways}
use Rattle.ipc_rules.proofs.AfterRevoke.{RevokeWays, bad_cap, revoked, revoke_ways}
use Rattle.history.specs.Calls.{Call, create, revoke, created, answer, after}
use Rattle.history.specs.World.{World, on_creation, step, run, start, fresh}
use Rattle.history.specs.Channels.{LivesIn}
use Rattle.history.specs.Ids.{IdsReturn}
use Rattle.history.proofs.Kept.{step_table}
use Rattle.history.proofs.Steps.{Births, create_births}
use Rattle.history.proofs.Tidy.{gen_of, Tidy, step_grows, start_tidy}

-- one mailbox, two endpoints, nothing alive, and n channels made
pub record Idle (w : World) (n : ℕ) : Type 0 where
  pub tidy : Tidy w
  pub made : w.made ≡ n
  pub sizes : w.table.sizes ≡ sizes_of 1 2 1
  pub dead : (k : ℕ) → mailbox_live w.table k ≡ false

-- ---- a creation, from there
module _ (w : World) (n : ℕ) (ι : Idle w n) where
  abbrev t : Table
  t = w.table

  boxes : t.sizes.mailboxes ≡ 1
  boxes = ap (λ (z : Sizes). z.mailboxes) ι.sizes

  ends : t.sizes.endpoints ≡ 2
  ends = ap (λ (z : Sizes). z.endpoints) ι.sizes

  -- a live endpoint would name a live mailbox
  dead_end : (i : ℕ) → endpoint_live t i ≡ false
  dead_end i = ⊎_elim (λ l. absurd (not_both _ (ι.tidy.sound.names i l).live (ι.dead _))) (λ d. d) (either (endpoint_live t i))

  pub idle_shut : (c : CapId) (need : CapRights) → opening_of t c need ≡ Shut
  idle_shut c need = dead_shut t c need (dead_end (index_of c))

  pub makes_first : Creates t false 0 0 1 (create_of t false)
  makes_first = by (create_ways t false ι.tidy.sound)
    where
      by : CreateWays t false (create_of t false) → Creates t false 0 0 1 (create_of t false)
      by (no_mailbox p _) = let z = boxes in absurd (not_both _ (none_free (mailbox_live t) 0 t.sizes.mailboxes p 0 (omega arith) (omega arith)) (ι.dead 0))
      by (no_endpoint _ _ h _) =
          let z = ends in
          let p = h 0 (sym (here (endpoint_live t) 0 t.sizes.endpoints (omega arith) (dead_end 0))) in
          absurd (not_both _ (none_free (endpoint_live t) 1 t.sizes.endpoints p 1 (omega arith) (omega arith)) (dead_end 1))
      by (CreateWays.created k s r x) =
          let f = x.took in
          let z = boxes in
          let y = ends in
          let a : k ≡ 0 = omega arith in
          let b : s ≡ 0 = omega arith in
          let c : r ≡ 1 = omega arith in
          rw (a, b, c) at x

  idle_births : Births w false 0 0 1 (step w (create false))
  idle_births = create_births w false 0 0 1 makes_first

  idle_revokes : any_right_of (step w (create false)).table (id_of 0 t.counters.next_gen) ≡ Opens 0
  unfolding opened
  idle_revokes =
      let v = step w (create false) in
      let c = id_of 0 t.counters.next_gen in
      any_is v.table c (step_grows w (create false) ι.tidy).tidy.sound
      ∙ rw (either_is, idle_births.table, makes_first.openings.sends)

-- ---- a round
abbrev pub round : World → CapId → World
round w c = step (step w (create false)) (revoke c)

-- a revocation makes no channel
revoke_made : (w : World) (c : CapId) → (step w (revoke c)).made ≡ w.made
unfolding step answer on_creation
revoke_made w c = refl

pub revoke_table : (w : World) (c : CapId) → (step w (revoke c)).table ≡ (revoke_of w.table c).table
unfolding after
revoke_table w c = step_table w (revoke c)

pub idle_round : (w : World) (n : ℕ) → Idle w n → Idle (round w (id_of 0 w.table.counters.next_gen)) (suc n)
idle_round w n ι = by (revoke_ways v.table c τ.sound)
  where
    v : World
    v = step w (create false)

    c : CapId
    c = id_of 0 w.table.counters.next_gen

    τ : Tidy v
    τ = (step_grows w (create false) ι.tidy).tidy

    β : Births w false 0 0 1 v
    β = idle_births w n ι

    by : RevokeWays v.table c (revoke_of v.table c) → Idle (round w c) (suc n)
    by (bad_cap o _) = let e = idle_revokes w n ι in let z : ◌≡◌ {A = ℕ} 0 1 = cc in absurd (omega arith)
    by (revoked k o _ _ x) =
        let e = idle_revokes w n ι in
        let at : k ≡ 0 = cc in
        record {
          tidy = (step_grows v (revoke c) τ).tidy;
          made = revoke_made v c ∙ β.made ∙ ap suc ι.made;
          sizes = rw (revoke_table v c) (x.sizes ∙ rw β.table (β.makes.sizes ∙ ι.sizes));
          dead = rw (revoke_table v c) (λ j.
              ⊎_elim (λ q. let i : j ≡ k = q ∙ sym at in rw i x.live)
              (λ ne. (x.others j (λ q. ne (q ∙ at))).live ∙ rw β.table ((β.makes.others j ne).live ∙ ι.dead j)) (same? j 0));
        }

-- j rounds, of which the first makes channel n
unfoldable rounds : ℕ → ℕ → List Call
rounds n zero = []
rounds n (suc j) = create false ∷ revoke (id_of 0 (gen_of n)) ∷ rounds (suc n) j

idle_rounds : (w : World) (n j : ℕ) → Idle w n → Idle (run w (rounds (suc n) j)) (n + j)
unfolding run rounds
idle_rounds w n zero ι = let e : n ≡ n + 0 = omega arith in rw (← e) ι
idle_rounds w n (suc j) ι =
    let g : w.table.counters.next_gen ≡ gen_of (suc n) = ι.tidy.next ∙ ap (λ (x : ℕ). gen_of (suc x)) ι.made in
    let e : suc n + j ≡ n + suc j = omega arith in
    rw (← g, ← e) (idle_rounds (round w (id_of 0 w.table.counters.next_gen)) (suc n) j (idle_round w n ι))

-- ---- the run
-- a fresh table with one mailbox and two endpoints
abbrev pub small : Sizes
small = sizes_of 1 2 1

pub idle_start : Idle (start small) 0
idle_start =
    record {
      tidy = start_tidy small refl;
      made = refl;
      sizes = refl;
      dead = λ k. ap (λ (b : Mailbox). b.live) (fresh_box small k);
    }

-- the first channel's ids
abbrev first : Channel
first = record { send = id_of 0 1; recv = id_of 1 1 }

-- once n channels were made and none lives, and channel n + 1 has the first generation again
module _ (v : World) (n : ℕ) (ι : Idle v n) (again : gen_of (suc n) ≡ 1) where
  next_first : v.table.counters.next_gen ≡ 1
  next_first = ι.tidy.next ∙ ap (λ (x : ℕ). gen_of (suc x)) ι.made ∙ again

  last_lives : LivesIn (step v (create false)) (suc n) 0
  last_lives =
      let β = idle_births v n ι in record { live = rw β.table β.makes.live; tenant = β.tenant ∙ ap suc ι.made }

  last_sends : opening_of (step v (create false)).table first.send send_right ≡ Opens 0
  last_sends =
      let β = idle_births v n ι in
      rw β.table (subst (λ (g : ℕ). opening_of (create_of v.table false).table (id_of 0 g) send_right ≡ Opens 0) next_first β.makes.openings.sends)

  last_receives : opening_of (step v (create false)).table first.recv receive_right ≡ Opens 0
  last_receives =
      let β = idle_births v n ι in
      rw β.table (subst (λ (g : ℕ). opening_of (create_of v.table false).table (id_of 1 g) receive_right ≡ Opens 0) next_first β.makes.openings.receives)

pub ids_return : IdsReturn
unfolding answer
ids_return =
    record {
      world = start small;
      reached = fresh small refl;
      ids = first;
      makes = record { answers = ap created (makes_first (start small) 0 idle_start).answer; number = refl };
      more = rounds 2 65534;
      before = run (round (start small) (id_of 0 1)) (rounds 2 65534);
      came = refl;
      made_before = before.made;
      shut_before = λ c _ need. idle_shut _ 65535 before c need;
      made = (idle_births _ 65535 before).made ∙ ap suc before.made;
      box = 0;
      lives = last_lives _ 65535 before refl;
      both = record { sends = last_sends _ 65535 before refl; receives = last_receives _ 65535 before refl };
    }
  where
    before : Idle (run (round (start small) (id_of 0 1)) (rounds 2 65534)) 65535
    before = idle_rounds (round (start small) (id_of 0 1)) 1 65534 (idle_round (start small) 0 idle_start)
