-- How long a channel lives: while it does, its ids open it, `ids_stay`; revoked, it lives nowhere again, and they open nothing until
-- their generation comes round, `ids_end`. Assumes nothing.
use Rattle.std.specs.Prelude.{Ok}
use mathlib.Core.Path.{◌≡◌, refl, sym, ap, ◌∙◌}
use mathlib.Core.Bool.{false}
use mathlib.Core.List.{List, [], ◌∷◌}
use mathlib.Core.Logic.{inl}
use Prim.Native.Nat.{ℕ, suc, ◌+◌, ◌≤◌, ◌<◌}
use native.Mathlib.Omega.{arith}
use Rattle.laws.proofs.Cases.{not_both}
use Rattle.cap.specs.declared.CapId.{CapId}
use Rattle.cap.specs.declared.CapRights.{CapRights}
use Rattle.cap.specs.Rights.{send_right, receive_right}
use Rattle.ipc_rules.specs.State.{mailbox_live}
use Rattle.ipc_rules.specs.Opening.{opening_of, any_right_of}
use Rattle.ipc_rules.specs.Revoke.{revoke_of}
use Rattle.ipc_rules.specs.declared.state.Waiter.{Waiter}
use Rattle.ipc_rules.specs.declared.opening.Opening.{Opening}
use Rattle.ipc_rules.specs.declared.opening.Opening.TheVariants.{Opens, Shut}
use Rattle.ipc_rules.proofs.AfterRevoke as revokes
use Rattle.history.specs.Calls.{Call, create, revoke, revoked, answer, after}
use Rattle.history.specs.World.{World, settled, step, run}
use Rattle.history.specs.Channels.{LivesIn}
use Rattle.history.specs.Ids.{IdOf, IdsStay, IdsEnd}
use Rattle.history.proofs.Shrinks.{Shrinks, lived}
use Rattle.history.proofs.Kept.{after_sound, step_table}
use Rattle.history.proofs.Steps.{StepWays, settles, births, step_ways}
use Rattle.history.proofs.Tidy.{Tidy, step_grows}
use Rattle.history.proofs.Ids.{Issued, issued, issued_on, opens_only, ids_open}

-- ---- a step, and a channel that was made before it
-- where the channel lives after the step, it lived before, and what opened it opens it still
pub record Lived (w v : World) (n k : ℕ) : Type 0 where
  pub lives : LivesIn w n k
  pub still : (c : CapId) (need : CapRights) → opening_of w.table c need ≡ Opens k → opening_of v.table c need ≡ Opens k

pub step_lived : (w : World) (call : Call) (n k : ℕ) → Tidy w → n ≤ w.made → LivesIn (step w call) n k → Lived w (step w call) n k
step_lived w call n k τ past = by (step_ways w call τ.sound)
  where
    was : (h : Shrinks w.table (after w.table call)) → LivesIn (settled w (after w.table call)) n k → Lived w (settled w (after w.table call)) n k
    was h x =
        record {
          lives = record { live = lived w.table (after w.table call) τ.sound (after_sound w.table call τ.sound) h k x.live; tenant = x.tenant };
          still = λ c need e. h.still c need k e x.live;
        }

    by : {v : World} → StepWays w call v → LivesIn v n k → Lived w v n k
    by (settles h q) = rw q (was h)
    by {v} (births b j s r _ β) = λ x.
        let other : k ≡ j → ⊥ = λ e. let y = x.tenant in let z : v.tenant k ≡ suc w.made = ap v.tenant e ∙ β.tenant in omega arith in
        record {
          lives = record { live = sym (β.makes.others k other).live ∙ rw (← β.table) x.live; tenant = sym (β.others k other) ∙ x.tenant };
          still = λ c need e. rw β.table (β.makes.openings.still c need k e);
        }

-- ---- while it lives
-- what opens channel n opens it in every world to come where it lives
abbrev Opener : ℕ → CapId → CapRights → World → Type 0
Opener n c need v = (k : ℕ) → LivesIn v n k → opening_of v.table c need ≡ Opens k

run_opens : (w : World) (cs : List Call) (n : ℕ) (c : CapId) (need : CapRights) → Tidy w → n ≤ w.made → Opener n c need w → Opener n c need (run w cs)
unfolding run
run_opens w [] n c need τ past o = o
run_opens w (call ∷ cs) n c need τ past o =
    let a = step_grows w call τ in
    let m = a.more in
    run_opens (step w call) cs n c need a.tidy (omega arith) (λ k x. let y = step_lived w call n k τ past x in y.still c need (o k y.lives))

pub ids_stay : IdsStay
ids_stay w reached b n ids m later k x =
    let v = step w (create b) in
    let now = ids_open w reached b n ids m in
    let i = issued w b n ids ids.send reached m (inl refl) in
    let at : (j : ℕ) → LivesIn v n j → j ≡ now.box = λ j y. i.tidy.single j now.box y.live now.lives.live (y.tenant ∙ sym now.lives.tenant) in
    record {
      sends = run_opens v later n ids.send send_right i.tidy i.past (λ j y. now.both.sends ∙ ap Opens (sym (at j y))) k x;
      receives = run_opens v later n ids.recv receive_right i.tidy i.past (λ j y. now.both.receives ∙ ap Opens (sym (at j y))) k x;
    }

-- ---- once it does not
-- channel n lives nowhere
abbrev pub Gone : World → ℕ → Type 0
Gone v n = (k : ℕ) → LivesIn v n k → ⊥

pub run_gone : (w : World) (cs : List Call) (n : ℕ) → Tidy w → n ≤ w.made → Gone w n → Gone (run w cs) n
unfolding run
run_gone w [] n τ past gone = gone
run_gone w (call ∷ cs) n τ past gone =
    let a = step_grows w call τ in
    let m = a.more in
    run_gone (step w call) cs n a.tidy (omega arith) (λ k x. gone k (step_lived w call n k τ past x).lives)

-- a revocation by an id that opens the mailbox where channel n lives
pub revoke_gone : (v : World) (n k : ℕ) (c : CapId) → Tidy v → any_right_of v.table c ≡ Opens k → v.tenant k ≡ n → Gone (step v (revoke c)) n
unfolding after
revoke_gone v n k c τ o e = by (revokes.revoke_ways v.table c τ.sound)
  where
    by : revokes.RevokeWays v.table c (revoke_of v.table c) → Gone (step v (revoke c)) n
    by (revokes.bad_cap s _) = let z : ◌≡◌ {A = ℕ} 0 1 = cc in absurd (omega arith)
    by (revokes.revoked i s l _ y) = λ j h.
        let same : k ≡ i = cc in
        let here : v.tenant i ≡ n = ap v.tenant (sym same) ∙ e in
        let p = τ.last i l in
        let was = (step_lived v (revoke c) n j τ (omega arith) h).lives in
        let at : j ≡ i = τ.single j i was.live l (was.tenant ∙ sym here) in
        let dead : mailbox_live (step v (revoke c)).table j ≡ false = rw (step_table v (revoke c), at) y.live in
        not_both _ h.live dead

-- an accepted one opens a mailbox
record Revocation (v : World) (c : CapId) : Type 0 where
  box : ℕ
  opens : any_right_of v.table c ≡ Opens box

revocation : (v : World) (c : CapId) (x : Waiter) → Tidy v → answer v.table (revoke c) ≡ revoked (Ok x) → Revocation v c
unfolding answer
revocation v c x τ e = by (revokes.revoke_ways v.table c τ.sound)
  where
    by : revokes.RevokeWays v.table c (revoke_of v.table c) → Revocation v c
    by (revokes.bad_cap _ q) = let z : ◌≡◌ {A = ℕ} 0 1 = cc in absurd (omega arith)
    by (revokes.revoked k o _ _ _) = record { box = k; opens = o }

pub ids_end : IdsEnd
unfolding run
ids_end w reached b n ids m some few c is x e later = record { gone = gone; shut = shut }
  where
    v : World
    v = run (step w (create b)) some

    u : World
    u = run (step v (revoke c)) later

    at : (a : CapId) → IdOf ids a → Issued n a v
    at a h = issued_on n a (step w (create b)) some (issued w b n ids a reached m h)

    gone : Gone u n
    gone =
        let i = at c is in
        let a = step_grows v (revoke c) i.tidy in
        let p = i.past in
        let y = a.more in
        let r = revocation v c x i.tidy e in
        run_gone (step v (revoke c)) later n a.tidy (omega arith) (revoke_gone v n r.box c i.tidy r.opens ((opens_only n c v i few).any r.box r.opens).tenant)

    shut : u.made < n + 65535 → (d : CapId) → IdOf ids d → (need : CapRights) → opening_of u.table d need ≡ Shut
    shut l d of need = by (opening_of u.table d need) refl
      where
        by : (o : Opening) → opening_of u.table d need ≡ o → opening_of u.table d need ≡ Shut
        by Shut q = q
        by (Opens k) q = absurd (gone k ((opens_only n d u (issued_on n d v (revoke c ∷ later) (at d of)) l).by need k q))
