-- A parked task waits until the first call that ends its wait, and that call names or clears it. Assumes nothing.
use mathlib.Core.Path.{◌≡◌, refl, sym, ap, ◌∙◌}
use mathlib.Core.Bool.{Bool, true, false}
use mathlib.Core.List.{List, [], ◌∷◌}
use mathlib.Core.Logic.{◌⊎◌, inl, inr, ⊎_elim}
use Prim.Native.Nat.{ℕ}
use native.Mathlib.Omega.{arith}
use Rattle.laws.proofs.Bools.{either}
use Rattle.laws.proofs.Cases.{not_both}
use Rattle.cap.specs.Rights.{receive_right}
use Rattle.ipc_rules.specs.State.{nobody, mailbox_live, waiting}
use Rattle.ipc_rules.specs.Receive.{park_of}
use Rattle.ipc_rules.specs.Views.{waiter_of}
use Rattle.ipc_rules.specs.declared.state.TaskId.{TaskId}
use Rattle.ipc_rules.specs.declared.state.Waiter.{Waiter}
use Rattle.ipc_rules.specs.declared.state.Table.{Table}
use Rattle.ipc_rules.proofs.Openings.{opens_live}
use Rattle.ipc_rules.proofs.AfterPark as park
use Rattle.history.specs.Calls as call
use Rattle.history.specs.Calls.{Call, answer, after}
use Rattle.history.specs.World.{World, step, run, Reached, then}
use Rattle.history.specs.Channels.{LivesIn}
use Rattle.history.specs.Waits.{Waits, ends, Ended, Quiet, none, more, First, NamedFirst, Fate, waits, ended, ParkedOn, ParkedNamed}
use Rattle.history.proofs.Kept.{step_table}
use Rattle.history.proofs.Steps.{StepWays, settles, births, step_ways}
use Rattle.history.proofs.Tidy.{Tidy, step_grows, reached_tidy}
use Rattle.history.proofs.Lives.{step_lived}
use Rattle.history.proofs.WaitsCalls.{Outcome, stays, gone, outcome}

-- ---- an outcome by its test
module _ {t u : Table} {k : ℕ} {A : Type 0} where
  unended : {f : Bool} → Outcome t u k A f → f ≡ false → (mailbox_live u k ≡ mailbox_live t k) × (waiter_of u k ≡ waiter_of t k)
  unended (stays l e) _ = (l, e)
  unended (gone _ _) z = absurd (not_both true refl z)

  at_end : {f : Bool} → Outcome t u k A f → f ≡ true → (waiter_of u k ≡ nobody) × A
  at_end (stays _ _) z = absurd (not_both false z refl)
  at_end (gone e a) _ = (e, a)

-- ---- one call
-- a mailbox that lives keeps its tenant
tenant_kept : (w : World) (c : Call) (k : ℕ) → Tidy w → mailbox_live w.table k ≡ true → (step w c).tenant k ≡ w.tenant k
tenant_kept w c k τ l = by (step_ways w c τ.sound)
  where
    by : {v : World} → StepWays w c v → v.tenant k ≡ w.tenant k
    by (settles _ q) = ap (λ (v : World). v.tenant k) q
    by (births b j s r _ β) = β.others k (λ e. not_both _ l (ap (mailbox_live w.table) e ∙ β.makes.took.box_dead))

module _ (w : World) (τ : Tidy w) (n k : ℕ) (x : TaskId) (h : Waits w n k x) (c : Call) where
  waits_on_lem : ends w n k x c ≡ false → Waits (step w c) n k x
  waits_on_lem e =
      let o = unended (outcome w τ n k x h c) e in
      record {
        lives = record { live = rw (step_table w c) (o.0 ∙ h.lives.live); tenant = tenant_kept w c k τ h.lives.live ∙ h.lives.tenant };
        waiter = rw (step_table w c) (o.1 ∙ h.waiter);
      }

  -- the channel lives afterwards where it lived
  stays_in : (j : ℕ) → LivesIn (step w c) n j → j ≡ k
  stays_in j y =
      let l = h.lives in
      let p = τ.last k l.live in
      let e = l.tenant in
      let was = (step_lived w c n j τ (omega arith) y).lives in
      τ.single j k was.live l.live (was.tenant ∙ sym l.tenant)

  ends_it : ends w n k x c ≡ true → Ended w n k x c
  ends_it e =
      let o = at_end (outcome w τ n k x h c) e in
      record {
        named = o.1;
        over = λ j y.
            let l : waiter_of (after w.table c) k ≡ waiting x = sym (ap (waiter_of (after w.table c)) (stays_in j y.lives)) ∙ ap (λ (u : Table). waiter_of u j) (sym (step_table w c)) ∙ y.waiter in
            not_both false (ap (λ (z : Waiter). z.present) (sym o.0 ∙ l)) refl;
      }

-- ---- runs
through : (w : World) → Tidy w → (n k : ℕ) (x : TaskId) → Waits w n k x → {cs : List Call} → Quiet w n k x cs → Tidy (run w cs) × Waits (run w cs) n k x
unfolding run
through w τ n k x h none = (τ, h)
through w τ n k x h (more {c = c} e q) = through (step w c) (step_grows w c τ).tidy n k x (waits_on_lem w τ n k x h c e) q

pub named_first : NamedFirst
named_first w r n k x h cs q =
    let a = through w (reached_tidy r) n k x h q in
    (a.1, λ c. ends_it (run w cs) a.0 n k x a.1 c)

-- a run is quiet, or a call of it is the first to end the wait
pub quiet_or_first : (w : World) (n k : ℕ) (x : TaskId) (cs : List Call) → Quiet w n k x cs ⊎ First w n k x cs
unfolding run
quiet_or_first w n k x [] = inl none
quiet_or_first w n k x (c ∷ cs) =
    ⊎_elim (λ e. inr (record { before = []; call = c; behind = cs; split = refl; quiet = none; ender = e }))
    (λ e. ⊎_elim (λ q. inl (more e q)) (λ f.
    inr (record { before = c ∷ f.before; call = f.call; behind = f.behind; split = ap (λ (ds : List Call). c ∷ ds) f.split; quiet = more e f.quiet; ender = f.ender }))
    (quiet_or_first (step w c) n k x cs)) (either (ends w n k x c))

fate : (w : World) → Reached w → (n k : ℕ) (x : TaskId) → Waits w n k x → (cs : List Call) → Fate w n k x cs
fate w r n k x h cs =
    ⊎_elim (λ q. waits q (named_first w r n k x h cs q).0) (λ f. ended f ((named_first w r n k x h f.before f.quiet).1 f.call f.ender))
    (quiet_or_first w n k x cs)

-- ---- from the park on
pub parked_named : ParkedNamed
unfolding answer after
parked_named w r c x e = by (park.park_ways w.table c x (reached_tidy r).sound)
  where
    by : park.ParkWays w.table c x (park_of w.table c x) → ParkedOn w c x
    by (park.bad_cap _ q) = let z : ◌≡◌ {A = ℕ} 0 1 = cc in absurd (omega arith)
    by (park.given _ m _ a _) = let z : ◌≡◌ {A = ℕ} 0 1 = cc in absurd (omega arith)
    by (park.cancelled _ _ _ _ _ q) = let z : ◌≡◌ {A = ℕ} 0 1 = cc in absurd (omega arith)
    by (park.busy _ _ _ _ _ q) = let z : ◌≡◌ {A = ℕ} 0 1 = cc in absurd (omega arith)
    by (park.parked k o _ _ p) =
        let l = opens_live w.table c receive_right k (reached_tidy r).sound o in
        let y : Waits (step w (call.park c x)) (w.tenant k) k x =
        record {
          lives = record { live = rw (step_table w (call.park c x)) (p.live ∙ l); tenant = tenant_kept w (call.park c x) k (reached_tidy r) l };
          waiter = rw (step_table w (call.park c x)) p.waiter;
        } in
        record { box = k; opens = o; waits = y; fate = fate (step w (call.park c x)) (then r (call.park c x)) (w.tenant k) k x y }
