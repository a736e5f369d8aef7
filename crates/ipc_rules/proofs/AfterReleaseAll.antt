-- Release of a list of slots, `released_all`: each mailbox's holds go down by the slots that held it, and who waits on an ephemeral
-- mailbox that is left without holds is woken; no other wait ends. Assumes nothing.
use mathlib.Core.Path.{◌≡◌, refl, sym, ap, ◌∙◌}
use mathlib.Core.Bool.{true}
use mathlib.Core.List.{List, [], ◌∷◌, ◌++◌}
use mathlib.Core.List.Memᴰ
use mathlib.Core.List.{Memᴰ}
use mathlib.Core.Logic.{◌⊎◌, inl, inr, ⊎_elim}
use Prim.Native.Nat.{ℕ, ◌+◌, ◌-◌, ◌<◌, ◌≤◌}
use native.Mathlib.Omega.{arith}
use lib.ListN.{length, length-append}
use Rattle.laws.proofs.Cases.{not_both}
use Rattle.cap.specs.declared.slot.Slot.{Slot}
use Rattle.ipc_rules.specs.State.{nobody, mailbox_live}
use Rattle.ipc_rules.specs.Sound.{Sound}
use Rattle.ipc_rules.specs.Opening.{hold_of}
use Rattle.ipc_rules.specs.Holds.{released, released_all, Freed}
use Rattle.ipc_rules.specs.Views.{queue_of, waiter_of, hold_count, ephemeral_of, held_by, held_in, Alike, Steady}
use Rattle.ipc_rules.specs.declared.state.Waiter.{Waiter}
use Rattle.ipc_rules.specs.declared.state.Table.{Table}
use Rattle.ipc_rules.specs.declared.opening.Opening.TheVariants.{Opens}
use Rattle.ipc_rules.proofs.KeepsCalls.{released_kept}
use Rattle.laws.proofs.Bools.{same?}
use Rattle.ipc_rules.proofs.Held.{held_none, held_one, held_other, held_steady}
use Rattle.ipc_rules.proofs.Changes.{alike_same, steady_same, steady_then}
use Rattle.ipc_rules.proofs.AfterRelease.{ReleaseWays, skipped, kept, woke, release_ways, release_steady, release_counts}

-- what a release leaves of mailbox k, and how its holds go down, by n
pub record ReleasedAt (t : Table) (k n : ℕ) (r : Freed) : Type 0 where
  pub holds : hold_count r.table k ≡ hold_count t k - n
  pub queue : queue_of r.table k ≡ queue_of t k
  pub live : mailbox_live r.table k ≡ mailbox_live t k
  pub ephemeral : ephemeral_of r.table k ≡ ephemeral_of t k
  -- the waiter stays where holds are left or the mailbox is not ephemeral, and is woken otherwise
  pub stays : ((waiter_of t k).present ≡ true → ephemeral_of t k ≡ true → 0 < hold_count r.table k) → waiter_of r.table k ≡ waiter_of t k
  pub gone : (waiter_of t k).present ≡ true → ephemeral_of t k ≡ true → hold_count r.table k ≡ 0 → waiter_of r.table k ≡ nobody
  pub woken : (waiter_of t k).present ≡ true → ephemeral_of t k ≡ true → hold_count r.table k ≡ 0 → Memᴰ (waiter_of t k) r.woken

-- w waited on an ephemeral mailbox that is left without holds
pub record Woken (t : Table) (r : Freed) (w : Waiter) : Type 0 where
  pub box : ℕ
  pub was : w ≡ waiter_of t box
  pub waits : w.present ≡ true
  pub ephemeral : ephemeral_of t box ≡ true
  pub none_left : hold_count r.table box ≡ 0
  pub gone : waiter_of r.table box ≡ nobody

pub record ReleasedIn (t : Table) (xs : List Slot) (r : Freed) : Type 0 where
  pub mailboxes : (k : ℕ) → ReleasedAt t k (held_in t k xs) r
  pub only : (w : Waiter) → Memᴰ w r.woken → Woken t r w
  pub few : length r.woken ≤ length xs
  pub steady : Steady t r.table
  pub counts : r.table.counters.refusals ≡ t.counters.refusals

-- ---- one slot, seen from mailbox k
record Reaped (t : Table) (k : ℕ) (r : Freed) : Type 0 where
  pub none_left : hold_count r.table k ≡ 0
  pub ephemeral : ephemeral_of t k ≡ true
  pub waits : (waiter_of t k).present ≡ true
  pub gone : waiter_of r.table k ≡ nobody
  pub woken : Memᴰ (waiter_of t k) r.woken

-- the waiter stays, or it is reaped
abbrev StaysOr : Table → ℕ → Freed → Type 0
StaysOr t k r = (waiter_of r.table k ≡ waiter_of t k) ⊎ Reaped t k r

record OneAt (t : Table) (k n : ℕ) (r : Freed) : Type 0 where
  pub holds : hold_count r.table k ≡ hold_count t k - n
  pub queue : queue_of r.table k ≡ queue_of t k
  pub live : mailbox_live r.table k ≡ mailbox_live t k
  pub ephemeral : ephemeral_of r.table k ≡ ephemeral_of t k
  pub waiter : StaysOr t k r

at_other : {t : Table} {k : ℕ} {r : Freed} → Alike t r.table k → OneAt t k 0 r
at_other {t} {k} a =
    let e : hold_count t k ≡ hold_count t k - 0 = omega arith in
    record { holds = a.holds ∙ e; queue = a.queue; live = a.live; ephemeral = a.ephemeral; waiter = inl a.waiter }

one_at : (t : Table) (x : Slot) (k : ℕ) (r : Freed) → ReleaseWays t x r → OneAt t k (held_by t k x) r
one_at t x k r (skipped o q) = rw (held_none t k x o) (at_other (rw q (alike_same t k)))
one_at t x k r (kept j o _ c w _) =
    ⊎_elim (λ e. let o' : hold_of t x ≡ Opens k = rw e o in
    rw (held_one t k x o')
    (record { holds = rw e c.holds; queue = rw e c.queue; live = rw e c.live; ephemeral = rw e c.ephemeral; waiter = inl (rw e w) }))
    (λ ne. rw (held_other t k x j o ne) (at_other (c.rest.others k ne))) (same? k j)
one_at t x k r (woke j o p c w q) =
    ⊎_elim (λ e. let o' : hold_of t x ≡ Opens k = rw e o in
    rw (held_one t k x o')
    (record {
      holds = rw e c.holds;
      queue = rw e c.queue;
      live = rw e c.live;
      ephemeral = rw e c.ephemeral;
      waiter = inr (record { none_left = rw e (c.holds ∙ p.none_left); ephemeral = rw e p.ephemeral; waits = rw e p.waits; gone = rw e w; woken = rw (e, q) (Memᴰ.head refl) });
    }))
    (λ ne. rw (held_other t k x j o ne) (at_other (c.rest.others k ne))) (same? k j)

-- ---- one slot, then the rest
nobody_waits : {A : Type 0} {w : Waiter} → w ≡ nobody → w.present ≡ true → A
nobody_waits e p = absurd (not_both _ p (ap (λ (w : Waiter). w.present) e))

abbrev both : Freed → Freed → Freed
both r rest = record { table = rest.table; woken = r.woken ++ rest.woken }

module _ (t : Table) (r rest : Freed) where
  at_then : (k a b : ℕ) → OneAt t k a r → ReleasedAt r.table k b rest → ReleasedAt t k (a + b) (both r rest)
  at_then k a b p q =
      record {
        holds = let h = p.holds in let h' = q.holds in omega arith;
        queue = q.queue ∙ p.queue;
        live = q.live ∙ p.live;
        ephemeral = q.ephemeral ∙ p.ephemeral;
        stays = λ h. by_stays h p.waiter;
        gone = λ w e z. by_gone w e z p.waiter;
        woken = λ w e z. by_woken w e z p.waiter;
      }
    where
      by_stays : ((waiter_of t k).present ≡ true → ephemeral_of t k ≡ true → 0 < hold_count rest.table k) → StaysOr t k r → waiter_of rest.table k ≡ waiter_of t k
      by_stays h (inl e) = q.stays (λ w f. h (rw (← e) w) (rw (← p.ephemeral) f)) ∙ e
      by_stays h (inr x) = let l = h x.waits x.ephemeral in let z = x.none_left in let z' = q.holds in absurd (omega arith)

      by_gone : (waiter_of t k).present ≡ true → ephemeral_of t k ≡ true → hold_count rest.table k ≡ 0 → StaysOr t k r → waiter_of rest.table k ≡ nobody
      by_gone w f z (inl e) = q.gone (rw e w) (rw p.ephemeral f) z
      by_gone w f z (inr x) = q.stays (λ w' _. nobody_waits x.gone w') ∙ x.gone

      by_woken : (waiter_of t k).present ≡ true → ephemeral_of t k ≡ true → hold_count rest.table k ≡ 0 → StaysOr t k r → Memᴰ (waiter_of t k) (r.woken ++ rest.woken)
      by_woken w f z (inl e) = Memᴰ.append_right r.woken (Memᴰ.cast (sym e) (q.woken (rw e w) (rw p.ephemeral f) z))
      by_woken w f z (inr x) = Memᴰ.append_left rest.woken x.woken

  -- who is woken by the first slot, and who by the rest
  woken_first : (x : Slot) (xs : List Slot) (w : Waiter) → ReleaseWays t x r → ReleasedIn r.table xs rest → Memᴰ w r.woken → Woken t (both r rest) w
  woken_first x xs w (skipped _ q) i m = absurd (Memᴰ.not-nil (rw (ap (λ (f : Freed). f.woken) q) at m))
  woken_first x xs w (kept _ _ _ _ _ q) i m = absurd (Memᴰ.not-nil (rw q at m))
  woken_first x xs w (woke j _ p c g q) i m =
      let e : w ≡ waiter_of t j = Memᴰ.eq_of_singleton (rw q at m) in
      let a = i.mailboxes j in
      record {
        box = j;
        was = e;
        waits = rw e p.waits;
        ephemeral = p.ephemeral;
        none_left = let h = a.holds in let h' = c.holds in let z = p.none_left in omega arith;
        gone = a.stays (λ w' _. nobody_waits g w') ∙ g;
      }

  woken_rest : (w : Waiter) (n : ℕ) (y : Woken r.table rest w) → OneAt t y.box n r → Woken t (both r rest) w
  woken_rest w n y a = by a.waiter
    where
      by : StaysOr t y.box r → Woken t (both r rest) w
      by (inl e) =
          record { box = y.box; was = y.was ∙ e; waits = y.waits; ephemeral = sym a.ephemeral ∙ y.ephemeral; none_left = y.none_left; gone = y.gone }
      by (inr z) = nobody_waits (y.was ∙ z.gone) y.waits

  woken_few : (x : Slot) → ReleaseWays t x r → length r.woken ≤ 1
  woken_few x (skipped _ q) = rw q (omega arith)
  woken_few x (kept _ _ _ _ _ q) = rw q (omega arith)
  woken_few x (woke _ _ _ _ _ q) = rw q (omega arith)

-- ---- the list
pub released_in : (t : Table) (xs : List Slot) → Sound t → ReleasedIn t xs (released_all t xs)
unfolding released_all held_in
released_in t [] s =
    record {
      mailboxes = λ k. let e : hold_count t k ≡ hold_count t k - 0 = omega arith in
          record {
            holds = e;
            queue = refl;
            live = refl;
            ephemeral = refl;
            stays = λ _. refl;
            gone = λ w f z. let l = s.waits_held k w f in absurd (omega arith);
            woken = λ w f z. let l = s.waits_held k w f in absurd (omega arith);
          };
      only = λ w m. absurd (Memᴰ.not-nil m);
      few = omega arith;
      steady = steady_same t;
      counts = refl;
    }
released_in t (x ∷ xs) s =
    let r = released t x in
    let ways = release_ways t x s in
    let a = release_steady t x s in
    let i = released_in r.table xs (released_kept t x s) in
    let rest = released_all r.table xs in
    record {
      mailboxes = λ k. at_then t r rest k (held_by t k x) (held_in t k xs) (one_at t x k r ways) (rw (← held_steady t r.table k xs a) (i.mailboxes k));
      only = λ w m.
          ⊎_elim (λ m'. woken_first t r rest x xs w ways i m')
          (λ m'. let y = i.only w m' in woken_rest t r rest w (held_by t y.box x) y (one_at t x y.box r ways))
          (Memᴰ.append_cases r.woken m);
      few = let f = woken_few t r rest x ways in let f' = i.few in rw (length-append r.woken rest.woken) (omega arith);
      steady = steady_then a i.steady;
      counts = i.counts ∙ release_counts t x s;
    }
