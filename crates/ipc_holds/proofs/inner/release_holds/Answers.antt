-- `ipc_holds::inner::release_holds` meets its contract. The loop's invariant: the table is sound, the waiters answered so far stand first, and
-- releasing what is left of the slots in it gives, after them, what releasing all four gives. Assumes nothing.
use Rattle.std.specs.Prelude.{Ok}
use mathlib.Core.Path.{◌≡◌, refl, sym, ap, ◌∙◌}
use mathlib.Core.Bool.{true, false}
use mathlib.Core.List.{List, [], ◌∷◌, ◌++◌, append_assoc, append-nil}
use Prim.Native.Nat.{ℕ, suc, ◌+◌, ◌≤◌, ◌<◌}
use native.Mathlib.Numerals.{add-one}
use native.Mathlib.Omega.{arith}
use borrow.Author.Rules.{rules}
use borrow.Author.Tests.{not-true, not-false}
use lib.ListN.{length, get_or, set, drop, drop_of_length-le, length-append}
use lib.Seq.{drop-cons}
use Rattle.laws.proofs.Cases.{yes, no}
use Rattle.laws.proofs.Lists.{unmapped}
use Rattle.cap.specs.Slot.{vacant_slot}
use Rattle.cap.specs.declared.slot.Slot.{Slot}
use Rattle.ipc_rules.specs.State.{nobody, mailbox_at, with_mailbox, with_waiter}
use Rattle.ipc_rules.specs.Opening.{hold_of}
use Rattle.ipc_rules.specs.Holds.{Freed, fewer, reaps, released, released_all, four_of, release_of}
use Rattle.ipc_rules.specs.declared.state.Mailbox.{Mailbox}
use Rattle.ipc_rules.specs.declared.state.Waiter.{Waiter}
use Rattle.ipc_rules.specs.declared.state.Table.{Table}
use Rattle.ipc_rules.specs.declared.opening.Opening.{Opening}
use Rattle.ipc_rules.specs.declared.opening.Opening.TheVariants.{Opens, Shut}
use Rattle.ipc_rules.specs.declared.answers.Releasing.{Releasing}
use Rattle.ipc_rules.proofs.Openings.{shut, opens, hold_gave, hold_vacant}
use Rattle.ipc_rules.proofs.KeepsCalls.{released_kept}
use Rattle.ipc_holds.proofs.inner.release_holds.Invariants.{Releases}
use Rattle.ipc_holds.proofs.inner.release_holds.Goals as goal
use Rattle.ipc_holds.proofs.inner.release_holds.Goals.{After-open, In-Opens, In-loop-slot, then-reaps, else-reaps}

-- a slot is left
left : (c : In-loop-slot) → c.loop-slot.slot-index < length c.args.slots
left c = let four : length c.args.slots ≡ 4 = search (rules, unmapped) in omega arith

-- what `open` gave is what the rule asks of a slot that is not vacant
gave : (c : After-open) → c.open.result ≡ hold_of c.loop-slot.t (get_or c.args.slots c.loop-slot.slot-index vacant_slot)
gave c = hold_gave _ _ _ c.loop-slot.invariant.sound _ (not-false _ c.if-not-slot.false) c.index-i.ensures c.open.ensures

-- a turn: the next slot is released, and what that wakes stands after the waiters so far
module _ {t₀ : Table} {xs : List Slot} {n : ℕ} {t : Table} {waiters : List Waiter} {woken : ℕ} (r : Releases t₀ xs n t waiters woken) (x : Slot) (l : n < length xs) (e : x ≡ get_or xs n vacant_slot) where
  turn : (f : Freed) {waiters' : List Waiter} {woken' : ℕ} → f ≡ released t x → length f.woken ≤ 1 → waiters' ≡ four_of (r.so_far ++ f.woken) → woken' ≡ length (r.so_far ++ f.woken) → Releases t₀ xs (n + 1) f.table waiters' woken'
  unfolding released_all
  turn f h small p m =
      let c : drop n xs ≡ x ∷ drop (suc n) xs = drop-cons xs n vacant_slot l ∙ ap (λ (y : Slot). y ∷ drop (suc n) xs) (sym e) in
      record {
        sound = rw h (released_kept t x r.sound);
        so_far = r.so_far ++ f.woken;
        table = rw (h, add-one n) (rw c at r.table);
        all = rw (h, add-one n, append_assoc) (rw c at r.all);
        places = p;
        many = m;
        few = let k = r.few in rw length-append (omega arith);
      }

  -- a slot that holds no send end
  skipped : {q : Opening} → q ≡ hold_of t x → q ≡ Shut → Releases t₀ xs (n + 1) t waiters woken
  unfolding released
  skipped g z = turn (record { table = t; woken = [] }) (shut _ g z refl) (omega arith) (rw append-nil r.places) (rw append-nil r.many)

  -- one that holds a send end whose mailbox does not reap, and one whose mailbox does
  module _ (k : ℕ) (b : Mailbox) {q : Opening} (g : q ≡ hold_of t x) (z : q ≡ Opens k) (h : b ≡ fewer (mailbox_at t k)) where
    kept : reaps b ≡ false → Releases t₀ xs (n + 1) (with_mailbox t k b) waiters woken
    unfolding released
    kept u = turn (record { table = with_mailbox t k b; woken = [] }) (opens _ _ k g z (no _ (rw h at u) (rw h))) (omega arith) (rw append-nil r.places) (rw append-nil r.many)

    reaped : reaps b ≡ true → woken < 4 → Releases t₀ xs (n + 1) (with_mailbox t k (with_waiter b nobody)) (set waiters woken b.waiter) (woken + 1)
    unfolding released
    reaped u small =
        turn (record { table = with_mailbox t k (with_waiter b nobody); woken = b.waiter ∷ [] }) (opens _ _ k g z (yes _ (rw h at u) (rw h))) (omega arith)
        (rw (r.places, r.many) (next r.so_far b.waiter (rw r.many at small)))
        (rw (length-append, r.many))
      where
        next : (ws : List Waiter) (w : Waiter) → length ws < 4 → set (four_of ws) (length ws) w ≡ four_of (ws ++ (w ∷ []))
        next [] w h = refl
        next (a ∷ []) w h = refl
        next (a ∷ c ∷ []) w h = refl
        next (a ∷ c ∷ d ∷ []) w h = refl
        next (a ∷ c ∷ d ∷ e ∷ ws) w h = absurd (omega arith)

done : (t₀ : Table) (xs : List Slot) (n : ℕ) {t : Table} {waiters : List Waiter} {woken : ℕ} → length xs ≤ n → Releases t₀ xs n t waiters woken → ◌≡◌ {A = Releasing} (record { answer = Ok tt; waiters = waiters; table = t }) (release_of t₀ xs)
unfolding release_of released_all
done t₀ xs n {t} {waiters} {woken} l r =
    let z = drop_of_length-le xs l in
    let p : t ≡ (released_all t₀ xs).table = rw z at r.table in
    let w : r.so_far ≡ (released_all t₀ xs).woken = rw append-nil at (rw z at r.all) in
    rw (r.places, w, p)

pub loop-slot-preserved-then-not-slot : goal.loop-slot-preserved-then-not-slot
loop-slot-preserved-then-not-slot c =
    skipped c.loop-slot.invariant _ (left (goal.at.loop-slot-preserved-then-not-slot c).In-loop-slot) refl (hold_vacant _ _ (not-true _ c.if-not-slot.true)) refl

pub loop-slot-preserved-in_default : goal.loop-slot-preserved-in_default
loop-slot-preserved-in_default c =
    skipped c.loop-slot.invariant _ (left (goal.at.loop-slot-preserved-in_default c).In-loop-slot) refl (gave (goal.at.loop-slot-preserved-in_default c).After-open) c.in_default.is

pub loop-slot-preserved : goal.loop-slot-preserved
loop-slot-preserved c =
    let i = c.loop-slot.invariant in
    let l = left (goal.at.loop-slot-preserved c).In-loop-slot in
    let g = gave (goal.at.loop-slot-preserved c).After-open in
    elim c.if-reaps.branch [
      | then-reaps w ↦ rw (w.t-is, w.waiters-is, w.woken-is) (reaped i _ l refl _ _ g c.in-Opens.is c.fewer.ensures (sym c.reaps.ensures ∙ w.if-reaps.true) (omega (arith, i.few, i.many)))
      | else-reaps w ↦ rw (w.t-is, w.waiters-is, w.woken-is) (kept i _ l refl _ _ g c.in-Opens.is c.fewer.ensures (sym c.reaps.ensures ∙ w.if-reaps.false))
    ]

pub returns : goal.returns
returns c = let four : length c.args.slots ≡ 4 = search (rules, unmapped) in done _ _ _ (omega arith) c.loop-slot.invariant
