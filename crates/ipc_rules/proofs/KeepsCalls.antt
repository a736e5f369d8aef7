-- Each call on messages and holds keeps a sound table sound. Assumes nothing.
use Rattle.std.specs.Prelude.{Option, Result}
use mathlib.Core.Path.{◌≡◌, refl, ap, ◌∙◌}
use mathlib.Core.Bool.{Bool, true, false, ◌&&◌}
use mathlib.Core.List.{List, [], ◌∷◌}
use Prim.Native.Nat.{ℕ, zero, suc, ◌-◌, ◌<◌, ◌≤◌}
use native.Mathlib.Omega.{arith}
use borrow.Author.Tests.{eqb-false, ltb-true, ltb-false}
use lib.Dec.{eqb}
use Rattle.laws.proofs.Cases.{all_pick, not_both}
use Rattle.laws.proofs.Every.{and_both}
use Rattle.cap.specs.Rights.{send_right, receive_right}
use Rattle.cap.specs.declared.CapId.{CapId}
use Rattle.cap.specs.declared.slot.Slot.{Slot}
use Rattle.ring.proofs.Rings.{room, put_in_is, taken_out_is}
use Rattle.ipc_rules.specs.State.{nobody, stamped, mailbox_at, mailbox_live, with_waiter}
use Rattle.ipc_rules.specs.Sound.{Sound}
use Rattle.ipc_rules.specs.Counts.{raised}
use Rattle.ipc_rules.specs.Send.{send_of, filled}
use Rattle.ipc_rules.specs.Receive.{recv_of, park_of, drained, taken_from}
use Rattle.ipc_rules.specs.Holds.{registered, registered_all, released, released_all, more, fewer, reaps, Freed}
use Rattle.ipc_rules.specs.declared.state.Mailbox.{Mailbox}
use Rattle.ipc_rules.specs.declared.state.Payload.{Payload}
use Rattle.ipc_rules.specs.declared.state.TaskId.{TaskId}
use Rattle.ipc_rules.specs.declared.state.Table.{Table}
use Rattle.ipc_rules.proofs.Openings.{all_opened, opens_live, hold_opens, box_same}
use Rattle.ipc_rules.proofs.Keeps.{Fits, counts_kept, mailbox_kept, message_kept}
use Rattle.ipc_rules.specs.declared.state.Waiter.{Waiter}
use Rattle.ipc_rules.specs.declared.answers.SendError.{SendError}
use Rattle.shown.specs.declared.Answered.{Answered}
use Rattle.ipc_rules.specs.declared.state.Message.{Message}
use Rattle.ipc_rules.specs.declared.answers.RecvError.{RecvError}
use Rattle.ipc_rules.specs.declared.answers.ParkError.{ParkError}

-- ---- rings
-- what a live mailbox of a sound table is
pub fits : (t : Table) (k : ℕ) → Sound t → mailbox_live t k ≡ true → Fits t.sizes.depth (mailbox_at t k)
fits t k s l = record { live = l; ring = s.ring k l; waits_empty = s.waits_empty k; waits_held = s.waits_held k }

filled_fits : (d : ℕ) (b : Mailbox) → (b.ring.len ≡ d → ⊥) → Fits d b → Fits d (filled d b)
filled_fits d b full f =
    record {
      live = f.live;
      ring = put_in_is d b.ring (room d b.ring f.ring full) f.ring;
      waits_empty = λ w. absurd (not_both false w refl);
      waits_held = λ w _. absurd (not_both false w refl);
    }

drained_fits : (d : ℕ) (b : Mailbox) → 0 < b.ring.len → Fits d b → Fits d (drained d b)
drained_fits d b some f =
    record {
      live = f.live;
      ring = taken_out_is d b.ring some f.ring;
      waits_empty = λ w. let e = f.waits_empty w in absurd (omega arith);
      waits_held = f.waits_held;
    }

some : (n : ℕ) → (n ≡ 0 → ⊥) → 0 < n
some zero h = absurd (h refl)
some (suc n) h = omega arith

-- an ephemeral mailbox that gives no Cancelled has holds
pub uncancelled : (a : Bool) (n : ℕ) → (a && eqb n 0) ≡ false → a ≡ true → 0 < n
uncancelled true n h e = some n (eqb-false n 0 h)
uncancelled false n h e = absurd (not_both false e refl)

-- ---- the calls
pub send_kept : (t : Table) (c : CapId) (p : Payload) (row : ℕ) → Sound t → Sound (send_of t c p row).table
unfolding send_of
send_kept t c p row s =
    all_pick (λ (r : Answered (Result Waiter SendError) Table). Sound r.table) _ _ _ (λ _. s) (λ _.
    all_opened (λ (r : Answered (Result Waiter SendError) Table). Sound r.table) _ _ _ (λ _. counts_kept t _ s) (λ k o.
    all_pick (λ (r : Answered (Result Waiter SendError) Table). Sound r.table) _ _ _ (λ _. counts_kept t _ s) (λ h.
    let l = opens_live t c send_right k s o in
    let f = fits t k s l in
    message_kept _ k (mailbox_at t k).ring.head (stamped p row) (mailbox_kept t k _ s l (filled_fits _ _ (eqb-false _ _ h) f)) (ap (λ (b : Mailbox). b.live) (box_same t k _ s l) ∙ l) f.ring.head)))

pub taken_kept : (t : Table) (k : ℕ) → Sound t → mailbox_live t k ≡ true → 0 < (mailbox_at t k).ring.len → Sound (taken_from t k)
taken_kept t k s l some = mailbox_kept t k _ s l (drained_fits _ _ some (fits t k s l))

pub recv_kept : (t : Table) (c : CapId) → Sound t → Sound (recv_of t c).table
unfolding recv_of
recv_kept t c s =
    all_opened (λ (r : Answered (Result Message RecvError) Table). Sound r.table) _ _ _ (λ _. counts_kept t _ s) (λ k o.
    all_pick (λ (r : Answered (Result Message RecvError) Table). Sound r.table) _ _ _ (λ _. s) (λ h.
    taken_kept t k s (opens_live t c receive_right k s o) (some _ (eqb-false _ _ h))))

pub park_kept : (t : Table) (c : CapId) (task : TaskId) → Sound t → Sound (park_of t c task).table
unfolding park_of
park_kept t c task s =
    all_opened (λ (r : Answered (Result (Option Message) ParkError) Table). Sound r.table) _ _ _ (λ _. counts_kept t _ s) (λ k o.
    let l = opens_live t c receive_right k s o in
    all_pick (λ (r : Answered (Result (Option Message) ParkError) Table). Sound r.table) _ _ _ (λ q. taken_kept t k s l (ltb-true _ _ q)) (λ q.
    all_pick (λ (r : Answered (Result (Option Message) ParkError) Table). Sound r.table) _ _ _ (λ _. s) (λ h.
    all_pick (λ (r : Answered (Result (Option Message) ParkError) Table). Sound r.table) _ _ _ (λ _. counts_kept t _ s) (λ _.
    let f = fits t k s l in
    let e : (mailbox_at t k).ring.len ≤ 0 = ltb-false 0 (mailbox_at t k).ring.len q in
    mailbox_kept t k _ s l (record { live = f.live; ring = f.ring; waits_empty = λ _. omega arith; waits_held = λ _ a. uncancelled _ _ h a })))))

-- ---- holds
raised_some : (n : ℕ) → 0 < raised n
unfolding raised
raised_some n = all_pick (λ m. 0 < m) _ _ _ (λ _. omega arith) (λ _. omega arith)

more_fits : (d : ℕ) (b : Mailbox) → Fits d b → Fits d (more b)
more_fits d b f =
    record {
      live = f.live;
      ring = f.ring;
      waits_empty = f.waits_empty;
      waits_held = λ w a. let h = f.waits_held w a in raised_some b.send_holders;
    }

-- with one hold less, a mailbox that does not reap stays fit, and one that reaps is fit without its waiter
fewer_fits : (d : ℕ) (b : Mailbox) → Fits d b → reaps (fewer b) ≡ false → Fits d (fewer b)
fewer_fits d b f h =
    record {
      live = f.live;
      ring = f.ring;
      waits_empty = f.waits_empty;
      waits_held = unreaped (b.send_holders - 1) b.ephemeral b.waiter.present h;
    }
  where
    unreaped : (n : ℕ) (a w : Bool) → (eqb n 0 && a && w) ≡ false → w ≡ true → a ≡ true → 0 < n
    unreaped zero a w h p q = absurd (not_both (a && w) (and_both a w q p) h)
    unreaped (suc n) a w h p q = omega arith

reaped_fits : (d : ℕ) (b : Mailbox) → Fits d b → Fits d (with_waiter (fewer b) nobody)
reaped_fits d b f =
    record {
      live = f.live;
      ring = f.ring;
      waits_empty = λ w. absurd (not_both false w refl);
      waits_held = λ w _. absurd (not_both false w refl);
    }

pub registered_kept : (t : Table) (x : Slot) → Sound t → Sound (registered t x)
unfolding registered
registered_kept t x s =
    all_opened Sound _ _ _ (λ _. s) (λ k o.
    let l = opens_live t x.id send_right k s (hold_opens t x k o).1 in
    mailbox_kept t k _ s l (more_fits _ _ (fits t k s l)))

pub released_kept : (t : Table) (x : Slot) → Sound t → Sound (released t x).table
unfolding released
released_kept t x s =
    all_opened (λ (r : Freed). Sound r.table) _ _ _ (λ _. s) (λ k o.
    let l = opens_live t x.id send_right k s (hold_opens t x k o).1 in
    let f = fits t k s l in
    all_pick (λ (r : Freed). Sound r.table) _ _ _ (λ _. mailbox_kept t k _ s l (reaped_fits _ _ f))
    (λ h. mailbox_kept t k _ s l (fewer_fits _ _ f h)))

pub registered_all_kept : (t : Table) (xs : List Slot) → Sound t → Sound (registered_all t xs)
unfolding registered_all
registered_all_kept t [] s = s
registered_all_kept t (x ∷ xs) s = registered_all_kept (registered t x) xs (registered_kept t x s)

pub released_all_kept : (t : Table) (xs : List Slot) → Sound t → Sound (released_all t xs).table
unfolding released_all
released_all_kept t [] s = s
released_all_kept t (x ∷ xs) s = released_all_kept (released t x).table xs (released_kept t x s)
