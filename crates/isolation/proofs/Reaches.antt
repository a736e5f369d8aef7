-- Whatever dispatcher calls reach from fresh tables is kept. Assumes nothing.
use Rattle.std.specs.Prelude.{Ok}
use mathlib.Core.Path.{◌≡◌, refl}
use mathlib.Core.Bool.{true, false}
use mathlib.Core.List.{List, [], ◌∷◌}
use Prim.Native.Nat.{ℕ, zero, suc}
use lib.ListN.{get_or, replicate, length}
use Rattle.laws.specs.Pick.{pick}
use Rattle.laws.proofs.Cases.{all_pick, not_both}
use Rattle.cap.specs.Slot.{vacant_slot, four_vacant}
use Rattle.capslots.specs.Table.{empty_row}
use Rattle.capslots.proofs.Places.{shape_fresh}
use Rattle.ipc_rules.specs.Make.{in_range}
use Rattle.ipc_rules.specs.declared.state.Sizes.{Sizes}
use Rattle.ipc_rules.specs.declared.state.Table.{Table as Channels}
use Rattle.ipc_rules.proofs.Fresh.{in_range_of, fresh_sound}
use Rattle.dispatcher_rules.specs.Make.{make_of}
use Rattle.dispatcher_rules.specs.Border.{Ready, guarded_by}
use Rattle.dispatcher_rules.specs.declared.state.Desk.{Desk}
use Rattle.dispatcher_rules.specs.declared.state.Dispatcher.{Dispatcher}
use Rattle.dispatcher_rules.specs.declared.answers.Making.{Making}
use Rattle.dispatcher_rules.specs.declared.state.Variant.{Variant}
use Rattle.dispatcher_rules.proofs.Promises.{made_bound, made_closed, ready_passes}
use Rattle.isolation.specs.Runs.{JobCall, open_for, close, send, receive, park, after, run, start, Reached, fresh, then}
use Rattle.isolation.proofs.Kept.{Kept}
use Rattle.isolation.proofs.KeptClose.{close_keeps}
use Rattle.isolation.proofs.KeptOpen.{open_keeps}
use Rattle.isolation.proofs.KeptSlots.{send_keeps, receive_keeps, park_keeps}
use Rattle.isolation.proofs.Slots.{never_vacant}

-- ---- a ready desk passes the border's test
pub serves : {A : Type 0} (d : Dispatcher) (t : Channels) → Ready d t → (refusal rule : A) → guarded_by d t refusal rule ≡ rule
unfolding guarded_by pick
serves d t r refusal rule = rw (ready_passes d t r)

-- ---- fresh tables and a dispatcher that was made
no_slot : (n s : ℕ) (r : ℕ) → (get_or (get_or (replicate n empty_row) r (record { slots = [] })).slots s vacant_slot).present ≡ false
no_slot zero s r = refl
no_slot (suc n) s zero = four s
  where
    four : (s : ℕ) → (get_or four_vacant s vacant_slot).present ≡ false
    four zero = refl
    four (suc zero) = refl
    four (suc (suc zero)) = refl
    four (suc (suc (suc zero))) = refl
    four (suc (suc (suc (suc s)))) = refl
no_slot (suc n) s (suc r) = no_slot n s r

sixteen : (n : ℕ) (vs : List Variant) → length (make_of n vs).dispatcher.jobs ≡ 16
unfolding make_of
sixteen n vs = all_pick (λ (m : Making). length m.dispatcher.jobs ≡ 16) _ _ _ (λ _. refl) (λ _. refl)

pub start_kept : (z : Sizes) → in_range z ≡ true → (n : ℕ) (vs : List Variant) → (make_of n vs).answer ≡ Ok tt → Kept (start z n vs)
start_kept z i n vs e =
    let b = made_bound n vs e in
    record {
      ready = record { bound = rw (b.1, b.2) b.0; sound = fresh_sound z (in_range_of z i) };
      places = sixteen n vs;
      shape = shape_fresh;
      own = λ p o. absurd (not_both _ o (made_closed n vs p));
      apart = λ p q o. absurd (not_both _ o (made_closed n vs p));
      slots = λ r s c h. never_vacant (no_slot 54 s r) h;
    }

-- ---- each call, and any sequence of them
module _ (w : Desk) (κ : Kept w) where
  pub after_kept : (c : JobCall) → Kept (after w c)
  unfolding after
  after_kept (open_for tag x) = rw (serves w.dispatcher w.channels κ.ready) (open_keeps w κ tag x)
  after_kept (close p) = rw (serves w.dispatcher w.channels κ.ready) (close_keeps w κ p)
  after_kept (send r s x) = rw (serves w.dispatcher w.channels κ.ready) (send_keeps w κ r s x)
  after_kept (receive r s) = rw (serves w.dispatcher w.channels κ.ready) (receive_keeps w κ r s)
  after_kept (park r s task) = rw (serves w.dispatcher w.channels κ.ready) (park_keeps w κ r s task)

pub run_kept : (w : Desk) → Kept w → (cs : List JobCall) → Kept (run w cs)
unfolding run
run_kept w κ [] = κ
run_kept w κ (c ∷ cs) = run_kept (after w c) (after_kept w κ c) cs

pub reached_run : {w : Desk} → Reached w → (cs : List JobCall) → Reached (run w cs)
unfolding run
reached_run r [] = r
reached_run {w = w} r (c ∷ cs) = reached_run {w = after w c} (then r c) cs

pub all_kept : (w : Desk) → Reached w → Kept w
all_kept w (fresh z i n vs e) = start_kept z i n vs e
all_kept w (then r c) = after_kept _ (all_kept _ r) c
