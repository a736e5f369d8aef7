-- Sizes in range, as a test and as a fact; and a fresh table of such sizes is sound. Assumes nothing.
use Rattle.std.specs.Prelude.{Result, ⊤}
use mathlib.Core.Path.{◌≡◌, refl, ap}
use mathlib.Core.Bool.{true}
use Prim.Native.Nat.{ℕ, ◌+◌, ◌*◌}
use native.Mathlib.Omega.{arith}
use borrow.Author.Tests.{leb-true, le-leb}
use lib.Dec.{leb}
use lib.ListN.{get_or, replicate}
use Rattle.laws.proofs.Cases.{all_pick, not_both}
use Rattle.laws.proofs.Lists.{all_replicate}
use Rattle.ipc_rules.specs.State.{fresh_mailbox, fresh_endpoint, fresh_message, box_in, end_in, sizes_of}
use Rattle.ipc_rules.specs.Make.{fresh_of, in_range, new_of}
use Rattle.ipc_rules.specs.Sound.{InRange, Sound}
use Rattle.ipc_rules.specs.declared.state.Sizes.{Sizes}
use Rattle.ipc_rules.specs.declared.state.Endpoint.{Endpoint}
use Rattle.ipc_rules.specs.declared.state.Mailbox.{Mailbox}
use Rattle.laws.proofs.Bools.{and_four}
use Rattle.ipc_rules.specs.declared.answers.NewError.{NewError}
use Rattle.shown.specs.declared.Answered.{Answered}
use Rattle.ipc_rules.specs.declared.state.Table.{Table as Channels}

pub in_range_of : (z : Sizes) → in_range z ≡ true → InRange z
in_range_of z h =
    let p = and_four (leb z.mailboxes 32) (leb z.endpoints 64) (leb 1 z.depth) (leb z.depth 8) h in
    record { mailboxes = leb-true _ _ p.0; endpoints = leb-true _ _ p.1; deep = leb-true _ _ p.2; depth = leb-true _ _ p.3 }

pub of_in_range : (z : Sizes) → InRange z → in_range z ≡ true
of_in_range z r = simp (le-leb _ _ r.mailboxes, le-leb _ _ r.endpoints, le-leb _ _ r.deep, le-leb _ _ r.depth)

boxes_fresh : (k : ℕ) → box_in (replicate 32 fresh_mailbox) k ≡ fresh_mailbox
boxes_fresh = all_replicate (λ b. b ≡ fresh_mailbox) 32 fresh_mailbox refl

ends_fresh : (i : ℕ) → end_in (replicate 64 fresh_endpoint) i ≡ fresh_endpoint
ends_fresh = all_replicate (λ e. e ≡ fresh_endpoint) 64 fresh_endpoint refl

places_fresh : (i : ℕ) → get_or (replicate 256 fresh_message) i fresh_message ≡ fresh_message
places_fresh = all_replicate (λ m. m ≡ fresh_message) 256 fresh_message refl

dead_box : (k : ℕ) → (box_in (replicate 32 fresh_mailbox) k).live ≡ true → ⊥
dead_box k v = not_both _ v (ap (λ (b : Mailbox). b.live) (boxes_fresh k))

dead_end : (i : ℕ) → (end_in (replicate 64 fresh_endpoint) i).live ≡ true → ⊥
dead_end i v = not_both _ v (ap (λ (e : Endpoint). e.live) (ends_fresh i))

nobody_waits : (k : ℕ) → (box_in (replicate 32 fresh_mailbox) k).waiter.present ≡ true → ⊥
nobody_waits k v = not_both _ v (ap (λ (b : Mailbox). b.waiter.present) (boxes_fresh k))

pub fresh_sound : (z : Sizes) → InRange z → Sound (fresh_of z)
fresh_sound z r =
    record {
      shape = record { endpoints = refl; mailboxes = refl; messages = refl };
      sizes = r;
      mailboxes_past = λ k _. boxes_fresh k;
      endpoints_past = λ i _. ends_fresh i;
      places_past = λ k p _ _. places_fresh (k * 8 + p);
      next = λ e. omega arith;
      dead = λ k _. boxes_fresh k;
      dead_places = λ k p _ _. places_fresh (k * 8 + p);
      ends = λ k v. absurd (dead_box k v);
      ring = λ k v. absurd (dead_box k v);
      names = λ i v. absurd (dead_end i v);
      waits_empty = λ k v. absurd (nobody_waits k v);
      waits_held = λ k v. absurd (nobody_waits k v);
    }

-- what is made is sound, within the sizes or not
pub new_sound : (m e d : ℕ) → Sound (new_of m e d).table
unfolding new_of
new_sound m e d =
    all_pick (λ (r : Answered (Result ⊤ NewError) Channels). Sound r.table) _ _ _ (λ h. fresh_sound (sizes_of m e d) (in_range_of _ h))
    (λ _. fresh_sound (sizes_of 0 0 1) (record { mailboxes = omega arith; endpoints = omega arith; deep = omega arith; depth = omega arith }))
