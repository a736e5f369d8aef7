-- `clear_waiter` keeps a sound table sound: a mailbox changes at most in its waiter, who goes. Assumes nothing.
use mathlib.Core.Path.{◌≡◌, refl, ap, ◌∙◌}
use mathlib.Core.Bool.{true, false}
use Prim.Native.Nat.{ℕ, ◌≤◌, ◌<◌}
use lib.ListN.{length-map}
use Rattle.laws.specs.Pick.{pick}
use Rattle.laws.proofs.Cases.{all_pick, not_both}
use Rattle.laws.proofs.Lists.{all_map}
use Rattle.ipc_rules.specs.State.{nobody, fresh_mailbox, fresh_message, box_live, mailbox_at, message_in, with_waiter}
use Rattle.ring.specs.Ring.{IsRing}
use Rattle.ipc_rules.specs.Sound.{Sound, Ends}
use Rattle.ipc_rules.specs.Waiters.{waits_on, without_waiter, clear_of}
use Rattle.ipc_rules.specs.declared.state.Mailbox.{Mailbox}
use Rattle.ipc_rules.specs.declared.state.TaskId.{TaskId}
use Rattle.ipc_rules.specs.declared.state.Table.{Table}

-- what holds of every mailbox, and of each without its waiter, holds of every mailbox afterwards
module _ (t : Table) (task : TaskId) (P : ℕ → Mailbox → Type 0) where
  pub cleared_at : ((j : ℕ) → P j (mailbox_at t j)) → ((j : ℕ) → P j (with_waiter (mailbox_at t j) nobody)) →
      (j : ℕ) → P j (mailbox_at (clear_of t task).table j)
  unfolding clear_of without_waiter pick
  cleared_at stays goes =
      all_map P (without_waiter task) t.mailboxes fresh_mailbox fresh_mailbox refl
      (λ j. all_pick (P j) (waits_on (mailbox_at t j) task) _ _ (λ _. goes j) (λ _. stays j))

pub clear_kept : (t : Table) (task : TaskId) → Sound t → Sound (clear_of t task).table
unfolding clear_of
clear_kept t task s =
    record {
      shape = record {
        endpoints = s.shape.endpoints;
        mailboxes = length-map t.mailboxes (without_waiter task) ∙ s.shape.mailboxes;
        messages = s.shape.messages;
      };
      sizes = s.sizes;
      mailboxes_past = cleared_at t task (λ j x. t.sizes.mailboxes ≤ j → x ≡ fresh_mailbox) s.mailboxes_past
          (λ j h. ap alone (s.mailboxes_past j h));
      endpoints_past = s.endpoints_past;
      places_past = s.places_past;
      next = s.next;
      dead = cleared_at t task (λ _ x. x.live ≡ false → x ≡ fresh_mailbox) s.dead (λ j h. ap alone (s.dead j h));
      dead_places = λ j p r.
          cleared_at t task (λ i x. x.live ≡ false → message_in t i p ≡ fresh_message) (λ i. s.dead_places i p r) (λ i. s.dead_places i p r) j;
      ends = cleared_at t task (λ j x. x.live ≡ true → Ends t.endpoints j) s.ends s.ends;
      ring = cleared_at t task (λ _ x. x.live ≡ true → IsRing t.sizes.depth x.ring) s.ring s.ring;
      names = λ i l.
          let n = s.names i l in
          let live = cleared_at t task (λ j x. box_live t.mailboxes j ≡ true → x.live ≡ true) (λ _ h. h) (λ _ h. h) in
          record { rights = n.rights; live = live _ n.live };
      waits_empty = cleared_at t task (λ _ x. x.waiter.present ≡ true → x.ring.len ≡ 0) s.waits_empty (λ _ w. absurd (not_both false w refl));
      waits_held = cleared_at t task (λ _ x. x.waiter.present ≡ true → x.ephemeral ≡ true → 0 < x.send_holders) s.waits_held
          (λ _ w _. absurd (not_both false w refl));
    }
  where
    alone : Mailbox → Mailbox
    alone b = with_waiter b nobody
