-- What keeps a table sound: the counts anew, one live mailbox anew, one message place of a live mailbox anew. Assumes nothing.
use mathlib.Core.Path.{◌≡◌, refl, ap, ◌∙◌}
use mathlib.Core.Bool.{true, false}
use Prim.Native.Nat.{ℕ, ◌+◌, ◌*◌, ◌<◌, ◌≤◌}
use native.Mathlib.Omega.{arith}
use lib.ListN.{set, get_or, length-set}
use Rattle.laws.proofs.Cases.{not_both}
use Rattle.laws.proofs.Lists.{all_set}
use Rattle.ipc_rules.specs.State.{fresh_mailbox, fresh_message, box_live, mailbox_at, mailbox_live, message_in, with_mailbox, with_message, with_refusals}
use Rattle.ring.specs.Ring.{IsRing}
use Rattle.ipc_rules.specs.Sound.{Sound, Ends}
use Rattle.ipc_rules.specs.declared.state.Mailbox.{Mailbox}
use Rattle.ipc_rules.specs.declared.state.Message.{Message}
use Rattle.ipc_rules.specs.declared.state.Refusals.{Refusals}
use Rattle.ipc_rules.specs.declared.state.Table.{Table}
use Rattle.ipc_rules.proofs.Openings.{live_below}

-- the counts are no part of soundness
pub counts_kept : (t : Table) (x : Refusals) → Sound t → Sound (with_refusals t x)
counts_kept t x s =
    record {
      shape = record { endpoints = s.shape.endpoints; mailboxes = s.shape.mailboxes; messages = s.shape.messages };
      sizes = s.sizes;
      mailboxes_past = s.mailboxes_past;
      endpoints_past = s.endpoints_past;
      places_past = s.places_past;
      next = s.next;
      dead = s.dead;
      dead_places = s.dead_places;
      ends = s.ends;
      ring = s.ring;
      names = s.names;
      waits_empty = s.waits_empty;
      waits_held = s.waits_held;
    }

-- a mailbox that may stand in a sound table where a live one stood
pub record Fits (d : ℕ) (b : Mailbox) : Type 0 where
  pub live : b.live ≡ true
  pub ring : IsRing d b.ring
  pub waits_empty : b.waiter.present ≡ true → b.ring.len ≡ 0
  pub waits_held : b.waiter.present ≡ true → b.ephemeral ≡ true → 0 < b.send_holders

pub mailbox_kept : (t : Table) (k : ℕ) (b : Mailbox) → Sound t → mailbox_live t k ≡ true → Fits t.sizes.depth b → Sound (with_mailbox t k b)
mailbox_kept t k b s l f =
    record {
      shape = record { endpoints = s.shape.endpoints; mailboxes = length-set t.mailboxes k b ∙ s.shape.mailboxes; messages = s.shape.messages };
      sizes = s.sizes;
      mailboxes_past = over (λ j x. t.sizes.mailboxes ≤ j → x ≡ fresh_mailbox) (λ h. let u = live_below t k s l in absurd (omega arith)) s.mailboxes_past;
      endpoints_past = s.endpoints_past;
      places_past = s.places_past;
      next = s.next;
      dead = over (λ j x. x.live ≡ false → x ≡ fresh_mailbox) (λ h. absurd (not_both b.live f.live h)) s.dead;
      dead_places = λ j p r. over (λ i x. x.live ≡ false → message_in t i p ≡ fresh_message) (λ h. absurd (not_both b.live f.live h)) (λ i. s.dead_places i p r) j;
      ends = over (λ j x. x.live ≡ true → Ends t.endpoints j) (λ _. s.ends k l) s.ends;
      ring = over (λ _ x. x.live ≡ true → IsRing t.sizes.depth x.ring) (λ _. f.ring) s.ring;
      names = λ i v. let n = s.names i v in record { rights = n.rights; live = over (λ j x. box_live t.mailboxes j ≡ true → x.live ≡ true) (λ _. f.live) (λ _ h. h) _ n.live };
      waits_empty = over (λ _ x. x.waiter.present ≡ true → x.ring.len ≡ 0) f.waits_empty s.waits_empty;
      waits_held = over (λ _ x. x.waiter.present ≡ true → x.ephemeral ≡ true → 0 < x.send_holders) f.waits_held s.waits_held;
    }
  where
    over : (P : ℕ → Mailbox → Type 0) → P k b → ((j : ℕ) → P j (mailbox_at t j)) → (j : ℕ) → P j (get_or (set t.mailboxes k b) j fresh_mailbox)
    over P = all_set P t.mailboxes k b fresh_mailbox

pub message_kept : (t : Table) (k p : ℕ) (m : Message) → Sound t → mailbox_live t k ≡ true → p < t.sizes.depth → Sound (with_message t k p m)
message_kept t k p m s l below =
    record {
      shape = record { endpoints = s.shape.endpoints; mailboxes = s.shape.mailboxes; messages = length-set t.messages (k * 8 + p) m ∙ s.shape.messages };
      sizes = s.sizes;
      mailboxes_past = s.mailboxes_past;
      endpoints_past = s.endpoints_past;
      places_past = λ j q r d. over (λ n x. n ≡ j * 8 + q → x ≡ fresh_message) (λ e. let z = s.sizes in absurd (omega arith)) (λ n e. ap at e ∙ s.places_past j q r d) _ refl;
      next = s.next;
      dead = s.dead;
      dead_places = λ j q r d. over (λ n x. n ≡ j * 8 + q → x ≡ fresh_message) (λ e. let z = s.sizes in absurd (not_both (mailbox_live t k) l (ap (mailbox_live t) (omega arith) ∙ d))) (λ n e. ap at e ∙ s.dead_places j q r d) _ refl;
      ends = s.ends;
      ring = s.ring;
      names = s.names;
      waits_empty = s.waits_empty;
      waits_held = s.waits_held;
    }
  where
    at : ℕ → Message
    at n = get_or t.messages n fresh_message

    over : (P : ℕ → Message → Type 0) → P (k * 8 + p) m → ((n : ℕ) → P n (at n)) → (n : ℕ) → P n (get_or (set t.messages (k * 8 + p) m) n fresh_message)
    over P = all_set P t.messages (k * 8 + p) m fresh_message
