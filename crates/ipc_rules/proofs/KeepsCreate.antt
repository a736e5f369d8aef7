-- Creation keeps a sound table sound: a dead mailbox comes to life with two dead endpoints as its ends. Assumes nothing.
use Rattle.std.specs.Prelude.{Some, Result}
use mathlib.Core.Path.{◌≡◌, refl, sym, ap, ◌∙◌}
use mathlib.Core.Bool.{Bool, true, false}
use mathlib.Core.List.{List}
use mathlib.Core.Logic.{inl, inr}
use Prim.Native.Nat.{ℕ, ◌+◌, ◌≤◌, ◌<◌}
use native.Mathlib.Omega.{arith}
use lib.ListN.{set, length-set}
use lib.Seq.{get_or-set_same, get_or-set_other}
use Rattle.laws.proofs.Cases.{all_found, not_both}
use Rattle.laws.proofs.Lists.{all_set}
use Rattle.laws.proofs.Search.{lowest_at}
use Rattle.cap.specs.Rights.{send_right, receive_right}
use Rattle.cap.specs.declared.CapRights.{CapRights}
use Rattle.mint.proofs.Generations.{next_not_zero}
use Rattle.ipc_rules.specs.State.{fresh_endpoint, fresh_mailbox, fresh_message, endpoint_at, endpoint_live, mailbox_at, mailbox_live, message_in, new_mailbox, new_endpoint}
use Rattle.ring.specs.Ring.{IsRing}
use Rattle.ring.proofs.Rings.{empty_is}
use Rattle.ipc_rules.specs.Sound.{Sound, OneEnd, Ends, Names}
use Rattle.ipc_rules.specs.Create.{free_mailbox, free_endpoint, with_channel, create_of}
use Rattle.ipc_rules.specs.declared.state.Endpoint.{Endpoint}
use Rattle.ipc_rules.specs.declared.state.Mailbox.{Mailbox}
use Rattle.ipc_rules.specs.declared.state.Table.{Table}
use Rattle.ipc_rules.proofs.KeepsEnds.{ends_kept}
use Rattle.ipc_rules.specs.declared.state.Channel.{Channel}
use Rattle.ipc_rules.specs.declared.answers.CreateError.{CreateError}
use Rattle.shown.specs.declared.Answered.{Answered}

-- mailbox k and endpoints s and r are dead, within the sizes, and r is above s
pub record Free (t : Table) (k s r : ℕ) : Type 0 where
  pub box : k < t.sizes.mailboxes
  pub box_dead : mailbox_live t k ≡ false
  pub send_dead : endpoint_live t s ≡ false
  pub recv_dead : endpoint_live t r ≡ false
  pub above : s < r
  pub recv : r < t.sizes.endpoints

-- what the searches find is so
pub found_free : (t : Table) (k s r : ℕ) → free_mailbox t ≡ Some k → free_endpoint t 0 ≡ Some s → free_endpoint t (s + 1) ≡ Some r → Free t k s r
found_free t k s r b one two =
    let box = lowest_at (mailbox_live t) 0 t.sizes.mailboxes k b in
    let send = lowest_at (endpoint_live t) 0 t.sizes.endpoints s one in
    let recv = lowest_at (endpoint_live t) (s + 1) t.sizes.endpoints r two in
    record { box = box.below; box_dead = box.free; send_dead = send.free; recv_dead = recv.free; above = omega arith; recv = recv.below }

module _ (t : Table) (ephemeral : Bool) (k s r : ℕ) (v : Sound t) (f : Free t k s r) where
  abbrev after : Table
  after = with_channel t ephemeral k s r

  abbrev new : CapRights → Endpoint
  new right = new_endpoint t.counters.next_gen right k

  -- the endpoints with the send end alone
  abbrev half : List Endpoint
  half = set t.endpoints s (new send_right)

  -- what holds of both new ends, and of every endpoint as it was, holds of every endpoint; and so with mailboxes
  over_ends : (P : ℕ → Endpoint → Type 0) → P s (new send_right) → P r (new receive_right) → ((i : ℕ) → P i (endpoint_at t i)) →
      (i : ℕ) → P i (endpoint_at after i)
  over_ends P a b q = all_set P half r (new receive_right) fresh_endpoint b (all_set P t.endpoints s (new send_right) fresh_endpoint a q)

  over_boxes : (P : ℕ → Mailbox → Type 0) → P k (new_mailbox ephemeral) → ((j : ℕ) → P j (mailbox_at t j)) → (j : ℕ) → P j (mailbox_at after j)
  over_boxes P = all_set P t.mailboxes k (new_mailbox ephemeral) fresh_mailbox

  -- the new ones stand in their places
  pub created_send : endpoint_at after s ≡ new send_right
  created_send =
      let z = v.sizes in
      let n = v.shape.endpoints in
      get_or-set_other half r s (new receive_right) fresh_endpoint (λ e. omega arith)
      ∙ get_or-set_same t.endpoints s (new send_right) fresh_endpoint (omega arith)

  pub created_recv : endpoint_at after r ≡ new receive_right
  created_recv =
      let z = v.sizes in
      let n = length-set t.endpoints s (new send_right) ∙ v.shape.endpoints in
      get_or-set_same half r (new receive_right) fresh_endpoint (omega arith)

  pub created_box : mailbox_at after k ≡ new_mailbox ephemeral
  created_box =
      let z = v.sizes in
      let n = v.shape.mailboxes in
      get_or-set_same t.mailboxes k (new_mailbox ephemeral) fresh_mailbox (omega arith)

  -- what lived is as it was
  pub old_end_same : (i : ℕ) → endpoint_live t i ≡ true → endpoint_at after i ≡ endpoint_at t i
  old_end_same =
      over_ends (λ i x. endpoint_live t i ≡ true → x ≡ endpoint_at t i) (λ l. absurd (not_both _ l f.send_dead))
      (λ l. absurd (not_both _ l f.recv_dead)) (λ _ _. refl)

  pub old_box_same : (j : ℕ) → mailbox_live t j ≡ true → mailbox_at after j ≡ mailbox_at t j
  old_box_same = over_boxes (λ j x. mailbox_live t j ≡ true → x ≡ mailbox_at t j) (λ l. absurd (not_both _ l f.box_dead)) (λ _ _. refl)

  -- ---- ends
  -- nothing that lived names the new mailbox
  unnamed : (i : ℕ) → endpoint_live t i ≡ true → (endpoint_at t i).mailbox ≡ k → ⊥
  unnamed i l e = not_both _ (v.names i l).live (ap (mailbox_live t) e ∙ f.box_dead)

  one_new : (w : CapRights) (i : ℕ) → endpoint_at after i ≡ new w → (send_right ≡ w → s ≡ i) → (receive_right ≡ w → r ≡ i) →
      OneEnd after.endpoints w k i
  one_new w i q send recv =
      record {
        is = record {
          live = ap (λ (e : Endpoint). e.live) q;
          rights = ap (λ (e : Endpoint). e.rights) q;
          names = ap (λ (e : Endpoint). e.mailbox) q;
        };
        only = λ j h.
            over_ends (λ n x. x.live ≡ true → x.rights ≡ w → x.mailbox ≡ k → n ≡ i) (λ _ e _. send e) (λ _ e _. recv e)
            (λ n l _ e. absurd (unnamed n l e)) j h.live h.rights h.names;
      }

  apart : send_right ≡ receive_right → ⊥
  apart e = let z : ◌≡◌ {A = ℕ} 1 2 = ap (λ (w : CapRights). w.bits) e in omega arith

  new_ends : Ends after.endpoints k
  new_ends =
      record {
        send = s;
        recv = r;
        one_send = one_new send_right s created_send (λ _. refl) (λ e. absurd (apart (sym e)));
        one_recv = one_new receive_right r created_recv (λ e. absurd (apart e)) (λ _. refl);
        one_generation = ap (λ (e : Endpoint). e.generation) created_send ∙ sym (ap (λ (e : Endpoint). e.generation) created_recv);
        some_generation = λ z. v.next (sym (ap (λ (e : Endpoint). e.generation) created_send) ∙ z);
      }

  old_ends : (j : ℕ) → mailbox_live t j ≡ true → Ends after.endpoints j
  old_ends j l =
      ends_kept t.endpoints after.endpoints j (λ i e _. old_end_same i e)
      (λ i _. over_ends (λ n x. x.mailbox ≡ j → x ≡ endpoint_at t n) (λ e. absurd (other e)) (λ e. absurd (other e)) (λ _ _. refl) i)
      (v.ends j l)
    where
      other : k ≡ j → ⊥
      other e = not_both _ l (ap (mailbox_live t) (sym e) ∙ f.box_dead)

  -- ---- the table
  pub channel_kept : Sound after
  channel_kept =
      record {
        shape = record {
          endpoints = length-set half r (new receive_right) ∙ length-set t.endpoints s (new send_right) ∙ v.shape.endpoints;
          mailboxes = length-set t.mailboxes k (new_mailbox ephemeral) ∙ v.shape.mailboxes;
          messages = v.shape.messages;
        };
        sizes = v.sizes;
        mailboxes_past = over_boxes (λ j x. t.sizes.mailboxes ≤ j → x ≡ fresh_mailbox) (λ h. absurd (omega arith)) v.mailboxes_past;
        endpoints_past = over_ends (λ i x. t.sizes.endpoints ≤ i → x ≡ fresh_endpoint) (λ h. absurd (omega arith))
            (λ h. absurd (omega arith)) v.endpoints_past;
        places_past = v.places_past;
        next = λ e. omega (arith, next_not_zero t.counters.next_gen);
        dead = over_boxes (λ _ x. x.live ≡ false → x ≡ fresh_mailbox) (λ d. absurd (not_both true refl d)) v.dead;
        dead_places = λ j p h.
            over_boxes (λ i x. x.live ≡ false → message_in t i p ≡ fresh_message) (λ d. absurd (not_both true refl d)) (λ i. v.dead_places i p h) j;
        ends = over_boxes (λ j x. x.live ≡ true → Ends after.endpoints j) (λ _. new_ends) old_ends;
        ring = over_boxes (λ _ x. x.live ≡ true → IsRing t.sizes.depth x.ring) (λ _. empty_is _ v.sizes.deep) v.ring;
        names = over_ends (λ _ x. x.live ≡ true → Names after.mailboxes x) (λ _. record { rights = inl refl; live = live })
            (λ _. record { rights = inr refl; live = live })
            (λ i l. let n = v.names i l in
            record { rights = n.rights; live = ap (λ (b : Mailbox). b.live) (old_box_same _ n.live) ∙ n.live });
        waits_empty = over_boxes (λ _ x. x.waiter.present ≡ true → x.ring.len ≡ 0) (λ _. refl) v.waits_empty;
        waits_held = over_boxes (λ _ x. x.waiter.present ≡ true → x.ephemeral ≡ true → 0 < x.send_holders)
            (λ w _. absurd (not_both false w refl)) v.waits_held;
      }
    where
      live : mailbox_live after k ≡ true
      live = ap (λ (b : Mailbox). b.live) created_box

pub create_kept : (t : Table) (ephemeral : Bool) → Sound t → Sound (create_of t ephemeral).table
unfolding create_of
create_kept t ephemeral v =
    all_found (λ (x : Answered (Result Channel CreateError) Table). Sound x.table) _ _ _ (λ _. v) (λ k b.
    all_found (λ (x : Answered (Result Channel CreateError) Table). Sound x.table) _ _ _ (λ _. v) (λ s one.
    all_found (λ (x : Answered (Result Channel CreateError) Table). Sound x.table) _ _ _ (λ _. v) (λ r two.
    channel_kept t ephemeral k s r v (found_free t k s r b one two))))
