-- Revocation keeps a sound table sound: both ends die, and the mailbox and its places are as when fresh. Assumes nothing.
use Rattle.std.specs.Prelude.{Result}
use mathlib.Core.Path.{◌≡◌, refl, sym, ap, ◌∙◌}
use mathlib.Core.Bool.{true, false, ◌&&◌}
use mathlib.Core.List.{List}
use Prim.Native.Nat.{ℕ, zero, suc, ◌+◌, ◌*◌, ◌≤◌, ◌<◌}
use native.Mathlib.Omega.{arith}
use borrow.Author.Tests.{eqb-true, eq-eqb}
use lib.Dec.{eqb}
use lib.ListN.{get_or, length, length-set, length-map}
use lib.Seq.{get_or-set_other}
use Rattle.laws.specs.Pick.{pick}
use Rattle.laws.proofs.Cases.{all_pick, not_both}
use Rattle.laws.proofs.Every.{and_right, and_both}
use Rattle.laws.proofs.Lists.{all_map, all_reset}
use Rattle.cap.specs.declared.CapId.{CapId}
use Rattle.ipc_rules.specs.State.{fresh_endpoint, fresh_mailbox, fresh_message, endpoint_at, endpoint_live, mailbox_at, message_in}
use Rattle.ring.specs.Ring.{IsRing}
use Rattle.ipc_rules.specs.Sound.{Sound, Ends}
use Rattle.ipc_rules.specs.Revoke.{killed, wiped, without_channel, revoke_of}
use Rattle.ipc_rules.specs.declared.state.Endpoint.{Endpoint}
use Rattle.ipc_rules.specs.declared.state.Mailbox.{Mailbox}
use Rattle.ipc_rules.specs.declared.state.Message.{Message}
use Rattle.ipc_rules.specs.declared.state.Table.{Table}
use Rattle.ipc_rules.proofs.Openings.{all_opened}
use Rattle.ipc_rules.proofs.Keeps.{counts_kept}
use Rattle.ipc_rules.proofs.KeepsEnds.{ends_kept}
use Rattle.ipc_rules.specs.declared.state.Waiter.{Waiter}
use Rattle.ipc_rules.specs.declared.answers.CapError.{CapError}
use Rattle.shown.specs.declared.Answered.{Answered}

-- ---- places
-- what stands at a place after a wipe: in the range a fresh message, elsewhere what stood there
pub wiped_at : (P : Message → Type 0) (ms : List Message) (k n i : ℕ) → (k * 8 ≤ i → i < k * 8 + n → P fresh_message) →
    ((k * 8 ≤ i → i < k * 8 + n → ⊥) → P (get_or ms i fresh_message)) → P (get_or (wiped ms k n) i fresh_message)
unfolding wiped
wiped_at P ms k zero i inside outside = outside (λ l h. omega arith)
wiped_at P ms k (suc n) i inside outside =
    all_reset P (wiped ms k n) (k * 8 + n) i fresh_message (λ e. inside (omega arith) (omega arith))
    (λ ne. wiped_at P ms k n i (λ l h. inside l (omega arith)) (λ out. outside (λ l h. out l (omega arith))))

wiped_length : (ms : List Message) (k n : ℕ) → length (wiped ms k n) ≡ length ms
unfolding wiped
wiped_length ms k zero = refl
wiped_length ms k (suc n) = length-set (wiped ms k n) (k * 8 + n) fresh_message ∙ wiped_length ms k n

-- ---- a table without mailbox k's channel
-- an endpoint that lives afterwards lived before, names another mailbox, and is unchanged
pub record Survives (t : Table) (k i : ℕ) : Type 0 where
  pub live : endpoint_live t i ≡ true
  pub other : (endpoint_at t i).mailbox ≡ k → ⊥
  pub same : endpoint_at (without_channel t k) i ≡ endpoint_at t i

module _ (t : Table) (k : ℕ) where
  abbrev after : Table
  after = without_channel t k

  -- ---- places and mailboxes: those of mailbox k are as when fresh, the others as before
  pub own_places : (p : ℕ) → p < 8 → message_in after k p ≡ fresh_message
  own_places p h =
      wiped_at (λ m. m ≡ fresh_message) t.messages k 8 (k * 8 + p) (λ _ _. refl) (λ out. absurd (out (omega arith) (omega arith)))

  pub other_places : (j p : ℕ) → (j ≡ k → ⊥) → p < 8 → message_in after j p ≡ message_in t j p
  other_places j p ne h =
      wiped_at (λ m. m ≡ message_in t j p) t.messages k 8 (j * 8 + p) (λ l g. absurd (ne (omega arith))) (λ _. refl)

  pub other_box : (j : ℕ) → (j ≡ k → ⊥) → mailbox_at after j ≡ mailbox_at t j
  other_box j ne = get_or-set_other t.mailboxes k j fresh_mailbox fresh_mailbox ne

  over_boxes : (P : ℕ → Mailbox → Type 0) → P k fresh_mailbox → ((j : ℕ) → (j ≡ k → ⊥) → P j (mailbox_at t j)) →
      (j : ℕ) → P j (mailbox_at after j)
  over_boxes P own others j = all_reset (P j) t.mailboxes k j fresh_mailbox (λ e. rw e own) (others j)

  -- ---- endpoints
  killed_at : (i : ℕ) → endpoint_at after i ≡ killed k (endpoint_at t i)
  unfolding killed pick
  killed_at = all_map (λ i x. x ≡ killed k (endpoint_at t i)) (killed k) t.endpoints fresh_endpoint fresh_endpoint refl (λ _. refl)

  killed_past : (i : ℕ) → endpoint_at t i ≡ fresh_endpoint → endpoint_at after i ≡ fresh_endpoint
  unfolding killed pick
  killed_past i e = killed_at i ∙ ap (killed k) e

  -- an endpoint that names another mailbox is unchanged
  pub killed_other : (i : ℕ) → ((endpoint_at t i).mailbox ≡ k → ⊥) → endpoint_at after i ≡ endpoint_at t i
  unfolding killed
  killed_other i ne =
      killed_at i
      ∙ all_pick (λ x. x ≡ endpoint_at t i) _ _ _ (λ y. absurd (ne (eqb-true _ _ (and_right (endpoint_live t i) _ y)))) (λ _. refl)

  pub killed_live : (i : ℕ) → endpoint_live after i ≡ true → Survives t k i
  unfolding killed
  killed_live i l =
      all_pick (λ (x : Endpoint). x.live ≡ true → Survives t k i) (endpoint_live t i && eqb (endpoint_at t i).mailbox k) _ _
      (λ _ d. absurd (not_both false d refl))
      (λ n v. let other : (endpoint_at t i).mailbox ≡ k → ⊥ = λ q. not_both _ (and_both (endpoint_live t i) _ v (eq-eqb _ _ q)) n in
      record { live = v; other = other; same = killed_other i other })
      (sym (ap (λ (e : Endpoint). e.live) (killed_at i)) ∙ l)

  old_ends : (j : ℕ) → (j ≡ k → ⊥) → Ends t.endpoints j → Ends after.endpoints j
  old_ends j ne = ends_kept t.endpoints after.endpoints j (λ i _ e. killed_other i (λ q. ne (sym e ∙ q))) (λ i l _. (killed_live i l).same)

  -- ---- the table
  pub without_kept : Sound t → Sound after
  without_kept s =
      record {
        shape = record {
          endpoints = length-map t.endpoints (killed k) ∙ s.shape.endpoints;
          mailboxes = length-set t.mailboxes k fresh_mailbox ∙ s.shape.mailboxes;
          messages = wiped_length t.messages k 8 ∙ s.shape.messages;
        };
        sizes = s.sizes;
        mailboxes_past = over_boxes (λ j x. t.sizes.mailboxes ≤ j → x ≡ fresh_mailbox) (λ _. refl) (λ j _. s.mailboxes_past j);
        endpoints_past = λ i h. killed_past i (s.endpoints_past i h);
        places_past = λ j p r h.
            wiped_at (λ m. m ≡ fresh_message) t.messages k 8 (j * 8 + p) (λ _ _. refl) (λ _. s.places_past j p r h);
        next = s.next;
        dead = over_boxes (λ _ x. x.live ≡ false → x ≡ fresh_mailbox) (λ _. refl) (λ j _. s.dead j);
        dead_places = λ j p r.
            over_boxes (λ i x. x.live ≡ false → message_in after i p ≡ fresh_message) (λ _. own_places p r)
            (λ i ne h. other_places i p ne r ∙ s.dead_places i p r h) j;
        ends = over_boxes (λ j x. x.live ≡ true → Ends after.endpoints j) (λ l. absurd (not_both false l refl))
            (λ j ne l. old_ends j ne (s.ends j l));
        ring = over_boxes (λ _ x. x.live ≡ true → IsRing t.sizes.depth x.ring) (λ l. absurd (not_both false l refl)) (λ j _. s.ring j);
        names = λ i l.
            let o = killed_live i l in
            let n = s.names i o.live in
            rw o.same (record { rights = n.rights; live = ap (λ (b : Mailbox). b.live) (other_box _ o.other) ∙ n.live });
        waits_empty = over_boxes (λ _ x. x.waiter.present ≡ true → x.ring.len ≡ 0) (λ _. refl) (λ j _. s.waits_empty j);
        waits_held = over_boxes (λ _ x. x.waiter.present ≡ true → x.ephemeral ≡ true → 0 < x.send_holders)
            (λ w _. absurd (not_both false w refl)) (λ j _. s.waits_held j);
      }

pub revoke_kept : (t : Table) (c : CapId) → Sound t → Sound (revoke_of t c).table
unfolding revoke_of
revoke_kept t c s = all_opened (λ (r : Answered (Result Waiter CapError) Table). Sound r.table) _ _ _ (λ _. counts_kept t _ s) (λ k _. without_kept t k s)
