-- Revocation, `revoke_of`: its ways, and what each changes and leaves. Assumes nothing.
use Rattle.std.specs.Prelude.{Err, Ok, Result}
use mathlib.Core.Path.{◌≡◌, refl, sym, ap, ◌∙◌}
use mathlib.Core.Bool.{true, false}
use mathlib.Core.List.{[]}
use Prim.Native.Nat.{ℕ, ◌<◌}
use native.Mathlib.Omega.{arith}
use lib.Dec.{ltb}
use lib.Seq.{get_or-set_same}
use Rattle.cap.specs.Id.{index_of}
use Rattle.cap.specs.declared.CapId.{CapId}
use Rattle.cap.specs.declared.CapRights.{CapRights}
use Rattle.ipc_rules.specs.State.{fresh_mailbox, nobody, mailbox_at, mailbox_live, endpoint_at}
use Rattle.ipc_rules.specs.Sound.{Sound}
use Rattle.ipc_rules.specs.Counts.{authority_raised}
use Rattle.ipc_rules.specs.Opening.{open_of, opening_of, any_right_of}
use Rattle.ipc_rules.specs.Revoke.{without_channel, revoke_of}
use Rattle.ipc_rules.specs.Views.{queue_of, waiter_of, hold_count, Alike}
use Rattle.ipc_rules.specs.declared.state.Endpoint.{Endpoint}
use Rattle.ipc_rules.specs.declared.state.Mailbox.{Mailbox}
use Rattle.ipc_rules.specs.declared.state.Table.{Table}
use Rattle.ipc_rules.specs.declared.answers.CapError.TheVariants.{BadCap}
use Rattle.ipc_rules.specs.declared.opening.Opening.TheVariants.{Opens, Shut}
use Rattle.ipc_rules.proofs.Openings.{all_opened, opened_of, any_within}
use Rattle.ipc_rules.proofs.KeepsRevoke.{Survives, killed_other, killed_live, other_box, other_places}
use Rattle.ipc_rules.proofs.Changes.{queue_none, alike_of, counts_anew}
use Rattle.ipc_rules.specs.declared.state.Waiter.{Waiter}
use Rattle.ipc_rules.specs.declared.answers.CapError.{CapError}
use Rattle.shown.specs.declared.Answered.{Answered}

-- the channel in mailbox k ends: nothing opens it, ids that opened another mailbox open it still, and the mailbox is as when fresh
pub record Revokes (t : Table) (k : ℕ) (u : Table) : Type 0 where
  pub nothing : (c : CapId) (need : CapRights) → opening_of u c need ≡ Opens k → ⊥
  pub still : (c : CapId) (need : CapRights) (j : ℕ) → (j ≡ k → ⊥) → opening_of t c need ≡ Opens j → opening_of u c need ≡ Opens j
  pub only : (c : CapId) (need : CapRights) (j : ℕ) → opening_of u c need ≡ Opens j → opening_of t c need ≡ Opens j
  pub fresh : mailbox_at u k ≡ fresh_mailbox
  pub live : mailbox_live u k ≡ false
  pub queue : queue_of u k ≡ []
  pub waiter : waiter_of u k ≡ nobody
  pub holds : hold_count u k ≡ 0
  pub others : (j : ℕ) → (j ≡ k → ⊥) → Alike t u j
  pub next : u.counters.next_gen ≡ t.counters.next_gen
  pub sizes : u.sizes ≡ t.sizes
  pub counts : u.counters.refusals ≡ t.counters.refusals

-- refused for want of a live endpoint, or the channel ends and its waiter is the answer
pub data RevokeWays (t : Table) (c : CapId) (r : Answered (Result Waiter CapError) Table) : Type 0 where
  bad_cap : any_right_of t c ≡ Shut → r ≡ record { answer = Err BadCap; table = authority_raised t } → RevokeWays t c r
  revoked : (k : ℕ) → any_right_of t c ≡ Opens k → mailbox_live t k ≡ true → r.answer ≡ Ok (waiter_of t k) → Revokes t k r.table → RevokeWays t c r

module _ (t : Table) (k : ℕ) (σ : Sound t) where
  abbrev u : Table
  u = without_channel t k

  -- where an endpoint stands as it stood, ids open what they opened
  same_end : (c : CapId) (need : CapRights) → endpoint_at u (index_of c) ≡ endpoint_at t (index_of c) → opening_of u c need ≡ opening_of t c need
  unfolding opening_of
  same_end c need e = ap (λ (x : Endpoint). open_of (ltb (index_of c) t.sizes.endpoints) x c need) e

  survives : (c : CapId) (need : CapRights) (j : ℕ) → opening_of u c need ≡ Opens j → Survives t k (index_of c)
  survives c need j e = killed_live t k (index_of c) (opened_of u c need j e).live

  only : (c : CapId) (need : CapRights) (j : ℕ) → opening_of u c need ≡ Opens j → opening_of t c need ≡ Opens j
  only c need j e = sym (same_end c need (survives c need j e).same) ∙ e

  revokes : k < 32 → Revokes t k u
  revokes l =
      record {
        nothing = λ c need e. (survives c need k e).other (opened_of t c need k (only c need k e)).names;
        still = λ c need j ne e. same_end c need (killed_other t k (index_of c) (λ q. ne (sym (opened_of t c need j e).names ∙ q))) ∙ e;
        only = only;
        fresh = box;
        live = ap (λ (b : Mailbox). b.live) box;
        waiter = ap (λ (b : Mailbox). b.waiter) box;
        holds = ap (λ (b : Mailbox). b.send_holders) box;
        queue = queue_none u k (ap (λ (b : Mailbox). b.ring.len) box);
        others = λ j ne. alike_of t u j σ refl (other_box t k j ne) (λ p h. other_places t k j p ne h);
        next = refl;
        sizes = refl;
        counts = refl;
      }
    where
      box : mailbox_at u k ≡ fresh_mailbox
      box = let n = σ.shape.mailboxes in get_or-set_same t.mailboxes k fresh_mailbox fresh_mailbox (omega arith)

pub revoke_ways : (t : Table) (c : CapId) → Sound t → RevokeWays t c (revoke_of t c)
unfolding revoke_of
revoke_ways t c σ =
    all_opened (RevokeWays t c) _ _ _ (λ o. bad_cap o refl) (λ k o.
    let w = any_within t c k σ o in revoked k o w.live refl (revokes t k σ w.box))

-- ---- what every revocation leaves, refused or not
module _ (t : Table) (c : CapId) (σ : Sound t) where
  pub revoke_opens : (d : CapId) (need : CapRights) (j : ℕ) → opening_of (revoke_of t c).table d need ≡ Opens j → opening_of t d need ≡ Opens j
  revoke_opens d need j e = by (revoke_ways t c σ)
    where
      by : RevokeWays t c (revoke_of t c) → opening_of t d need ≡ Opens j
      by (bad_cap _ q) =
          let f : opening_of (authority_raised t) d need ≡ Opens j = rw q at e in
          sym ((counts_anew t (authority_raised t).counters.refusals).steady.opening d need) ∙ f
      by (revoked _ _ _ _ r) = r.only d need j e

  pub revoke_others : (j : ℕ) → (any_right_of t c ≡ Opens j → ⊥) → Alike t (revoke_of t c).table j
  revoke_others j ne = by (revoke_ways t c σ)
    where
      by : RevokeWays t c (revoke_of t c) → Alike t (revoke_of t c).table j
      by (bad_cap _ q) = rw q ((counts_anew t _).mailboxes j)
      by (revoked _ o _ _ r) = r.others j (λ e. ne (rw e o))

  pub revoke_next : (revoke_of t c).table.counters.next_gen ≡ t.counters.next_gen
  revoke_next = by (revoke_ways t c σ)
    where
      by : RevokeWays t c (revoke_of t c) → (revoke_of t c).table.counters.next_gen ≡ t.counters.next_gen
      by (bad_cap _ q) = ap (λ (r : Answered (Result Waiter CapError) Table). r.table.counters.next_gen) q
      by (revoked _ _ _ _ r) = r.next
