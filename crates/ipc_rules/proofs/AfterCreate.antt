-- Creation, `create_of`: its ways, and what each changes and leaves. Assumes nothing.
use Rattle.std.specs.Prelude.{None, Some, Err, Ok, Result}
use mathlib.Core.Path.{◌≡◌, refl, ap}
use mathlib.Core.Bool.{Bool, true}
use mathlib.Core.List.{[]}
use Prim.Native.Nat.{ℕ, ◌+◌}
use native.Mathlib.Omega.{arith}
use lib.Seq.{get_or-set_other}
use Rattle.laws.proofs.Cases.{all_found, not_both}
use Rattle.cap.specs.Id.{id_of}
use Rattle.cap.specs.declared.CapId.{CapId}
use Rattle.cap.specs.declared.CapRights.{CapRights}
use Rattle.mint.specs.Generation.{next_generation}
use Rattle.ipc_rules.specs.State.{fresh_mailbox, nobody, mailbox_at, mailbox_live, new_mailbox}
use Rattle.ipc_rules.specs.Sound.{Sound}
use Rattle.ipc_rules.specs.Opening.{opening_of}
use Rattle.ipc_rules.specs.Create.{free_mailbox, free_endpoint, with_channel, create_of}
use Rattle.ipc_rules.specs.Views.{queue_of, waiter_of, hold_count, ephemeral_of, Alike}
use Rattle.ipc_rules.specs.declared.state.Mailbox.{Mailbox}
use Rattle.ipc_rules.specs.declared.state.Table.{Table}
use Rattle.ipc_rules.specs.declared.answers.CreateError.TheVariants.{NoMailbox, NoEndpoint}
use Rattle.ipc_rules.specs.declared.opening.Opening.TheVariants.{Opens}
use Rattle.ipc_rules.proofs.Openings.{opens_live}
use Rattle.ipc_rules.proofs.Changes.{queue_none, alike_of, alike_same}
use Rattle.ipc_rules.proofs.KeepsCreate.{Free, found_free, created_box}
use Rattle.ipc_rules.proofs.NewChannel.{NewOpenings, new_openings}
use Rattle.ipc_rules.specs.declared.state.Channel.{Channel}
use Rattle.ipc_rules.specs.declared.answers.CreateError.{CreateError}
use Rattle.shown.specs.declared.Answered.{Answered}

-- a channel in mailbox k, with its send end at endpoint s and its receive end at r
pub record Creates (t : Table) (ephemeral : Bool) (k s r : ℕ) (c : Answered (Result Channel CreateError) Table) : Type 0 where
  pub answer : c.answer ≡ Ok (record { send = id_of s t.counters.next_gen; recv = id_of r t.counters.next_gen })
  -- the mailbox and the two endpoints were dead, so that nothing opened it
  pub took : Free t k s r
  pub unopened : (d : CapId) (need : CapRights) → opening_of t d need ≡ Opens k → ⊥
  pub live : mailbox_live c.table k ≡ true
  pub kind : ephemeral_of c.table k ≡ ephemeral
  pub queue : queue_of c.table k ≡ []
  pub waiter : waiter_of c.table k ≡ nobody
  pub holds : hold_count c.table k ≡ 0
  pub openings : NewOpenings t k s r c.table
  pub others : (j : ℕ) → (j ≡ k → ⊥) → Alike t c.table j
  pub next : c.table.counters.next_gen ≡ next_generation t.counters.next_gen
  pub sizes : c.table.sizes ≡ t.sizes
  pub counts : c.table.counters.refusals ≡ t.counters.refusals

-- no free mailbox, not two free endpoints, or a channel
pub data CreateWays (t : Table) (ephemeral : Bool) (c : Answered (Result Channel CreateError) Table) : Type 0 where
  no_mailbox : free_mailbox t ≡ None → c ≡ record { answer = Err NoMailbox; table = t } → CreateWays t ephemeral c
  no_endpoint : (k : ℕ) → free_mailbox t ≡ Some k → ((s : ℕ) → free_endpoint t 0 ≡ Some s → free_endpoint t (s + 1) ≡ None) →
      c ≡ record { answer = Err NoEndpoint; table = t } → CreateWays t ephemeral c
  created : (k s r : ℕ) → Creates t ephemeral k s r c → CreateWays t ephemeral c

module _ (t : Table) (ephemeral : Bool) (k s r : ℕ) (σ : Sound t) (x : Free t k s r) where
  abbrev u : Table
  u = with_channel t ephemeral k s r

  box : mailbox_at u k ≡ new_mailbox ephemeral
  box = created_box t ephemeral k s r σ x

  creates : Creates t ephemeral k s r (record { answer = Ok (record { send = id_of s t.counters.next_gen; recv = id_of r t.counters.next_gen }); table = u })
  creates =
      record {
        answer = refl;
        took = x;
        unopened = λ d need e. not_both (mailbox_live t k) (opens_live t d need k σ e) x.box_dead;
        live = ap (λ (b : Mailbox). b.live) box;
        kind = ap (λ (b : Mailbox). b.ephemeral) box;
        queue = queue_none u k (ap (λ (b : Mailbox). b.ring.len) box);
        waiter = ap (λ (b : Mailbox). b.waiter) box;
        holds = ap (λ (b : Mailbox). b.send_holders) box;
        openings = new_openings t ephemeral k s r σ x;
        others = λ j ne. alike_of t u j σ refl (get_or-set_other t.mailboxes k j (new_mailbox ephemeral) fresh_mailbox ne) (λ _ _. refl);
        next = refl;
        sizes = refl;
        counts = refl;
      }

pub create_ways : (t : Table) (ephemeral : Bool) → Sound t → CreateWays t ephemeral (create_of t ephemeral)
unfolding create_of
create_ways t ephemeral σ =
    all_found (CreateWays t ephemeral) _ _ _ (λ p. no_mailbox p refl) (λ k p.
    all_found (CreateWays t ephemeral) _ _ _ (λ q. no_endpoint k p (λ s e. let z : ◌≡◌ {A = ℕ} 0 1 = cc in absurd (omega arith)) refl) (λ s q.
    all_found (CreateWays t ephemeral) _ _ _ (λ h. no_endpoint k p (λ s' e. let i : s' ≡ s = cc in rw i h) refl) (λ r h.
    created k s r (creates t ephemeral k s r σ (found_free t k s r p q h)))))

-- ---- what every creation leaves, refused or not
module _ (t : Table) (ephemeral : Bool) (σ : Sound t) where
  pub create_opens : (c : CapId) (need : CapRights) (j : ℕ) → opening_of t c need ≡ Opens j → opening_of (create_of t ephemeral).table c need ≡ Opens j
  create_opens c need j e = by (create_ways t ephemeral σ)
    where
      by : CreateWays t ephemeral (create_of t ephemeral) → opening_of (create_of t ephemeral).table c need ≡ Opens j
      by (no_mailbox _ q) = rw q e
      by (no_endpoint _ _ _ q) = rw q e
      by (created _ _ _ x) = x.openings.still c need j e

  pub create_others : (j : ℕ) → mailbox_live t j ≡ true → Alike t (create_of t ephemeral).table j
  create_others j l = by (create_ways t ephemeral σ)
    where
      by : CreateWays t ephemeral (create_of t ephemeral) → Alike t (create_of t ephemeral).table j
      by (no_mailbox _ q) = rw q (alike_same t j)
      by (no_endpoint _ _ _ q) = rw q (alike_same t j)
      by (created k _ _ x) = x.others j (λ e. not_both (mailbox_live t j) l (rw e x.took.box_dead))
