-- Try to receive, `recv_of`: its ways, what each changes and leaves, and the message that it gives. Assumes nothing.
use Rattle.std.specs.Prelude.{Err, Ok, Result}
use mathlib.Core.Path.{◌≡◌, refl, sym, ap, ◌∙◌}
use mathlib.Core.Bool.{true}
use mathlib.Core.List.{[], ◌∷◌}
use Prim.Native.Nat.{ℕ, ◌<◌}
use native.Mathlib.Omega.{arith}
use borrow.Author.Tests.{eqb-true, eqb-false}
use Rattle.laws.proofs.Cases.{all_pick}
use Rattle.cap.specs.Rights.{receive_right}
use Rattle.cap.specs.declared.CapId.{CapId}
use Rattle.ring.specs.Ring.{contents}
use Rattle.ring.proofs.Rings.{contents_taken}
use Rattle.ipc_rules.specs.State.{mailbox_at, mailbox_live, message_in}
use Rattle.ipc_rules.specs.Sound.{Sound}
use Rattle.ipc_rules.specs.Counts.{authority_raised}
use Rattle.ipc_rules.specs.Opening.{opening_of}
use Rattle.ipc_rules.specs.Receive.{recv_of, drained, oldest, taken_from}
use Rattle.ipc_rules.specs.Views.{queue_of, waiter_of, hold_count, ephemeral_of, Alike, Steady, OnlyMailbox}
use Rattle.ipc_rules.specs.declared.state.Mailbox.{Mailbox}
use Rattle.ipc_rules.specs.declared.state.Message.{Message}
use Rattle.ipc_rules.specs.declared.state.Table.{Table}
use Rattle.ipc_rules.specs.declared.answers.RecvError.TheVariants as recv
use Rattle.ipc_rules.specs.declared.opening.Opening.TheVariants.{Opens, Shut}
use Rattle.ipc_rules.proofs.Openings.{all_opened, opens_live, box_same}
use Rattle.ipc_rules.proofs.Changes.{queue_none, alike_same, steady_same, counts_anew, mailbox_anew}
use Rattle.ipc_rules.specs.declared.answers.RecvError.{RecvError}
use Rattle.shown.specs.declared.Answered.{Answered}

-- m, the oldest message of mailbox k, is taken from it
pub record Gives (t : Table) (k : ℕ) (m : Message) (u : Table) : Type 0 where
  pub queue : queue_of t k ≡ m ∷ queue_of u k
  pub waiter : waiter_of u k ≡ waiter_of t k
  pub holds : hold_count u k ≡ hold_count t k
  pub live : mailbox_live u k ≡ mailbox_live t k
  pub ephemeral : ephemeral_of u k ≡ ephemeral_of t k
  pub rest : OnlyMailbox t u k

module _ (t : Table) (k : ℕ) (s : Sound t) (l : mailbox_live t k ≡ true) where
  abbrev b : Mailbox
  b = mailbox_at t k

  without : mailbox_at (taken_from t k) k ≡ drained t.sizes.depth b
  without = box_same t k (drained t.sizes.depth b) s l

  first : 0 < b.ring.len → queue_of t k ≡ oldest t k ∷ queue_of (taken_from t k) k
  unfolding queue_of
  first some =
      contents_taken (message_in t k) t.sizes.depth b.ring some
      ∙ ap (λ (x : Mailbox). oldest t k ∷ contents (message_in t k) t.sizes.depth x.ring) (sym without)

  pub taken_gives : 0 < b.ring.len → Gives t k (oldest t k) (taken_from t k)
  taken_gives some =
      record {
        queue = first some;
        waiter = ap (λ (x : Mailbox). x.waiter) without;
        holds = ap (λ (x : Mailbox). x.send_holders) without;
        live = ap (λ (x : Mailbox). x.live) without;
        ephemeral = ap (λ (x : Mailbox). x.ephemeral) without;
        rest = mailbox_anew t k (drained t.sizes.depth b) s;
      }

-- refused for want of the right, nothing there, or the oldest message
pub data RecvWays (t : Table) (c : CapId) (r : Answered (Result Message RecvError) Table) : Type 0 where
  bad_cap : opening_of t c receive_right ≡ Shut → r ≡ record { answer = Err recv.BadCap; table = authority_raised t } → RecvWays t c r
  empty : (k : ℕ) → opening_of t c receive_right ≡ Opens k → queue_of t k ≡ [] → r ≡ record { answer = Err recv.Empty; table = t } → RecvWays t c r
  received : (k : ℕ) (m : Message) → opening_of t c receive_right ≡ Opens k → r.answer ≡ Ok m → Gives t k m r.table → RecvWays t c r

pub recv_ways : (t : Table) (c : CapId) → Sound t → RecvWays t c (recv_of t c)
unfolding recv_of
recv_ways t c s =
    all_opened (RecvWays t c) _ _ _ (λ o. bad_cap o refl) (λ k o.
    all_pick (RecvWays t c) _ _ _ (λ h. empty k o (queue_none t k (eqb-true _ _ h)) refl) (λ h.
    let some = eqb-false (mailbox_at t k).ring.len 0 h in
    received k (oldest t k) o refl (taken_gives t k s (opens_live t c receive_right k s o) (omega arith))))

module _ (t : Table) (c : CapId) (s : Sound t) where
  pub recv_steady : Steady t (recv_of t c).table
  recv_steady = by (recv_ways t c s)
    where
      by : RecvWays t c (recv_of t c) → Steady t (recv_of t c).table
      by (bad_cap _ q) = rw q (counts_anew t _).steady
      by (empty _ _ _ q) = rw q (steady_same t)
      by (received _ _ _ _ g) = g.rest.steady

  pub recv_others : (j : ℕ) → (opening_of t c receive_right ≡ Opens j → ⊥) → Alike t (recv_of t c).table j
  recv_others j ne = by (recv_ways t c s)
    where
      by : RecvWays t c (recv_of t c) → Alike t (recv_of t c).table j
      by (bad_cap _ q) = rw q ((counts_anew t _).mailboxes j)
      by (empty _ _ _ q) = rw q (alike_same t j)
      by (received k _ o _ g) = g.rest.others j (λ e. ne (rw e o))
