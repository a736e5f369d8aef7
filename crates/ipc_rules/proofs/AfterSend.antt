-- Send, `send_of`: its four ways, and what each changes and leaves. Assumes nothing.
use Rattle.std.specs.Prelude.{Err, Ok, Result}
use mathlib.Core.Path.{◌≡◌, refl, ap, ◌∙◌}
use mathlib.Core.Bool.{true}
use mathlib.Core.List.{[], ◌∷◌, ◌++◌}
use Prim.Native.Nat.{ℕ, ◌+◌, ◌*◌, ◌<◌, ◌≤◌}
use native.Mathlib.Omega.{arith}
use borrow.Author.Tests.{eqb-true, eqb-false, leb-true, leb-false}
use lib.ListN.{length}
use lib.Seq.{get_or-set_same, get_or-set_other}
use Rattle.laws.specs.Refusals as no
use Rattle.laws.proofs.Cases.{all_pick}
use Rattle.cap.specs.Rights.{send_right}
use Rattle.cap.specs.declared.CapId.{CapId}
use Rattle.ring.specs.Ring.{contents}
use Rattle.ring.proofs.Rings.{room, contents_put}
use Rattle.ipc_rules.specs.State.{fresh_mailbox, fresh_message, nobody, stamped, mailbox_at, mailbox_live, message_in}
use Rattle.ipc_rules.specs.Sound.{Sound}
use Rattle.ipc_rules.specs.Counts.{authority_raised, full_raised}
use Rattle.ipc_rules.specs.Opening.{opening_of}
use Rattle.ipc_rules.specs.Send.{send_of, filled, queued_in}
use Rattle.ipc_rules.specs.Answers.{send_number}
use Rattle.ipc_rules.specs.Views.{queue_of, waiter_of, hold_count, ephemeral_of, Alike, Steady, OnlyMailbox}
use Rattle.ipc_rules.specs.declared.state.Mailbox.{Mailbox}
use Rattle.ipc_rules.specs.declared.state.Payload.{Payload}
use Rattle.ipc_rules.specs.declared.state.Message.{Message}
use Rattle.ipc_rules.specs.declared.state.Waiter.{Waiter}
use Rattle.ipc_rules.specs.declared.state.Table.{Table}
use Rattle.ipc_rules.specs.declared.answers.SendError.TheVariants.{BadRow, BadCap, Full}
use Rattle.ipc_rules.specs.declared.opening.Opening.TheVariants.{Opens, Shut}
use Rattle.ipc_rules.proofs.Openings.{all_opened, opens_live, live_below, box_same}
use Rattle.ipc_rules.proofs.Changes.{queue_length, alike_of, alike_same, steady_same, counts_anew}
use Rattle.ipc_rules.specs.declared.answers.SendError.{SendError}
use Rattle.shown.specs.declared.Answered.{Answered}

-- m is queued in mailbox k behind what waits there, and the waiter, taken out, is the answer
pub record Sends (t : Table) (m : Message) (k : ℕ) (r : Answered (Result Waiter SendError) Table) : Type 0 where
  pub answer : r.answer ≡ Ok (waiter_of t k)
  pub queue : queue_of r.table k ≡ queue_of t k ++ (m ∷ [])
  pub waiter : waiter_of r.table k ≡ nobody
  pub holds : hold_count r.table k ≡ hold_count t k
  pub live : mailbox_live r.table k ≡ mailbox_live t k
  pub ephemeral : ephemeral_of r.table k ≡ ephemeral_of t k
  pub rest : OnlyMailbox t r.table k

-- c opens a mailbox for send in which there is room
pub record Room (t : Table) (c : CapId) : Type 0 where
  pub box : ℕ
  pub opens : opening_of t c send_right ≡ Opens box
  pub below : length (queue_of t box) < t.sizes.depth

-- refused for its row, for want of the right, for want of room, or sent
pub data SendWays (t : Table) (c : CapId) (p : Payload) (row : ℕ) (r : Answered (Result Waiter SendError) Table) : Type 0 where
  bad_row : 54 ≤ row → r ≡ record { answer = Err BadRow; table = t } → SendWays t c p row r
  bad_cap : row < 54 → opening_of t c send_right ≡ Shut → r ≡ record { answer = Err BadCap; table = authority_raised t } → SendWays t c p row r
  full : row < 54 → (k : ℕ) → opening_of t c send_right ≡ Opens k → length (queue_of t k) ≡ t.sizes.depth → r ≡ record { answer = Err Full; table = full_raised t } → SendWays t c p row r
  sent : row < 54 → (a : Room t c) → Sends t (stamped p row) a.box r → SendWays t c p row r

-- ---- the message in its place
module _ (t : Table) (k : ℕ) (m : Message) (s : Sound t) (l : mailbox_live t k ≡ true) where
  abbrev b : Mailbox
  b = mailbox_at t k

  new : message_in (queued_in t k m) k b.ring.head ≡ m
  new =
      let h = (s.ring k l).head in
      let z = s.sizes in
      let n = s.shape.messages in
      let u = live_below t k s l in
      get_or-set_same t.messages (k * 8 + b.ring.head) m fresh_message (omega arith)

  old : (j p : ℕ) → (j * 8 + p ≡ k * 8 + b.ring.head → ⊥) → message_in (queued_in t k m) j p ≡ message_in t j p
  old j p ne = get_or-set_other t.messages (k * 8 + b.ring.head) (j * 8 + p) m fresh_message ne

  box : mailbox_at (queued_in t k m) k ≡ filled t.sizes.depth b
  box = box_same t k (filled t.sizes.depth b) s l

  appended : b.ring.len < t.sizes.depth → queue_of (queued_in t k m) k ≡ queue_of t k ++ (m ∷ [])
  unfolding queue_of
  appended room =
      let d = t.sizes.depth in
      let now = message_in (queued_in t k m) k in
      ap (λ (x : Mailbox). contents now d x.ring) box
      ∙ contents_put (message_in t k) now d b.ring (s.ring k l) room (λ p ne. old k p (λ e. ne (omega arith)))
      ∙ ap (λ (x : Message). contents (message_in t k) d b.ring ++ (x ∷ [])) new

  others : (j : ℕ) → (j ≡ k → ⊥) → Alike t (queued_in t k m) j
  others j ne =
      alike_of t (queued_in t k m) j s refl (get_or-set_other t.mailboxes k j (filled t.sizes.depth b) fresh_mailbox ne)
      (λ p q. old j p (λ e. let h = (s.ring k l).head in let z = s.sizes in ne (omega arith)))

  queued : b.ring.len < t.sizes.depth → Sends t m k (record { answer = Ok b.waiter; table = queued_in t k m })
  unfolding opening_of
  queued room =
      record {
        answer = refl;
        queue = appended room;
        waiter = ap (λ (x : Mailbox). x.waiter) box;
        holds = ap (λ (x : Mailbox). x.send_holders) box;
        live = ap (λ (x : Mailbox). x.live) box;
        ephemeral = ap (λ (x : Mailbox). x.ephemeral) box;
        rest = record {
          steady = record { sizes = refl; opening = λ _ _. refl; next = refl };
          others = others;
          counts = refl;
        };
      }

-- ---- the call
pub send_ways : (t : Table) (c : CapId) (p : Payload) (row : ℕ) → Sound t → SendWays t c p row (send_of t c p row)
unfolding send_of
send_ways t c p row s =
    all_pick (SendWays t c p row) _ _ _ (λ h. bad_row (leb-true 54 row h) refl) (λ h.
    let w = leb-false 54 row h in
    all_opened (SendWays t c p row) _ _ _ (λ o. bad_cap w o refl) (λ k o.
    all_pick (SendWays t c p row) _ _ _ (λ h. full w k o (queue_length t k ∙ eqb-true _ _ h) refl) (λ h.
    let l = opens_live t c send_right k s o in
    let u = room _ _ (s.ring k l) (eqb-false _ _ h) in
    sent w (record { box = k; opens = o; below = rw queue_length u }) (queued t k (stamped p row) s l u))))

-- a row below 54 is not refused for its row, whatever the table
pub row_passes : (t : Table) (c : CapId) (p : Payload) (row : ℕ) → row < 54 → send_number (send_of t c p row).answer ≡ no.bad_row → ⊥
unfolding send_of
row_passes t c p row w =
    all_pick Passes _ _ _ (λ h. let l = leb-true 54 row h in absurd (omega arith))
    (λ _. all_opened Passes _ _ _ (λ _ e. omega arith) (λ k _. all_pick Passes _ _ _ (λ _ e. omega arith) (λ _ e. omega arith)))
  where
    Passes : Answered (Result Waiter SendError) Table → Type 0
    Passes r = send_number r.answer ≡ no.bad_row → ⊥

-- ---- accepted exactly where the row is one of the rows and there is room
module _ (t : Table) (c : CapId) (p : Payload) (row : ℕ) (s : Sound t) where
  pub send_accepts : row < 54 → (a : Room t c) → Sends t (stamped p row) a.box (send_of t c p row)
  send_accepts w a = by (send_ways t c p row s)
    where
      by : SendWays t c p row (send_of t c p row) → Sends t (stamped p row) a.box (send_of t c p row)
      by (bad_row h _) = absurd (omega arith)
      by (bad_cap _ o _) = let o' = a.opens in let z : ◌≡◌ {A = ℕ} 0 1 = cc in absurd (omega arith)
      by (full _ k o e _) = let h : k ≡ a.box = cc a.opens in let e' : length (queue_of t a.box) ≡ t.sizes.depth = rw h at e in let u = a.below in absurd (omega arith)
      by (sent _ a' x) = let h : a'.box ≡ a.box = cc (a.opens, a'.opens) in rw h at x

  pub sent_room : (w : Waiter) → (send_of t c p row).answer ≡ Ok w → (row < 54) × Room t c
  sent_room w e = by (send_ways t c p row s)
    where
      by : SendWays t c p row (send_of t c p row) → (row < 54) × Room t c
      by (bad_row _ q) = let z : ◌≡◌ {A = ℕ} 0 1 = cc in absurd (omega arith)
      by (bad_cap _ _ q) = let z : ◌≡◌ {A = ℕ} 0 1 = cc in absurd (omega arith)
      by (full _ _ _ _ q) = let z : ◌≡◌ {A = ℕ} 0 1 = cc in absurd (omega arith)
      by (sent h a _) = (h, a)

  -- ---- what every send leaves, refused or not
  pub send_steady : Steady t (send_of t c p row).table
  send_steady = by (send_ways t c p row s)
    where
      by : SendWays t c p row (send_of t c p row) → Steady t (send_of t c p row).table
      by (bad_row _ q) = rw q (steady_same t)
      by (bad_cap _ _ q) = rw q (counts_anew t _).steady
      by (full _ _ _ _ q) = rw q (counts_anew t _).steady
      by (sent _ _ x) = x.rest.steady

  pub send_others : (j : ℕ) → (opening_of t c send_right ≡ Opens j → ⊥) → Alike t (send_of t c p row).table j
  send_others j ne = by (send_ways t c p row s)
    where
      by : SendWays t c p row (send_of t c p row) → Alike t (send_of t c p row).table j
      by (bad_row _ q) = rw q (alike_same t j)
      by (bad_cap _ _ q) = rw q ((counts_anew t _).mailboxes j)
      by (full _ _ _ _ q) = rw q ((counts_anew t _).mailboxes j)
      by (sent _ a x) = x.rest.others j (λ e. ne (rw e a.opens))
