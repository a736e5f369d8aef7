-- Calls that open and end no channel: what ids open is as it was, and so is each mailbox but for its queue and its waiter. Assumes nothing.
use mathlib.Core.Path.{◌≡◌}
use Prim.Native.Nat.{ℕ}
use Rattle.laws.proofs.Bools.{by_equal}
use Rattle.cap.specs.declared.CapId.{CapId}
use Rattle.ipc_rules.specs.State.{mailbox_live}
use Rattle.ipc_rules.specs.Sound.{Sound}
use Rattle.ipc_rules.specs.Send.{send_of}
use Rattle.ipc_rules.specs.Receive.{recv_of, park_of}
use Rattle.ipc_rules.specs.Views.{hold_count, ephemeral_of, Alike, Steady, OnlyMailbox, OnlyCounts}
use Rattle.ipc_rules.specs.declared.state.Message.{Message}
use Rattle.ipc_rules.specs.declared.state.Payload.{Payload}
use Rattle.ipc_rules.specs.declared.state.TaskId.{TaskId}
use Rattle.ipc_rules.specs.declared.state.Table.{Table as Channels}
use Rattle.ipc_rules.proofs.AfterSend.{SendWays, bad_row, bad_cap, full, sent, send_ways}
use Rattle.ipc_rules.proofs.AfterReceive as recv
use Rattle.ipc_rules.proofs.AfterPark as park
use Rattle.ipc_rules.proofs.Changes.{counts_anew, alike_same, steady_same}

-- mailbox k lives as it did, of its kind, with its holds
pub record Stays (t u : Channels) (k : ℕ) : Type 0 where
  pub live : mailbox_live u k ≡ mailbox_live t k
  pub ephemeral : ephemeral_of u k ≡ ephemeral_of t k
  pub holds : hold_count u k ≡ hold_count t k

pub record Still (t u : Channels) : Type 0 where
  pub steady : Steady t u
  pub boxes : (k : ℕ) → Stays t u k

module _ {t u : Channels} where
  pub stays_alike : {k : ℕ} → Alike t u k → Stays t u k
  stays_alike a = record { live = a.live; ephemeral = a.ephemeral; holds = a.holds }

  still_counts : OnlyCounts t u → Still t u
  still_counts c = record { steady = c.steady; boxes = λ k. stays_alike (c.mailboxes k) }

  still_box : (k : ℕ) → OnlyMailbox t u k → Stays t u k → Still t u
  still_box k o x = record { steady = o.steady; boxes = λ j. by_equal j k (λ e. rw e x) (λ n. stays_alike (o.others j n)) }

pub still_same : (t : Channels) → Still t t
still_same t = record { steady = steady_same t; boxes = λ k. stays_alike (alike_same t k) }

module _ (t : Channels) (c : CapId) (s : Sound t) where
  pub send_still : (p : Payload) (row : ℕ) → Still t (send_of t c p row).table
  send_still p row = by (send_ways t c p row s)
    where
      by : SendWays t c p row (send_of t c p row) → Still t (send_of t c p row).table
      by (bad_row _ q) = rw q (still_same t)
      by (bad_cap _ _ q) = rw q (still_counts (counts_anew t _))
      by (full _ _ _ _ q) = rw q (still_counts (counts_anew t _))
      by (sent _ a x) = still_box a.box x.rest (record { live = x.live; ephemeral = x.ephemeral; holds = x.holds })

  gives_still : (k : ℕ) (m : Message) (u : Channels) → recv.Gives t k m u → Still t u
  gives_still k m u g = still_box k g.rest (record { live = g.live; ephemeral = g.ephemeral; holds = g.holds })

  pub recv_still : Still t (recv_of t c).table
  recv_still = by (recv.recv_ways t c s)
    where
      by : recv.RecvWays t c (recv_of t c) → Still t (recv_of t c).table
      by (recv.bad_cap _ q) = rw q (still_counts (counts_anew t _))
      by (recv.empty _ _ _ q) = rw q (still_same t)
      by (recv.received k m _ _ g) = gives_still k m _ g

  pub park_still : (task : TaskId) → Still t (park_of t c task).table
  park_still task = by (park.park_ways t c task s)
    where
      by : park.ParkWays t c task (park_of t c task) → Still t (park_of t c task).table
      by (park.bad_cap _ q) = rw q (still_counts (counts_anew t _))
      by (park.given k m _ _ g) = gives_still k m _ g
      by (park.cancelled _ _ _ _ _ q) = rw q (still_same t)
      by (park.busy _ _ _ _ _ q) = rw q (still_counts (counts_anew t _))
      by (park.parked k _ _ _ x) = still_box k x.rest (record { live = x.live; ephemeral = x.ephemeral; holds = x.holds })
