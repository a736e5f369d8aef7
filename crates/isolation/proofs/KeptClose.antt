-- A closing keeps it: the closed job's ids stand nowhere, and the other jobs are as they were. Assumes nothing.
use mathlib.Core.Path.{◌≡◌, sym, ap, ◌∙◌}
use mathlib.Core.Bool.{false}
use Prim.Native.Nat.{ℕ, ◌<◌}
use Rattle.laws.proofs.Cases.{not_both}
use Rattle.cap.specs.Rights.{send_right, receive_right}
use Rattle.cap.specs.declared.CapId.{CapId}
use Rattle.capslots.specs.Rows.{forgotten_of}
use Rattle.capslots.proofs.Forgotten.{forgotten_shape}
use Rattle.ipc_rules.specs.Sound.{Sound}
use Rattle.ipc_rules.specs.declared.state.Channel.{Channel}
use Rattle.ipc_rules.specs.declared.state.Table.{Table as Channels}
use Rattle.ipc_rules.proofs.AfterRevoke.{Revokes}
use Rattle.dispatcher_rules.specs.State.{no_job, with_job}
use Rattle.dispatcher_rules.specs.Close.{close_job_of}
use Rattle.dispatcher_rules.specs.declared.state.Desk.{Desk}
use Rattle.dispatcher_rules.specs.declared.state.Job.{Job}
use Rattle.dispatcher_rules.specs.declared.answers.JobClosing.{JobClosing}
use Rattle.dispatcher_rules.proofs.Ways.{close_ways}
use Rattle.dispatcher_rules.proofs.Calls.{end_kept}
use Rattle.isolation.specs.Runs.{closed}
use Rattle.isolation.specs.Jobs.{job_in, OpenIn}
use Rattle.isolation.specs.Own.{InJob, as_send, as_recv, OwnIn, StandsOnce}
use Rattle.isolation.proofs.Ended.{channel_ended, shut_stays}
use Rattle.isolation.proofs.Ids.{one_box, unlike}
use Rattle.isolation.proofs.Kept.{Kept}
use Rattle.isolation.proofs.Places.{other_job, new_job, places_kept, bound_still}
use Rattle.isolation.proofs.Slots.{left_standing, still_standing}

module _ (w : Desk) (κ : Kept w) (p : ℕ) (inside : p < 16) (mine : OpenIn w p) (u : Channels) (σ : Sound u) where
  abbrev t : Channels
  t = w.channels

  abbrev gone : Channel
  gone = (job_in w p).ends

  abbrev k : ℕ
  k = (κ.own p mine).box

  -- the desk without the job
  abbrev v : Desk
  v = record { dispatcher = with_job w.dispatcher p no_job; rows = forgotten_of w.rows gone.send gone.recv; channels = u }

  module _ (x : Revokes t k u) where
    -- a job that is open now is another, as it was
    another : (q : ℕ) → OpenIn v q → (q ≡ p → ⊥)
    another q o e =
        let shut : (job_in v q).«open» ≡ false = rw (e, new_job w.dispatcher p no_job κ.places inside) in
        not_both (job_in v q).«open» o shut

    same_job : (q : ℕ) → OpenIn v q → job_in v q ≡ job_in w q
    same_job q o = other_job w.dispatcher p no_job q (another q o)

    was_open : (q : ℕ) → OpenIn v q → OpenIn w q
    was_open q o = sym (ap (λ (j : Job). j.«open») (same_job q o)) ∙ o

    module _ (q : ℕ) (o : OpenIn v q) where
      abbrev m : OwnIn w q
      m = κ.own q (was_open q o)

      other_box : m.box ≡ k → ⊥
      other_box e = another q o (κ.apart q p (was_open q o) mine k (rw (← e) m.channel.sends) (κ.own p mine).channel.sends)

      -- an id that is none of the closed job's stands where it stood
      stands_left : (c : CapId) → (c ≡ gone.send → ⊥) → (c ≡ gone.recv → ⊥) → StandsOnce w.rows c → StandsOnce v.rows c
      stands_left c n l a =
          record {
            row = a.row;
            slot = a.slot;
            there = still_standing w.rows gone.send gone.recv a.row a.slot c a.there n l;
            only = λ r s h. a.only r s (left_standing w.rows gone.send gone.recv r s c h).0;
          }

      send_left : StandsOnce v.rows (job_in w q).ends.send
      send_left =
          stands_left (job_in w q).ends.send (λ e. other_box (one_box t _ _ send_right _ _ e m.channel.sends (κ.own p mine).channel.sends))
          (unlike t _ _ send_right _ m.channel.sends (κ.own p mine).channel.receives_only) m.send_stands

      recv_left : StandsOnce v.rows (job_in w q).ends.recv
      recv_left =
          stands_left (job_in w q).ends.recv (unlike t _ _ receive_right _ m.channel.receives (κ.own p mine).channel.sends_only)
          (λ e. other_box (one_box t _ _ receive_right _ _ e m.channel.receives (κ.own p mine).channel.receives)) m.recv_stands

      own_left : OwnIn v q
      own_left =
          let c = m.channel in
          let b = x.others m.box other_box in
          rw (same_job q o) (record {
            box = m.box;
            channel = record {
              live = b.live ∙ c.live;
              kind = b.ephemeral ∙ c.kind;
              sends = x.still _ _ m.box other_box c.sends;
              sends_only = shut_stays t u k x _ _ c.sends_only;
              receives = x.still _ _ m.box other_box c.receives;
              receives_only = shut_stays t u k x _ _ c.receives_only;
            };
            send_stands = send_left;
            holds = b.holds ∙ m.holds;
            recv_stands = recv_left;
          })

    in_left : (r : ℕ) (c : CapId) → (c ≡ gone.send → ⊥) → (c ≡ gone.recv → ⊥) → InJob w r c → InJob v r c
    in_left r c n l (as_send q o e) = let h = other_job w.dispatcher p no_job q (λ i. n (rw i at e)) in as_send q (rw h o) (rw h e)
    in_left r c n l (as_recv q o e b) = let h = other_job w.dispatcher p no_job q (λ i. l (rw i at e)) in as_recv q (rw h o) (rw h e) (rw h (bound_still w.dispatcher p no_job b))

    kept_left : Kept v
    kept_left =
        record {
          ready = record { bound = κ.ready.bound; sound = σ };
          places = places_kept w.dispatcher p no_job κ.places;
          shape = forgotten_shape w.rows gone.send gone.recv κ.shape;
          own = own_left;
          apart = λ q r o h j a b. κ.apart q r (was_open q o) (was_open r h) j (rw (← same_job q o) (x.only _ _ j a)) (rw (← same_job r h) (x.only _ _ j b));
          slots = λ r s c h. let l = left_standing w.rows gone.send gone.recv r s c h in in_left r c l.1 l.2 (κ.slots r s c l.0);
        }

pub close_keeps : (w : Desk) → Kept w → (p : ℕ) → Kept (closed (close_job_of w.dispatcher w.rows w.channels p))
close_keeps w κ p =
    close_ways w.dispatcher w.rows w.channels (λ (o : JobClosing). Kept (closed o)) p κ
    (λ l o. let e = channel_ended w.channels (job_in w p).ends.send (κ.own p o).box κ.ready.sound (κ.own p o).channel.sends in
    kept_left w κ p l o _ (end_kept w.dispatcher w.rows w.channels p _ κ.ready.sound) e.gone)
