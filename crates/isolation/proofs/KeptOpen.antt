-- An opening keeps it: its ids stand in the two slots that were found empty, its channel is new, and the other jobs are as they were. Assumes
-- nothing.
use Rattle.std.specs.Prelude.{Some, Ok}
use mathlib.Core.Path.{◌≡◌, refl, sym, ap, ◌∙◌}
use mathlib.Core.Bool.{true, false, not}
use mathlib.Core.Logic.{◌⊎◌, inl, inr, ⊎_elim}
use Prim.Native.Nat.{ℕ, ◌<◌}
use borrow.Author.Tests.{not-false}
use Rattle.laws.proofs.Bools.{same?}
use Rattle.laws.proofs.Cases.{not_both}
use Rattle.laws.proofs.Search.{lowest_at}
use Rattle.cap.specs.Rights.{send_right, receive_right}
use Rattle.cap.specs.Slot.{holding}
use Rattle.cap.specs.declared.CapId.{CapId}
use Rattle.capslots.specs.Table.{slot_in, with_slot, Shape}
use Rattle.capslots.specs.Rows.{empty_slot_of}
use Rattle.capslots.specs.declared.Table.{Table as Rows}
use Rattle.capslots.proofs.Empty.{empty_found}
use Rattle.capslots.proofs.Places.{shape_slot}
use Rattle.ipc_rules.specs.Sound.{Sound}
use Rattle.ipc_rules.specs.Opening.{opening_of}
use Rattle.ipc_rules.specs.Create.{create_of}
use Rattle.ipc_rules.specs.Holds.{registered}
use Rattle.ipc_rules.specs.declared.opening.Opening.TheVariants.{Opens}
use Rattle.ipc_rules.specs.declared.state.Channel.{Channel}
use Rattle.ipc_rules.specs.declared.state.Table.{Table as Channels}
use Rattle.ipc_rules.proofs.KeepsCalls.{registered_kept}
use Rattle.ipc_rules.proofs.KeepsCreate.{create_kept}
use Rattle.dispatcher_rules.specs.State.{variant_in, row_of, job_at, open_job, with_job}
use Rattle.dispatcher_rules.specs.Bound.{same_tag}
use Rattle.dispatcher_rules.specs.Open.{variant_of, free_place, send_given, both_given, open_job_of}
use Rattle.dispatcher_rules.specs.declared.state.Desk.{Desk}
use Rattle.dispatcher_rules.specs.declared.state.Job.{Job}
use Rattle.dispatcher_rules.specs.declared.state.Tag.{Tag}
use Rattle.dispatcher_rules.specs.declared.answers.JobOpening.{JobOpening}
use Rattle.dispatcher_rules.proofs.Ways.{open_ways}
use Rattle.isolation.specs.Runs.{opened}
use Rattle.isolation.specs.Jobs.{job_in, OpenIn, BoundTo}
use Rattle.isolation.specs.Own.{InJob, as_send, as_recv, OwnIn, StandsOnce}
use Rattle.isolation.proofs.Added.{Adds, channel_made, channel_added}
use Rattle.isolation.proofs.Ids.{unlike}
use Rattle.isolation.proofs.Kept.{Kept}
use Rattle.isolation.proofs.Places.{other_job, new_job, places_kept, bound_still}
use Rattle.isolation.proofs.Slots.{given_there, stands_there, stands_still, stood}

-- ---- in the rows: the send id in slot s of row x, then the receive id in slot q of row v
module _ (rows : Rows) (shape : Shape rows) (ends : Channel) (x s v q : ℕ) (first : empty_slot_of rows x ≡ Some s) where
  abbrev one : Rows
  one = with_slot rows x s (holding ends.send)

  abbrev both : Rows
  both = with_slot one v q (holding ends.recv)

  one_shape : Shape one
  one_shape = shape_slot rows shape x s (holding ends.send) (empty_found rows x s first).row

  module _ (second : empty_slot_of one v ≡ Some q) where
    both_shape : Shape both
    both_shape = shape_slot one one_shape v q (holding ends.recv) (empty_found one v q second).row

    recv_there : slot_in both v q ≡ holding ends.recv
    recv_there = stands_there one one_shape v q second ends.recv

    pub send_there : slot_in both x s ≡ holding ends.send
    send_there = stands_still one one_shape v q second ends.recv x s ends.send (stands_there rows shape x s first ends.send)

    pub stand_still : (r a : ℕ) (c : CapId) → slot_in rows r a ≡ holding c → slot_in both r a ≡ holding c
    stand_still r a c h = stands_still one one_shape v q second ends.recv r a c (stands_still rows shape x s first ends.send r a c h)

    -- what stands is the receive id in its slot, the send id in its slot, or stood before
    either_new : (r a : ℕ) (c : CapId) → slot_in both r a ≡ holding c →
        ((r ≡ v) × (a ≡ q) × (c ≡ ends.recv)) ⊎ (((r ≡ x) × (a ≡ s) × (c ≡ ends.send)) ⊎ (slot_in rows r a ≡ holding c))
    either_new r a c h =
        ⊎_elim (λ n. inl n) (λ b. inr (stood rows shape x s first ends.send r a c b))
        (stood one one_shape v q second ends.recv r a c h)

-- ---- on the desk: u is the channel table with the job's channel, in mailbox k
module _ (w : Desk) (κ : Kept w) (tag : Tag) (x s v q p k : ℕ) (ends : Channel) (u : Channels)
    (first : empty_slot_of w.rows x ≡ Some s)
    (second : empty_slot_of (with_slot w.rows x s (holding ends.send)) (row_of w.dispatcher v) ≡ Some q)
    (variant : variant_of w.dispatcher tag ≡ Some v) (place : free_place w.dispatcher ≡ Some p) (σ : Sound u) (n : Adds w.channels ends k u) where
  abbrev d : Desk
  d =
      record {
        dispatcher = with_job w.dispatcher p (open_job ends tag);
        rows = both w.rows κ.shape ends x s (row_of w.dispatcher v) q first;
        channels = u;
      }

  inside : p < 16
  inside = (lowest_at (λ i. (job_at w.dispatcher i).«open») 0 16 p place).below

  was_free : (job_in w p).«open» ≡ false
  was_free = (lowest_at (λ i. (job_at w.dispatcher i).«open») 0 16 p place).free

  its_job : job_in d p ≡ open_job ends tag
  its_job = new_job w.dispatcher p (open_job ends tag) κ.places inside

  -- a job that was open is another, as it was
  another : (i : ℕ) → OpenIn w i → (i ≡ p → ⊥)
  another i o e = not_both (job_in w p).«open» (rw e at o) was_free

  still_job : (i : ℕ) → OpenIn w i → job_in d i ≡ job_in w i
  still_job i o = other_job w.dispatcher p (open_job ends tag) i (another i o)

  bound_to : BoundTo d.dispatcher tag (row_of w.dispatcher v)
  bound_to =
      let f = lowest_at (λ i. not (same_tag (variant_in w.dispatcher.variants i).tag tag)) 0 w.dispatcher.count v variant in
      record { variant = v; among = f.below; tagged = not-false _ f.free; row = refl }

  -- ---- an id that stood is none of the new ones: it opened something
  opened_some : (r : ℕ) (c : CapId) → InJob w r c → (c ≡ ends.send → ⊥) × (c ≡ ends.recv → ⊥)
  opened_some r c (as_send i o e) =
      let a = (κ.own i o).channel.sends in
      ((λ h. unlike w.channels _ _ send_right _ a (n.no_send send_right) (sym e ∙ h)), (λ h. unlike w.channels _ _ send_right _ a (n.no_recv send_right) (sym e ∙ h)))
  opened_some r c (as_recv i o e b) =
      let a = (κ.own i o).channel.receives in
      ((λ h. unlike w.channels _ _ receive_right _ a (n.no_send receive_right) (sym e ∙ h)), (λ h. unlike w.channels _ _ receive_right _ a (n.no_recv receive_right) (sym e ∙ h)))

  stood_other : (r a : ℕ) (c : CapId) → slot_in w.rows r a ≡ holding c → (c ≡ ends.send → ⊥) × (c ≡ ends.recv → ⊥)
  stood_other r a c h = opened_some r c (κ.slots r a c h)

  new_slots : (r a : ℕ) (c : CapId) → slot_in d.rows r a ≡ holding c →
      ((r ≡ row_of w.dispatcher v) × (a ≡ q) × (c ≡ ends.recv)) ⊎ (((r ≡ x) × (a ≡ s) × (c ≡ ends.send)) ⊎ (slot_in w.rows r a ≡ holding c))
  new_slots = either_new w.rows κ.shape ends x s (row_of w.dispatcher v) q first second

  -- ---- the new job
  send_new : StandsOnce d.rows ends.send
  send_new =
      record {
        row = x;
        slot = s;
        there = send_there w.rows κ.shape ends x s (row_of w.dispatcher v) q first second;
        only = λ r a h. ⊎_elim (λ b. absurd (n.differ b.2)) (λ b. ⊎_elim (λ i. (i.0, i.1)) (λ o. absurd ((stood_other r a _ o).0 refl)) b) (new_slots r a ends.send h);
      }

  recv_new : StandsOnce d.rows ends.recv
  recv_new =
      record {
        row = row_of w.dispatcher v;
        slot = q;
        there = recv_there w.rows κ.shape ends x s (row_of w.dispatcher v) q first second;
        only = λ r a h. ⊎_elim (λ b. (b.0, b.1)) (λ b. ⊎_elim (λ i. absurd (n.differ (sym i.2))) (λ o. absurd ((stood_other r a _ o).1 refl)) b) (new_slots r a ends.recv h);
      }

  own_new : OwnIn d p
  own_new = rw its_job (record { box = k; channel = n.channel; send_stands = send_new; holds = n.holds; recv_stands = recv_new })

  -- ---- the others
  module _ (i : ℕ) (o : OpenIn w i) where
    abbrev m : OwnIn w i
    m = κ.own i o

    other_box : m.box ≡ k → ⊥
    other_box e = n.unopened (job_in w i).ends.send send_right (rw (← e) m.channel.sends)

    stands_other : (c : CapId) → StandsOnce w.rows c → StandsOnce d.rows c
    stands_other c a =
        let f = stood_other a.row a.slot c a.there in
        record {
          row = a.row;
          slot = a.slot;
          there = stand_still w.rows κ.shape ends x s (row_of w.dispatcher v) q first second a.row a.slot c a.there;
          only = λ r b h. ⊎_elim (λ e. absurd (f.1 e.2)) (λ e. ⊎_elim (λ y. absurd (f.0 y.2)) (λ y. a.only r b y) e) (new_slots r b c h);
        }

    own_other : OwnIn d i
    own_other =
        let c = m.channel in
        let b = n.others m.box other_box in
        rw (still_job i o) (record {
          box = m.box;
          channel = record {
            live = b.live ∙ c.live;
            kind = b.ephemeral ∙ c.kind;
            sends = n.same _ _ _ c.sends _ ∙ c.sends;
            sends_only = n.same _ _ _ c.sends _ ∙ c.sends_only;
            receives = n.same _ _ _ c.receives _ ∙ c.receives;
            receives_only = n.same _ _ _ c.receives _ ∙ c.receives_only;
          };
          send_stands = stands_other (job_in w i).ends.send m.send_stands;
          holds = b.holds ∙ m.holds;
          recv_stands = stands_other (job_in w i).ends.recv m.recv_stands;
        })

  -- ---- all of them: each place that is open is the new job's, or was open
  was_open : (i : ℕ) → (i ≡ p → ⊥) → OpenIn d i → OpenIn w i
  was_open i ne o = sym (ap (λ (j : Job). j.«open») (other_job w.dispatcher p (open_job ends tag) i ne)) ∙ o

  own_all : (i : ℕ) → OpenIn d i → OwnIn d i
  own_all i o = ⊎_elim (λ e. rw e own_new) (λ ne. own_other i (was_open i ne o)) (same? i p)

  -- a send id that opens a mailbox opens the new one, or opened it before
  new_box : (j : ℕ) → opening_of u (job_in d p).ends.send send_right ≡ Opens j → j ≡ k
  new_box j a = let b : opening_of u ends.send send_right ≡ Opens j = rw its_job at a in let c = sym b ∙ n.channel.sends in cc

  old_box : (i : ℕ) → (i ≡ p → ⊥) → OpenIn d i → (j : ℕ) → opening_of u (job_in d i).ends.send send_right ≡ Opens j → opening_of w.channels (job_in w i).ends.send send_right ≡ Opens j
  old_box i ne o j a =
      let h = was_open i ne o in
      let c = (κ.own i h).channel in
      sym (n.same _ _ _ c.sends send_right) ∙ (rw (still_job i h) at a)

  all_apart : (i j : ℕ) → OpenIn d i → OpenIn d j → (b : ℕ) → opening_of u (job_in d i).ends.send send_right ≡ Opens b → opening_of u (job_in d j).ends.send send_right ≡ Opens b → i ≡ j
  all_apart i j o h b y z = by (same? i p) (same? j p)
    where
      clash : (c : ℕ) → (c ≡ p → ⊥) → OpenIn d c → opening_of u (job_in d c).ends.send send_right ≡ Opens b → opening_of u (job_in d p).ends.send send_right ≡ Opens b → ⊥
      clash c ne g a e = n.unopened (job_in w c).ends.send send_right (rw (← new_box b e) (old_box c ne g b a))

      by : (i ≡ p) ⊎ (i ≡ p → ⊥) → (j ≡ p) ⊎ (j ≡ p → ⊥) → i ≡ j
      by (inl e) (inl f) = e ∙ sym f
      by (inl e) (inr f) = absurd (clash j f h z (rw e at y))
      by (inr e) (inl f) = absurd (clash i e o y (rw f at z))
      by (inr e) (inr f) = κ.apart i j (was_open i e o) (was_open j f h) b (old_box i e o b y) (old_box j f h b z)

  in_still : (r : ℕ) (c : CapId) → InJob w r c → InJob d r c
  in_still r c (as_send i o e) = as_send i (rw (still_job i o) o) (rw (still_job i o) e)
  in_still r c (as_recv i o e b) = as_recv i (rw (still_job i o) o) (rw (still_job i o) e) (rw (still_job i o) (bound_still w.dispatcher p (open_job ends tag) b))

  all_slots : (r a : ℕ) (c : CapId) → slot_in d.rows r a ≡ holding c → InJob d r c
  all_slots r a c h =
      ⊎_elim (λ b. as_recv p (rw its_job) (rw its_job b.2) (rw (its_job, b.0) bound_to))
      (λ b. ⊎_elim (λ e. as_send p (rw its_job) (rw its_job e.2)) (λ e. in_still r c (κ.slots r a c e)) b) (new_slots r a c h)

  pub kept_more : Kept d
  kept_more =
      record {
        ready = record { bound = κ.ready.bound; sound = σ };
        places = places_kept w.dispatcher p (open_job ends tag) κ.places;
        shape = both_shape w.rows κ.shape ends x s (row_of w.dispatcher v) q first second;
        own = own_all;
        apart = all_apart;
        slots = all_slots;
      }

-- ---- the call
-- what the two gives come to
pub both_given_lem : (made : Channels) (rows : Rows) (ends : Channel) (x s v q : ℕ) → empty_slot_of rows x ≡ Some s → empty_slot_of (send_given made rows ends x s).rows v ≡ Some q →
    (empty_slot_of (with_slot rows x s (holding ends.send)) v ≡ Some q)
    × (both_given made rows ends x s v q ≡ record {
      answer = Ok tt;
      channels = registered (registered made (holding ends.send)) (holding ends.recv);
      rows = with_slot (with_slot rows x s (holding ends.send)) v q (holding ends.recv);
    })
both_given_lem made rows ends x s v q first second =
    let e = given_there made rows x s ends.send first in
    let f : empty_slot_of (with_slot rows x s (holding ends.send)) v ≡ Some q = rw e at second in
    (f, rw e (given_there _ _ v q ends.recv f))

pub open_keeps : (w : Desk) → Kept w → (tag : Tag) (x : ℕ) → Kept (opened (open_job_of w.dispatcher w.rows w.channels tag x))
open_keeps w κ tag x =
    open_ways w.dispatcher w.rows w.channels (λ (o : JobOpening). Kept (opened o)) tag x (λ _ _. κ)
    (λ v p ends s q f.
    let t = w.channels in
    let b = both_given_lem (create_of t true).table w.rows ends x s (row_of w.dispatcher v) q f.first f.second in
    let n = channel_added t ends κ.ready.sound f.created in
    let kept = registered_kept _ (holding ends.recv) (registered_kept _ (holding ends.send) (create_kept t true κ.ready.sound)) in
    rw b.1 (kept_more w κ tag x s v q p n.box ends (channel_made t ends) f.first b.0 f.variant f.place kept n.is))
