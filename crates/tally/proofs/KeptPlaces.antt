-- Opening and closing a job keep it, and so do the jobs' messages. Assumes nothing.
use Rattle.std.specs.Prelude.{Err, Ok, Result}
use mathlib.Core.Path.{◌≡◌, refl, sym, ap, ◌∙◌}
use mathlib.Core.Bool.{true}
use mathlib.Core.List.{List, ◌∷◌}
use mathlib.Core.Logic.{⊎_elim}
use Prim.Native.Nat.{ℕ, ◌≤◌}
use lib.ListN.{length}
use Rattle.laws.proofs.Bools.{same?}
use Rattle.laws.proofs.Cases.{not_both}
use Rattle.laws.proofs.Search.{lowest_at}
use Rattle.cap.specs.Rights.{send_right}
use Rattle.cap.specs.Slot.{holding}
use Rattle.cap.specs.declared.CapId.{CapId}
use Rattle.capslots.specs.Table.{with_slot}
use Rattle.capslots.specs.declared.Table.{Table as Rows}
use Rattle.capslots.proofs.Empty.{empty_found}
use Rattle.ipc_rules.specs.Create.{create_of}
use Rattle.ipc_rules.specs.Opening.{opening_of, opened}
use Rattle.ipc_rules.specs.declared.opening.Opening.{Opening}
use Rattle.ipc_rules.specs.declared.opening.Opening.TheVariants.{Opens, Shut}
use Rattle.ipc_rules.specs.declared.state.Channel.{Channel}
use Rattle.ipc_rules.specs.declared.state.Table.{Table as Channels}
use Rattle.ipc_rules.proofs.AfterRevoke.{Revokes}
use Rattle.dispatcher_rules.specs.Answers.{open_number}
use Rattle.dispatcher_rules.specs.State.{job_at, row_of, no_job, open_job, with_job}
use Rattle.dispatcher_rules.specs.Open.{open_job_of}
use Rattle.dispatcher_rules.specs.Close.{end_of, close_job_of}
use Rattle.dispatcher_rules.specs.declared.state.Dispatcher.{Dispatcher}
use Rattle.dispatcher_rules.specs.declared.state.Job.{Job}
use Rattle.dispatcher_rules.specs.declared.state.Tag.{Tag}
use Rattle.dispatcher_rules.specs.declared.answers.JobOpening.{JobOpening}
use Rattle.dispatcher_rules.specs.declared.answers.JobClosing.{JobClosing}
use Rattle.dispatcher_rules.specs.declared.answers.OpenError.TheVariants as toOpen
use Rattle.dispatcher_rules.specs.Bound.{Bound}
use Rattle.dispatcher_rules.proofs.Ways.{open_ways, close_ways}
use Rattle.isolation.proofs.Ended.{channel_ended}
use Rattle.isolation.proofs.KeptOpen.{both_given_lem}
use Rattle.isolation.proofs.Places.{other_job, new_job, places_kept}
use Rattle.tally.specs.Runs.{as_send, as_recv, Made, last, before, if_created, if_opened}
use Rattle.tally.proofs.Tallied.{Tallied}
use Rattle.tally.proofs.KeptChannels.{create_keeps, revoke_keeps}
use Rattle.tally.proofs.KeptSteps.{put_keeps}
use Rattle.tally.proofs.KeptJobs.{forget_keeps}
use Rattle.dispatcher_rules.specs.declared.answers.OpenedJob.{OpenedJob}
use Rattle.dispatcher_rules.specs.declared.answers.OpenError.{OpenError}

-- the ids of each open job are a creation's, and the bindings keep making's rules
pub record Places (d : Dispatcher) (l : List Channel) : Type 0 where
  pub bound : Bound d.count d.variants
  pub full : length d.jobs ≡ 16
  pub made : (p : ℕ) → (job_at d p).«open» ≡ true → Made (job_at d p).ends l

no_opened : (a : Result OpenedJob OpenError) (l : List Channel) → (open_number a ≡ 0 → ⊥) → if_opened a l ≡ l
unfolding if_opened
no_opened (Ok j) l n = absurd (n refl)
no_opened (Err toOpen.NoVariant) l n = refl
no_opened (Err toOpen.BadRow) l n = refl
no_opened (Err toOpen.JobsFull) l n = refl
no_opened (Err toOpen.NoMailbox) l n = refl
no_opened (Err toOpen.NoEndpoint) l n = refl
no_opened (Err toOpen.BadSlot) l n = refl
no_opened (Err toOpen.BadTable) l n = refl

module _ (t : Channels) (rows : Rows) (d : Dispatcher) (l : List Channel) (x : Tallied t rows l) (y : Places d l) where
  unfoldable pub Keeps : JobOpening → Type 0
  Keeps o = length (if_opened o.answer l) ≤ 65535 → Tallied o.channels o.rows (if_opened o.answer l) × Places o.dispatcher (if_opened o.answer l)

  pub open_keeps : (tag : Tag) (e : ℕ) → Keeps (open_job_of d rows t tag e)
  unfolding Keeps if_opened if_created
  open_keeps tag e =
      open_ways d rows t Keeps tag e (λ a n _. rw (no_opened a l n) (x, y))
      (λ v p ends s q f b.
      let g = both_given_lem (create_of t true).table rows ends e s (row_of d v) q f.first f.second in
      let c = f.created in
      let made : Tallied (create_of t true).table rows (ends ∷ l) = rw c at (create_keeps t rows l x true (rw c b)) in
      let a = empty_found rows e s f.first in
      let one = put_keeps made e s ends.send a.row a.slot a.empty (λ _. as_send refl) in
      let h = empty_found (with_slot rows e s (holding ends.send)) (row_of d v) q g.0 in
      let two = put_keeps one (row_of d v) q ends.recv h.row h.slot h.empty (λ _. as_recv refl) in (
        rw g.1 two,
        record {
          bound = y.bound;
          full = places_kept d p (open_job ends tag) y.full;
          made = λ i o. ⊎_elim
              (λ n. let w = new_job d p (open_job ends tag) y.full (lowest_at (λ z. (job_at d z).«open») 0 16 p f.place).below in let z : job_at (with_job d p (open_job ends tag)) i ≡ open_job ends tag = ap (job_at (with_job d p (open_job ends tag))) n ∙ w in rw z last)
              (λ n. let w = other_job d p (open_job ends tag) i n in rw w (before (y.made i (sym (ap (λ (j : Job). j.«open») w) ∙ o)))) (same? i p);
        },
      ))

  -- ---- a closing
  Closes : JobClosing → Type 0
  Closes o = Tallied o.channels o.rows l × Places o.dispatcher l

  ended : (c : CapId) → (Tallied (end_of t c).channels rows l) × (opening_of (end_of t c).channels c send_right ≡ Shut)
  unfolding end_of opened
  ended c = by (opening_of t c send_right) refl
    where
      by : (o : Opening) → opening_of t c send_right ≡ o → (Tallied (end_of t c).channels rows l) × (opening_of (end_of t c).channels c send_right ≡ Shut)
      by Shut e = (rw e x, rw e e)
      by (Opens k) e =
          let r = (channel_ended t c k x.sound e).gone in
          (rw e (revoke_keeps t rows l x c), gone r (opening_of (end_of t c).channels c send_right) refl)
        where
          gone : Revokes t k (end_of t c).channels → (o : Opening) → opening_of (end_of t c).channels c send_right ≡ o → o ≡ Shut
          gone r Shut h = refl
          gone r (Opens j) h = absurd (r.nothing c send_right (h ∙ ap Opens (let z = sym (r.only c send_right j h) ∙ e in cc)))

  pub close_keeps : (p : ℕ) → let o = close_job_of d rows t p in Tallied o.channels o.rows l × Places o.dispatcher l
  unfolding Closes
  close_keeps p =
      close_ways d rows t Closes p (x, y)
      (λ b o.
      let ends = (job_at d p).ends in
      let u = ended ends.send in (
        forget_keeps u.0 ends.send ends.recv u.1 (u.0.shut ends (y.made p o)),
        record {
          bound = y.bound;
          full = places_kept d p no_job y.full;
          made = λ i h. ⊎_elim
              (λ n. let w = new_job d p no_job y.full b in absurd (not_both _ h (ap (λ (j : Job). j.«open») (ap (job_at (with_job d p no_job)) n ∙ w))))
              (λ n. let w = other_job d p no_job i n in rw w (y.made i (sym (ap (λ (j : Job). j.«open») w) ∙ h))) (same? i p);
        },
      ))
