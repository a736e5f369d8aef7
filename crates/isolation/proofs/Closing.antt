-- What a closing leaves. Assumes nothing.
use Rattle.std.specs.Prelude.{Err, Ok}
use mathlib.Core.Path.{◌≡◌, refl, sym, ap, ◌∙◌}
use Prim.Native.Nat.{ℕ}
use Rattle.cap.specs.Rights.{send_right, receive_right}
use Rattle.cap.specs.declared.CapId.{CapId}
use Rattle.cap.specs.declared.CapRights.{CapRights}
use Rattle.ipc_rules.specs.State.{mailbox_live}
use Rattle.ipc_rules.specs.Opening.{opening_of}
use Rattle.ipc_rules.specs.Views.{waiter_of}
use Rattle.ipc_rules.specs.declared.opening.Opening.{Opening}
use Rattle.ipc_rules.specs.declared.opening.Opening.TheVariants.{Opens, Shut}
use Rattle.ipc_rules.specs.declared.state.Table.{Table as Channels}
use Rattle.ipc_rules.proofs.AfterRevoke.{Revokes}
use Rattle.ipc_rules.proofs.Openings.{opened_of}
use Rattle.dispatcher_rules.specs.State.{job_at, no_job}
use Rattle.dispatcher_rules.specs.Close.{close_refused, job_closed, close_job_of}
use Rattle.dispatcher_rules.specs.declared.state.Desk.{Desk}
use Rattle.dispatcher_rules.specs.declared.state.Job.{Job}
use Rattle.dispatcher_rules.specs.declared.answers.JobClosing.{JobClosing}
use Rattle.dispatcher_rules.specs.declared.answers.CloseError.TheVariants.{BadTable}
use Rattle.isolation.specs.Runs.{closing, after}
use Rattle.isolation.specs.Jobs.{job_in, OpenIn}
use Rattle.isolation.specs.Closing.{ClosingEnds}
use Rattle.isolation.proofs.Ended.{channel_ended}
use Rattle.isolation.proofs.Kept.{Kept}
use Rattle.isolation.proofs.Opened.{close_done}
use Rattle.isolation.proofs.Places.{new_job, open_inside}
use Rattle.isolation.proofs.Reaches.{serves, all_kept}

-- an id that opened the mailbox that is gone opens nothing
shut : (t u : Channels) (k : ℕ) → Revokes t k u → (c : CapId) (some : CapRights) → opening_of t c some ≡ Opens k → (need : CapRights) → opening_of u c need ≡ Shut
shut t u k r c some o need = by (opening_of u c need) refl
  where
    by : (x : Opening) → opening_of u c need ≡ x → x ≡ Shut
    by Shut h = refl
    by (Opens j) h =
        let e : j ≡ k = sym (opened_of t c need j (r.only c need j h)).names ∙ (opened_of t c some k o).names in
        absurd (r.nothing c need (h ∙ ap Opens e))

closing_is : (w : Desk) → Kept w → (p : ℕ) → OpenIn w p → closing w p ≡ job_closed w.dispatcher w.rows w.channels p (job_in w p)
closing_is w κ p o =
    serves w.dispatcher w.channels κ.ready (close_refused (Err BadTable) w.dispatcher w.rows w.channels) (close_job_of w.dispatcher w.rows w.channels p)
    ∙ close_done w κ p (open_inside w.dispatcher p κ.places o) o

pub closing_ends : ClosingEnds
unfolding after
closing_ends w ρ p o mine =
    let κ = all_kept w ρ in
    let c = mine.channel in
    let e = channel_ended w.channels (job_in w p).ends.send mine.box κ.ready.sound c.sends in
    let is = closing_is w κ p o in
    record {
      answers = ap (λ (x : JobClosing). x.answer) is ∙ ap Ok e.waiter;
      nobody_waits = ap (λ (x : JobClosing). waiter_of x.channels mine.box) is ∙ e.gone.waiter;
      gone = ap (λ (x : JobClosing). mailbox_live x.channels mine.box) is ∙ e.gone.live;
      send_shut = λ need. ap (λ (x : JobClosing). opening_of x.channels (job_in w p).ends.send need) is ∙ shut _ _ _ e.gone _ send_right c.sends need;
      recv_shut = λ need. ap (λ (x : JobClosing). opening_of x.channels (job_in w p).ends.recv need) is ∙ shut _ _ _ e.gone _ receive_right c.receives need;
      free = ap (λ (x : JobClosing). (job_at x.dispatcher p).«open») is ∙ ap (λ (j : Job). j.«open») (new_job w.dispatcher p no_job κ.places (open_inside w.dispatcher p κ.places o));
    }
