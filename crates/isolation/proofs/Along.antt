-- Over a run that does not close a place the calls' flows add up. Assumes nothing.
use mathlib.Core.Path.{◌≡◌, refl, sym, ap, ◌∙◌}
use mathlib.Core.Bool.{false}
use mathlib.Core.List.{List, [], ◌∷◌, ◌++◌, append-nil, append_assoc}
use Prim.Native.Nat.{ℕ}
use Rattle.cap.specs.Rights.{send_right}
use Rattle.ipc_rules.specs.Opening.{opening_of}
use Rattle.ipc_rules.specs.Views.{queue_of}
use Rattle.ipc_rules.specs.declared.opening.Opening.TheVariants.{Opens}
use Rattle.ipc_rules.specs.declared.state.Message.{Message}
use Rattle.dispatcher_rules.specs.declared.state.Desk.{Desk}
use Rattle.dispatcher_rules.specs.declared.state.Job.{Job}
use Rattle.isolation.specs.Runs.{JobCall, after, run}
use Rattle.isolation.specs.Jobs.{job_in, OpenIn, accepted, handed, closes, all_accepted, all_handed, Spares, none, more}
use Rattle.isolation.proofs.Flows.{Flows, call_flows}
use Rattle.isolation.proofs.Kept.{Kept}
use Rattle.isolation.proofs.Reaches.{after_kept}

through : (p k : ℕ) (w : Desk) → Kept w → OpenIn w p → opening_of w.channels (job_in w p).ends.send send_right ≡ Opens k →
    {cs : List JobCall} → Spares p cs → Flows w p k (run w cs) (all_handed w p cs) (all_accepted w p cs)
unfolding run all_handed all_accepted
through p k w κ o h none = record { job = refl; opens = h; order = sym (append-nil _) }
through p k w κ o h (more {c = c} {cs = cs} e s) =
    let f = call_flows w κ p k o h c e in
    let a = through p k (after w c) (after_kept w κ c) (rw f.job o) (rw f.job f.opens) s in
    record {
      job = a.job ∙ f.job;
      opens = ap (λ (j : Job). opening_of (run (after w c) cs).channels j.ends.send send_right) (sym f.job) ∙ a.opens;
      order =
          append_assoc (handed w p c) (all_handed (after w c) p cs) (queue_of (run (after w c) cs).channels k)
          ∙ ap (λ (l : List Message). handed w p c ++ l) a.order
          ∙ sym (append_assoc (handed w p c) (queue_of (after w c).channels k) (all_accepted (after w c) p cs))
          ∙ ap (λ (l : List Message). l ++ all_accepted (after w c) p cs) f.order
          ∙ append_assoc (queue_of w.channels k) (accepted w p c) (all_accepted (after w c) p cs);
    }

pub along : (w : Desk) → Kept w → (p k : ℕ) → OpenIn w p → opening_of w.channels (job_in w p).ends.send send_right ≡ Opens k →
    {cs : List JobCall} → Spares p cs → Flows w p k (run w cs) (all_handed w p cs) (all_accepted w p cs)
along w κ p k o h s = through p k w κ o h s

-- ---- a run in parts, and one call more
pub run_from : (w : Desk) (cs : List JobCall) (c : JobCall) (ds : List JobCall) → run w (cs ++ (c ∷ ds)) ≡ run (after (run w cs) c) ds
unfolding run
run_from w [] c ds = refl
run_from w (d ∷ cs) c ds = run_from (after w d) cs c ds

pub run_more : (w : Desk) (cs : List JobCall) (c : JobCall) → run w (cs ++ (c ∷ [])) ≡ after (run w cs) c
unfolding run
run_more w cs c = run_from w cs c []

pub spares_more : (p : ℕ) {cs : List JobCall} → Spares p cs → (c : JobCall) → closes p c ≡ false → Spares p (cs ++ (c ∷ []))
spares_more p none c e = more e none
spares_more p (more d s) c e = more d (spares_more p s c e)
