-- Sequences of calls, joined steps and `lent`'s registers are runs of calls, `sequences_run`; in a run the public steps are their rules, `joined_public`.
-- Assumes nothing.
use mathlib.Core.Path.{◌≡◌, refl, ap, ◌∙◌}
use mathlib.Core.List.{List, [], ◌∷◌}
use Prim.Native.Nat.{ℕ}
use Rattle.cap.specs.declared.CapId.{CapId}
use Rattle.capslots.specs.Rows.{drain_of}
use Rattle.capslots.specs.Table.{Shape}
use Rattle.capslots.specs.declared.Table.{Table as Rows}
use Rattle.capslots.proofs.Calls.{seed_shape, install_shape, drain_shape}
use Rattle.ipc_rules.specs.declared.state.Table.{Table}
use Rattle.joined.specs.Steps.{spawn_of, leave_of, give_of}
use Rattle.joined.specs.declared.answers.Spawning.{Spawning}
use Rattle.joined.specs.declared.answers.Leaving.{Leaving}
use Rattle.joined.specs.declared.answers.Giving.{Giving}
use Rattle.joined.proofs.Ways.{spawn_ways, leave_ways, give_ways}
use Rattle.history.specs.Calls.{after}
use Rattle.history.specs.World.{World, run, Reached}
use Rattle.history.specs.Sequences.{Deed, call, lend, spawn, leave, give, rows, Both, after_deed, after_deeds, deed_calls, deeds_calls, SequencesRun, JoinedPublic}
use Rattle.history.proofs.Kept.{run_on, reached_sound, reached_run}
use Rattle.history.proofs.Public.{served}
use Rattle.history.proofs.Lent.{lent_calls}
use Rattle.history.proofs.Joined.{one_call, joined_runs}

-- ---- the rows keep their shape
module _ (t : Table) (u : Rows) (shape : Shape u) where
  pub spawn_shape : (r : ℕ) (words : List ℕ) → Shape (spawn_of t u r words).rows
  spawn_shape r words = spawn_ways t u (λ (x : Spawning). Shape x.rows) r words (λ _ _. shape) (λ _ _. seed_shape (drain_of u r).table r words (drain_shape u r shape))

  pub leave_shape : (r : ℕ) → Shape (leave_of t u r).rows
  leave_shape r = leave_ways t u (λ (x : Leaving). Shape x.rows) r (λ _ _. shape) (λ _. drain_shape u r shape)

  pub give_shape : (r s : ℕ) (c : CapId) → Shape (give_of t u r s c).rows
  give_shape r s c = give_ways t u (λ (x : Giving). Shape x.rows) r s c (λ _ _. shape) (λ _. install_shape u r s c shape)

deed_shape : (b : Both) (d : Deed) → Shape b.rows → Shape (after_deed b d).rows
unfolding after_deed
deed_shape b (call c) shape = shape
deed_shape b (lend slots fit) shape = shape
deed_shape b (spawn r words) shape = spawn_shape b.channels b.rows shape r words
deed_shape b (leave r) shape = leave_shape b.channels b.rows shape r
deed_shape b (give r s c) shape = give_shape b.channels b.rows shape r s c
deed_shape b (rows u shape) _ = shape

-- ---- one deed, and many
deed_run : (w : World) (b : Both) (d : Deed) → Reached w → w.table ≡ b.channels → Shape b.rows → (run w (deed_calls b d)).table ≡ (after_deed b d).channels
unfolding deed_calls after_deed run
deed_run w b (call c) reached e shape = one_call w c ∙ ap (λ t. after t c) e
deed_run w b (lend slots fit) reached e shape = rw (← e) (ap (λ (v : World). v.table) (lent_calls w reached slots fit).leaves)
deed_run w b (spawn r words) reached e shape = rw (← e) ((joined_runs w reached b.rows shape).spawn r words)
deed_run w b (leave r) reached e shape = rw (← e) ((joined_runs w reached b.rows shape).leave r)
deed_run w b (give r s c) reached e shape = rw (← e) ((joined_runs w reached b.rows shape).give r s c)
deed_run w b (rows u _) reached e shape = e

deeds_run : (w : World) (b : Both) (ds : List Deed) → Reached w → w.table ≡ b.channels → Shape b.rows → (run w (deeds_calls b ds)).table ≡ (after_deeds b ds).channels
unfolding deeds_calls after_deeds run
deeds_run w b [] reached e shape = e
deeds_run w b (d ∷ ds) reached e shape =
    ap (λ (v : World). v.table) (run_on w (deed_calls b d) (deeds_calls (after_deed b d) ds))
    ∙ deeds_run (run w (deed_calls b d)) (after_deed b d) ds (reached_run reached (deed_calls b d)) (deed_run w b d reached e shape) (deed_shape b d shape)

pub sequences_run : SequencesRun
sequences_run w reached u shape ds = deeds_run w _ ds reached refl shape

pub joined_public : JoinedPublic
joined_public w reached u =
    let s = reached_sound reached in
    record {
      spawn = λ r words. served w.table _ (spawn_of w.table u r words) s;
      leave = λ r. served w.table _ (leave_of w.table u r) s;
      give = λ r s' c. served w.table _ (give_of w.table u r s' c) s;
    }
