-- A fresh start: what the log's `new` comes to, by what the channel table's own answers. Assumes nothing.
use Rattle.std.specs.Prelude.{Err, Ok, Result, ⊤}
use mathlib.Core.Path.{◌≡◌, sym, ap, ◌∙◌}
use mathlib.Core.Bool.{true, false}
use mathlib.Core.List.{List}
use Prim.Native.Nat.{ℕ}
use native.Mathlib.Omega.{arith}
use Rattle.laws.specs.Pick.{pick}
use Rattle.laws.proofs.Cases.{all_pick}
use Rattle.shown.specs.Shown.{shown}
use Rattle.shown.specs.declared.Shown.{Shown}
use Rattle.ipc_rules.specs.Answers.{new_number, new_values}
use Rattle.ipc_rules.specs.State.{sizes_of}
use Rattle.ipc_rules.specs.Make.{in_range, new_of}
use Rattle.ipc_rules.specs.declared.answers.NewError.TheVariants.{BadSizes}
use Rattle.ipc_rules.specs.declared.state.Sizes.{Sizes}
use Rattle.logread.specs.Little.{byte_at}
use Rattle.operations.specs.Done.{outcome, packed}
use Rattle.operations.specs.Operands.{sizes_at}
use Rattle.operations.specs.Channels.{all_fresh, fresh_by, new_done}
use Rattle.operations.specs.declared.Tables.{Tables}
use Rattle.operations.specs.declared.fresh.Fresh.{Fresh}
use Rattle.ipc_rules.specs.declared.answers.NewError.{NewError}
use Rattle.shown.specs.declared.Answered.{Answered}
use Rattle.ipc_rules.specs.declared.state.Table.{Table as Channels}

not_both_answers : {x : NewError} → ◌≡◌ {A = Result ⊤ NewError} (Ok tt) (Err x) → ⊥
not_both_answers e = let z : ◌≡◌ {A = ℕ} 0 1 = cc in omega arith

-- n is what the code made
module _ (m e d : ℕ) {n : Fresh} (g : n ≡ fresh_by (new_of m e d)) where
  out_of_range : {x : NewError} → n.answer ≡ Err x → in_range (sizes_of m e d) ≡ false
  unfolding new_of
  out_of_range {x = y} h =
      all_pick (λ (r : Answered (Result ⊤ NewError) Channels). r.answer ≡ Err y → in_range (sizes_of m e d) ≡ false) _ _ _ (λ _ x. absurd (not_both_answers x)) (λ f _. f)
      (sym (ap (λ (x : Fresh). x.answer) g) ∙ h)

  in_range_lem : n.answer ≡ Ok tt → in_range (sizes_of m e d) ≡ true
  unfolding new_of
  in_range_lem h =
      all_pick (λ (r : Answered (Result ⊤ NewError) Channels). r.answer ≡ Ok tt → in_range (sizes_of m e d) ≡ true) _ _ _ (λ y _. y) (λ _ x. absurd (not_both_answers (sym x)))
      (sym (ap (λ (x : Fresh). x.answer) g) ∙ h)

  pub made_fresh : in_range (sizes_of m e d) ≡ true → n.tables ≡ all_fresh m e d
  unfolding new_of pick
  made_fresh y = rw (g, y)

-- z are the sizes that the code read, and s what it shows
module _ (log : List ℕ) (t : Tables) {z : Sizes} (a : z ≡ sizes_at log 3) {n : Fresh} (g : n ≡ fresh_by (new_of z.mailboxes z.endpoints z.depth))
    {s : Shown} (q : s ≡ shown (new_number n.answer) (new_values n.answer)) where
  made : n ≡ fresh_by (new_of (byte_at log 3) (byte_at log 4) (byte_at log 5))
  made = g ∙ ap (λ (x : Sizes). fresh_by (new_of x.mailboxes x.endpoints x.depth)) a

  -- the code keeps the tables
  pub new_refused : {x : NewError} → n.answer ≡ Err x → outcome s t ≡ packed (new_done log t)
  unfolding new_done pick
  new_refused {x = BadSizes} h = rw (out_of_range (byte_at log 3) (byte_at log 4) (byte_at log 5) made h, q, h)

  pub new_made : n.answer ≡ Ok tt → outcome s n.tables ≡ packed (new_done log t)
  unfolding new_done pick
  new_made h = let f = in_range_lem (byte_at log 3) (byte_at log 4) (byte_at log 5) made h in rw (f, q, h, made_fresh (byte_at log 3) (byte_at log 4) (byte_at log 5) made f)
