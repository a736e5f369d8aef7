-- What the script's `new` comes to, by what the channel table's own `new` and the dispatcher's making answer. Assumes nothing.
use Rattle.std.specs.Prelude.{Err, Ok, Result, ⊤}
use mathlib.Core.Path.{◌≡◌, refl, sym, ap, ◌∙◌}
use mathlib.Core.Bool.{true, false}
use mathlib.Core.List.{List}
use Prim.Native.Nat.{ℕ}
use native.Mathlib.Omega.{arith}
use Rattle.laws.specs.Pick.{pick}
use Rattle.laws.proofs.Cases.{all_pick}
use Rattle.shown.specs.Shown.{shown}
use Rattle.shown.specs.declared.Shown.{Shown}
use Rattle.capslots.specs.Table.{fresh_table}
use Rattle.capslots.specs.declared.Table.{Table as Rows}
use Rattle.ipc_rules.specs.Answers.{new_number, new_values}
use Rattle.ipc_rules.specs.Make.{in_range, fresh_of, new_of}
use Rattle.ipc_rules.specs.declared.answers.NewError.TheVariants as new
use Rattle.ipc_rules.specs.declared.state.Sizes.{Sizes}
use Rattle.dispatcher_rules.specs.Answers.{make_number, make_values}
use Rattle.dispatcher_rules.specs.Bound.{bound_test}
use Rattle.dispatcher_rules.specs.Make.{make_of}
use Rattle.dispatcher_rules.specs.State.{fresh_dispatcher}
use Rattle.dispatcher_rules.specs.declared.state.Variant.{Variant}
use Rattle.dispatcher_rules.specs.declared.state.Desk.{Desk}
use Rattle.dispatcher_rules.specs.declared.answers.Making.{Making}
use Rattle.dispatcher_rules.specs.declared.answers.MakeError.TheVariants as make
use Rattle.jobscript.specs.Done.{outcome, packed, desk_of}
use Rattle.jobscript.specs.Operands.{sizes_at, count_at, variants_at}
use Rattle.jobscript.specs.Operations.{new_done}
use Rattle.ipc_rules.specs.declared.answers.NewError.{NewError}
use Rattle.shown.specs.declared.Answered.{Answered}
use Rattle.ipc_rules.specs.declared.state.Table.{Table as Channels}
use Rattle.dispatcher_rules.specs.declared.answers.MakeError.{MakeError}

-- ---- what an answer says of the test
not_both_sized : {x : NewError} → ◌≡◌ {A = Result ⊤ NewError} (Ok tt) (Err x) → ⊥
not_both_sized e = let z : ◌≡◌ {A = ℕ} 0 1 = cc in omega arith

not_both_made : {x : MakeError} → ◌≡◌ {A = Result ⊤ MakeError} (Ok tt) (Err x) → ⊥
not_both_made e = let z : ◌≡◌ {A = ℕ} 0 1 = cc in omega arith

sized : (z : Sizes) → (new_of z.mailboxes z.endpoints z.depth).answer ≡ Ok tt →
    (in_range z ≡ true) × ((new_of z.mailboxes z.endpoints z.depth).table ≡ fresh_of z)
unfolding new_of
sized z = all_pick (λ (r : Answered (Result ⊤ NewError) Channels). r.answer ≡ Ok tt → (in_range z ≡ true) × (r.table ≡ fresh_of z)) _ _ _
    (λ y _. (y, refl)) (λ _ e. absurd (not_both_sized (sym e)))

not_sized : (z : Sizes) → (new_of z.mailboxes z.endpoints z.depth).answer ≡ Err new.BadSizes → in_range z ≡ false
unfolding new_of
not_sized z = all_pick (λ (r : Answered (Result ⊤ NewError) Channels). r.answer ≡ Err new.BadSizes → in_range z ≡ false) _ _ _
    (λ _ e. absurd (not_both_sized e)) (λ n _. n)

bound : (n : ℕ) (vs : List Variant) → (make_of n vs).answer ≡ Ok tt → (bound_test n vs ≡ true) × ((make_of n vs).dispatcher ≡ fresh_dispatcher n vs)
unfolding make_of
bound n vs = all_pick (λ (r : Making). r.answer ≡ Ok tt → (bound_test n vs ≡ true) × (r.dispatcher ≡ fresh_dispatcher n vs)) _ _ _
    (λ y _. (y, refl)) (λ _ e. absurd (not_both_made (sym e)))

not_bound : (n : ℕ) (vs : List Variant) → (make_of n vs).answer ≡ Err make.BadVariants → bound_test n vs ≡ false
unfolding make_of
not_bound n vs = all_pick (λ (r : Making). r.answer ≡ Err make.BadVariants → bound_test n vs ≡ false) _ _ _
    (λ _ e. absurd (not_both_made e)) (λ m _. m)

-- ---- as the code has it: z are the sizes that it read, made the channel table, s what it shows
module _ (script : List ℕ) (d : Desk) {z : Sizes} (a : z ≡ sizes_at script) {made : Answered (Result ⊤ NewError) Channels} (g : made ≡ new_of z.mailboxes z.endpoints z.depth) where
  -- the sizes are refused
  pub new_not_sized : {x : NewError} → made.answer ≡ Err x → {s : Shown} → s ≡ shown (new_number made.answer) (new_values made.answer) →
      outcome s d ≡ packed (new_done script d)
  unfolding new_done pick
  new_not_sized {x = new.BadSizes} e q =
      let f : in_range (sizes_at script) ≡ false = ap in_range (sym a) ∙ not_sized z (sym (ap (λ (x : Answered (Result ⊤ NewError) Channels). x.answer) g) ∙ e) in
      rw (f, q, e) refl

  -- n and vs are the variants that it read, told what making answered
  module _ (e : made.answer ≡ Ok tt) {n : ℕ} (an : n ≡ count_at script) {vs : List Variant} (av : vs ≡ variants_at script)
      {told : Making} (h : told ≡ make_of n vs) {s : Shown} (q : s ≡ shown (make_number told.answer) (make_values told.answer)) where
    in_range_lem : (in_range z ≡ true) × (made.table ≡ fresh_of z)
    in_range_lem = rw g (sized z (sym (ap (λ (x : Answered (Result ⊤ NewError) Channels). x.answer) g) ∙ e))

    pub new_not_bound : {x : MakeError} → told.answer ≡ Err x → outcome s d ≡ packed (new_done script d)
    unfolding new_done pick
    new_not_bound {x = make.BadVariants} u =
        let y : in_range (sizes_at script) ≡ true = ap in_range (sym a) ∙ in_range_lem.0 in
        let f : bound_test (count_at script) (variants_at script) ≡ false = rw (← an, ← av) (not_bound n vs (sym (ap (λ (x : Making). x.answer) h) ∙ u)) in
        rw (y, f, q, u) refl

    pub new_made : told.answer ≡ Ok tt → {rows : Rows} → rows ≡ fresh_table →
        outcome s (desk_of told.dispatcher rows made.table) ≡ packed (new_done script d)
    unfolding new_done pick
    new_made u r =
        let y : in_range (sizes_at script) ≡ true = ap in_range (sym a) ∙ in_range_lem.0 in
        let b = bound n vs (sym (ap (λ (x : Making). x.answer) h) ∙ u) in
        let f : bound_test (count_at script) (variants_at script) ≡ true = rw (← an, ← av) b.0 in
        let k : told.dispatcher ≡ fresh_dispatcher (count_at script) (variants_at script) = rw (← an, ← av) (ap (λ (x : Making). x.dispatcher) h ∙ b.1) in
        let t : made.table ≡ fresh_of (sizes_at script) = in_range_lem.1 ∙ ap fresh_of a in
        rw (y, f, q, u, r, k, t) refl
