-- `manifest::taken` meets its contract: each `?` settles one choice. Assumes nothing.
use mathlib.Core.Path.{◌≡◌, refl}
use mathlib.Core.List.{List, [], ◌∷◌}
use native.Mathlib.Omega.{arith}
use lib.ListN.{length, get_or}
use borrow.Author.Rules.{rules}
use Rattle.std.specs.Prelude.{Ok, Result, ⊤}
use Rattle.std.proofs.lemmas.Result.{err_from_is_err_and}
use Rattle.laws.proofs.Lists.{unmapped}
use Rattle.cap.specs.Slot.{vacant_slot}
use Rattle.cap.specs.declared.slot.Slot.{Slot}
use Rattle.manifest.specs.Bind.{with_place, taken}
use Rattle.manifest.proofs.taken.Goals as goal
use Rattle.manifest.specs.declared.BindError.{BindError}

-- an array of four, as its pattern takes it apart
apart : (cs : List (Result Slot BindError)) → length cs ≡ 4 →
    taken cs ≡ taken (get_or cs 0 (Ok vacant_slot) ∷ get_or cs 1 (Ok vacant_slot) ∷ get_or cs 2 (Ok vacant_slot) ∷ get_or cs 3 (Ok vacant_slot) ∷ [])
apart (a ∷ b ∷ c ∷ d ∷ []) h = refl
apart [] h = absurd (omega arith)
apart (a ∷ []) h = absurd (omega arith)
apart (a ∷ b ∷ []) h = absurd (omega arith)
apart (a ∷ b ∷ c ∷ []) h = absurd (omega arith)
apart (a ∷ b ∷ c ∷ d ∷ e ∷ cs) h = absurd (omega arith)

pub returns-in_err-a : goal.returns-in_err-a
unfolding taken
returns-in_err-a c =
    let p = err_from_is_err_and c.from_residual.result c.from_residual.ensures.1 in
    rw (apart c.args.choices (search (rules, unmapped)), c.in_err-a.was, p.1, p.2)

pub returns-in_err-b : goal.returns-in_err-b
unfolding taken with_place
returns-in_err-b c =
    let p = err_from_is_err_and c.from_residual-in_err-b.result c.from_residual-in_err-b.ensures.1 in
    rw (apart c.args.choices (search (rules, unmapped)), c.in_ok-a.was, c.in_err-b.was, p.1, p.2)

pub returns-in_err-c : goal.returns-in_err-c
unfolding taken with_place
returns-in_err-c c =
    let p = err_from_is_err_and c.from_residual-in_err-c.result c.from_residual-in_err-c.ensures.1 in
    rw (apart c.args.choices (search (rules, unmapped)), c.in_ok-a.was, c.in_ok-b.was, c.in_err-c.was, p.1, p.2)

pub returns-in_err-d : goal.returns-in_err-d
unfolding taken with_place
returns-in_err-d c =
    let p = err_from_is_err_and c.from_residual-in_err-d.result c.from_residual-in_err-d.ensures.1 in
    rw (apart c.args.choices (search (rules, unmapped)), c.in_ok-a.was, c.in_ok-b.was, c.in_ok-c.was, c.in_err-d.was, p.1, p.2)

pub returns : goal.returns
unfolding taken with_place
returns c = rw (apart c.args.choices (search (rules, unmapped)), c.in_ok-a.was, c.in_ok-b.was, c.in_ok-c.was, c.in_ok-d.was)
