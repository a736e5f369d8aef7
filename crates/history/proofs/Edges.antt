-- The starred edges of document 01, `edges_agree`, by one test that is computed over the whole table. Assumes nothing.
use mathlib.Core.Path.{◌≡◌, refl}
use mathlib.Core.Bool.{Bool, true, false, ◌&&◌}
use mathlib.Core.List.{List, [], ◌∷◌}
use Prim.Native.Nat.{ℕ}
use native.Mathlib.Omega.{arith}
use borrow.Author.Tests.{eqb-true}
use lib.Dec.{eqb}
use Rattle.laws.specs.Pick as picks
use Rattle.laws.specs.Search as places
use Rattle.laws.specs.Every as indices
use Rattle.laws.proofs.Every.{and_left, and_right}
use Rattle.cap.specs.Id.{class_of}
use Rattle.cap.specs.Slot.{from_slot}
use Rattle.cap.specs.Word as words
use Rattle.capslots.specs.Rows.{get_of, seed_of}
use Rattle.mint.specs.Generation.{next_generation}
use Rattle.mint.specs.Entries.{mint_with}
use Rattle.irqcap.specs.Table.{mint_of}
use Rattle.manifest.specs.Bind as binds
use Rattle.ipc_rules.specs.Create.{create_of}
use Rattle.history.specs.Edges.{Edge, Agree, done, row, edges, class_values, irq_mints, EdgesAgree}

-- ---- the test
unfoldable pub same : List ℕ → List ℕ → Bool
same [] [] = true
same [] (y ∷ ys) = false
same (x ∷ xs) [] = false
same (x ∷ xs) (y ∷ ys) = eqb x y && same xs ys

unfoldable pub all_agree : List Edge → Bool
all_agree [] = true
all_agree (e ∷ es) = same e.given e.said && all_agree es

-- ---- it means equality
same_is : (xs ys : List ℕ) → same xs ys ≡ true → xs ≡ ys
unfolding same
same_is [] [] h = refl
same_is [] (y ∷ ys) h = let z : ◌≡◌ {A = ℕ} 0 1 = cc in absurd (omega arith)
same_is (x ∷ xs) [] h = let z : ◌≡◌ {A = ℕ} 0 1 = cc in absurd (omega arith)
same_is (x ∷ xs) (y ∷ ys) h = rw (eqb-true x y (and_left (eqb x y) (same xs ys) h), same_is xs ys (and_right (eqb x y) (same xs ys) h))

pub agree_by : (es : List Edge) → all_agree es ≡ true → Agree es
unfolding all_agree
agree_by [] h = done
agree_by (e ∷ es) h =
    let t = same e.given e.said in
    row (same_is e.given e.said (and_left t (all_agree es) h)) (agree_by es (and_right t (all_agree es) h))

-- ---- over the table it is computed
computed : all_agree edges ≡ true
unfolding all_agree same class_values irq_mints class_of from_slot get_of seed_of next_generation mint_with mint_of create_of words.read_word words.or_vacant indices.every binds.bind_of binds.bind_slots binds.taken binds.with_place binds.bound binds.choice_from words.slots_of places.found places.lowest_free places.lowest picks.pick
computed = refl

pub edges_agree : EdgesAgree
edges_agree = agree_by edges computed
