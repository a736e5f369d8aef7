-- `dispatcher::inner::opening::open` meets its contract. The variant and the place that were found are within the arrays. Assumes nothing.
use mathlib.Core.Path.{sym, ◌∙◌}
use Prim.Native.Nat.{◌<◌}
use native.Mathlib.Omega.{arith}
use Rattle.laws.proofs.Cases.{cases}
use Rattle.laws.proofs.Search.{lowest_at}
use Rattle.dispatcher_rules.specs.Open.{open_job_of}
use Rattle.dispatcher.proofs.inner.opening.open.Goals as goal
use Rattle.dispatcher.proofs.inner.opening.open.Goals.{In-Some}

-- the variant that was found is within its array
variant : (c : In-Some) → c.in-Some.v < 16
variant c = let f = lowest_at _ _ _ _ (sym c.find.ensures ∙ c.in-Some.is) in let few = c.requires.bound.few in omega arith

pub returns-in_default : goal.returns-in_default
unfolding open_job_of
returns-in_default c = search cases

pub returns-then-extractor-ge-ROWS : goal.returns-then-extractor-ge-ROWS
unfolding open_job_of
returns-then-extractor-ge-ROWS c = search cases

pub returns-in_default-free_place : goal.returns-in_default-free_place
unfolding open_job_of
returns-in_default-free_place c = search cases

pub offset_bounds-d-v : goal.offset_bounds-d-v
offset_bounds-d-v c = omega (arith, variant (goal.at.offset_bounds-d-v c).In-Some)

pub bounds-d-v : goal.bounds-d-v
bounds-d-v c = omega (arith, variant (goal.at.bounds-d-v c).In-Some)

pub make_job-requires : goal.make_job-requires
make_job-requires c =
    let place : c.in-Some-free_place.place < 16 = let f = lowest_at _ _ _ _ (sym c.free_place.ensures ∙ c.in-Some-free_place.is) in omega arith in
    (c.requires.sound, place)

pub returns : goal.returns
unfolding open_job_of
returns c = search cases
