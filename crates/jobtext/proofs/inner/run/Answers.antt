-- `jobtext::inner::run` meets its contract. The loop's invariant is `Going`: the desk is ready, and what was written with what is
-- left to run comes to the whole part. Assumes nothing.
use mathlib.Core.Path.{◌≡◌, sym, ◌∙◌}
use Prim.Native.Nat.{suc, ◌+◌, ◌-◌, ◌<◌}
use native.Mathlib.Omega.{arith}
use lib.ListN.{length}
use Rattle.jobtext.specs.Answer.{part_from}
use Rattle.jobtext.proofs.Runs.{Goes, begins, still_inside, tail_long, room_ends, fault_ends, script_ends, goes}
use Rattle.jobtext.proofs.inner.run.Goals as goal
use Rattle.jobtext.proofs.inner.run.Goals.{Else-number-ne-NONE, In-loop-rest}

-- one record more is left of the run's count
more : (c : In-loop-rest) → let p = c.loop-rest.place in c.args.from.done + length c.args.script.now - p.done ≡ suc (c.args.from.done + length c.args.script.now - (p.done + 1))
more c = let i = c.loop-rest.invariant in let l : 0 < length c.loop-rest.rest.now = c.loop-rest-test.true in omega (arith, i.grew, i.counted)

-- a turn that took its record
turned : (c : Else-number-ne-NONE) → let h = c.loop-rest in let s = c.args in Goes s.out.now c.tell-t.new.out h.rest.now h.place (part_from (length s.script.now) (length s.out.now) 0 s.script.now s.from) (s.from.done + length s.script.now - (h.place.done + 1)) c.tell-t.result
turned c = let t = c.tell-t in let h = c.loop-rest in let i = h.invariant in goes _ h.out h.at i.inside i.long i.same _ h.rest.now h.place _ _ (let i = c.loop-rest.invariant in let l : 0 < length c.loop-rest.rest.now = c.loop-rest-test.true in omega (arith, i.grew, i.counted)) c.loop-rest-test.true i.whole t.result t.new.out t.ensures.answer t.ensures.buffer (sym c.number-number.ensures ∙ c.if-number-ne-NONE.false)

pub loop-rest-init : goal.loop-rest-init
loop-rest-init c = begins _ _ _ c.requires.0

pub overflow_add-place : goal.overflow_add-place
overflow_add-place c = let i = c.loop-rest.invariant in
    let l : 0 < length c.loop-rest.rest.now = c.loop-rest-test.true in
    omega (arith, i.grew, i.counted, c.requires.1)

pub tell-t-requires : goal.tell-t-requires
tell-t-requires c = let i = c.loop-rest.invariant in (i.ready, i.inside)

pub returns-then-number-eq-NO_ROOM-clause-answer : goal.returns-then-number-eq-NO_ROOM-clause-answer
returns-then-number-eq-NO_ROOM-clause-answer c = (let more : let p = c.loop-rest.place in c.args.from.done + length c.args.script.now - p.done ≡ suc (c.args.from.done + length c.args.script.now - (p.done + 1)) = let i = c.loop-rest.invariant in let l : 0 < length c.loop-rest.rest.now = c.loop-rest-test.true in omega (arith, i.grew, i.counted) in let i = c.loop-rest.invariant in room_ends _ c.loop-rest.out c.loop-rest.at i.inside i.long i.same _ c.loop-rest.rest.now c.loop-rest.place _ _ more c.loop-rest-test.true i.whole c.tell-t.result c.tell-t.new.out c.tell-t.ensures.answer c.tell-t.ensures.buffer (sym c.number-number.ensures ∙ c.if-number-eq-NO_ROOM.true)).0

pub returns-then-number-eq-NO_ROOM-clause-buffer : goal.returns-then-number-eq-NO_ROOM-clause-buffer
returns-then-number-eq-NO_ROOM-clause-buffer c = (let more : let p = c.loop-rest.place in c.args.from.done + length c.args.script.now - p.done ≡ suc (c.args.from.done + length c.args.script.now - (p.done + 1)) = let i = c.loop-rest.invariant in let l : 0 < length c.loop-rest.rest.now = c.loop-rest-test.true in omega (arith, i.grew, i.counted) in let i = c.loop-rest.invariant in room_ends _ c.loop-rest.out c.loop-rest.at i.inside i.long i.same _ c.loop-rest.rest.now c.loop-rest.place _ _ more c.loop-rest-test.true i.whole c.tell-t.result c.tell-t.new.out c.tell-t.ensures.answer c.tell-t.ensures.buffer (sym c.number-number.ensures ∙ c.if-number-eq-NO_ROOM.true)).1

pub last-requires : goal.last-requires
last-requires c = still_inside c.loop-rest.out c.loop-rest.at _ _ c.tell-t.ensures.buffer c.loop-rest.invariant.inside

pub returns-then-number-ne-NONE-clause-answer : goal.returns-then-number-ne-NONE-clause-answer
returns-then-number-ne-NONE-clause-answer c = (let more : let p = c.loop-rest.place in c.args.from.done + length c.args.script.now - p.done ≡ suc (c.args.from.done + length c.args.script.now - (p.done + 1)) = let i = c.loop-rest.invariant in let l : 0 < length c.loop-rest.rest.now = c.loop-rest-test.true in omega (arith, i.grew, i.counted) in let i = c.loop-rest.invariant in let n = c.number-number.ensures in fault_ends _ c.loop-rest.out c.loop-rest.at i.inside i.long i.same _ c.loop-rest.rest.now c.loop-rest.place _ _ more c.loop-rest-test.true i.whole c.tell-t.result c.tell-t.new.out c.tell-t.ensures.answer c.tell-t.ensures.buffer (λ z. c.if-number-eq-NO_ROOM.false (n ∙ z)) (λ z. c.if-number-ne-NONE.true (n ∙ z)) (rw n at c.last.ensures.answer) (rw n at c.last.ensures.buffer)).0

pub returns-then-number-ne-NONE-clause-buffer : goal.returns-then-number-ne-NONE-clause-buffer
returns-then-number-ne-NONE-clause-buffer c = (let more : let p = c.loop-rest.place in c.args.from.done + length c.args.script.now - p.done ≡ suc (c.args.from.done + length c.args.script.now - (p.done + 1)) = let i = c.loop-rest.invariant in let l : 0 < length c.loop-rest.rest.now = c.loop-rest-test.true in omega (arith, i.grew, i.counted) in let i = c.loop-rest.invariant in let n = c.number-number.ensures in fault_ends _ c.loop-rest.out c.loop-rest.at i.inside i.long i.same _ c.loop-rest.rest.now c.loop-rest.place _ _ more c.loop-rest-test.true i.whole c.tell-t.result c.tell-t.new.out c.tell-t.ensures.answer c.tell-t.ensures.buffer (λ z. c.if-number-eq-NO_ROOM.false (n ∙ z)) (λ z. c.if-number-ne-NONE.true (n ∙ z)) (rw n at c.last.ensures.answer) (rw n at c.last.ensures.buffer)).1

pub slice_bounds-rest-count : goal.slice_bounds-rest-count
slice_bounds-rest-count c = let g = (turned (goal.at.slice_bounds-rest-count c).Else-number-ne-NONE) in omega (arith, g.most)

pub slice_bounds-rest-start : goal.slice_bounds-rest-start
slice_bounds-rest-start c = let g = (turned (goal.at.slice_bounds-rest-start c).Else-number-ne-NONE) in omega (arith, g.most)

pub overflow_add-place-in-loop-rest : goal.overflow_add-place-in-loop-rest
overflow_add-place-in-loop-rest c =
    let g = (turned (goal.at.overflow_add-place-in-loop-rest c).Else-number-ne-NONE) in
    let i = c.loop-rest.invariant in
    omega (arith, g.most, i.placed, c.requires.2)

pub overflow_add-place-in-loop-rest-2 : goal.overflow_add-place-in-loop-rest-2
overflow_add-place-in-loop-rest-2 c = let i = c.loop-rest.invariant in
    let l : 0 < length c.loop-rest.rest.now = c.loop-rest-test.true in
    omega (arith, i.grew, i.counted, c.requires.1)

pub loop-rest-smaller : goal.loop-rest-smaller
loop-rest-smaller c =
    let g = (turned (goal.at.loop-rest-smaller c).Else-number-ne-NONE) in
    omega (arith, g.least, g.most, tail_long c.loop-rest.rest.now c.tell-t.result.used)

pub loop-rest-preserved : goal.loop-rest-preserved
loop-rest-preserved c =
    let g = (turned (goal.at.loop-rest-preserved c).Else-number-ne-NONE) in
    let i = c.loop-rest.invariant in
    let e = tail_long c.loop-rest.rest.now c.tell-t.result.used in
    record {
      grew = omega (arith, i.grew);
      counted = omega (arith, i.grew, i.counted, g.least, g.most);
      placed = omega (arith, i.placed, g.most);
      inside = g.inside;
      long = g.long;
      same = g.same;
      ready = g.ready i.ready;
      whole = g.whole;
    }

pub last-requires-2 : goal.last-requires-2
last-requires-2 c = let i = c.loop-rest.invariant in i.inside

pub returns-clause-answer : goal.returns-clause-answer
returns-clause-answer c = (let i = c.loop-rest.invariant in script_ends _ c.loop-rest.out c.loop-rest.at i.inside i.long i.same _ c.loop-rest.rest.now c.loop-rest.place _ c.loop-rest-test.false i.whole c.last-2.ensures.answer c.last-2.ensures.buffer).0

pub returns-clause-buffer : goal.returns-clause-buffer
returns-clause-buffer c = (let i = c.loop-rest.invariant in script_ends _ c.loop-rest.out c.loop-rest.at i.inside i.long i.same _ c.loop-rest.rest.now c.loop-rest.place _ c.loop-rest-test.false i.whole c.last-2.ensures.answer c.last-2.ensures.buffer).1
