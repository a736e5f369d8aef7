-- `oplog::replay::replay` meets its contract. Assumes nothing.
use Prim.Native.Nat.{◌+◌, ◌-◌, ◌≤◌, ◌<◌}
use lib.ListN.{length, take, drop}
use native.Mathlib.Omega.{arith}
use mathlib.Core.Path.{sym, ◌∙◌}
use Rattle.laws.proofs.Lists.{unmapped}
use Rattle.ipc_rules.specs.State.{Shape}
use Rattle.ipc_sound.proofs.Decide.{sound_of}
use Rattle.oplog.proofs.Runs.{tail_long}
use Rattle.oplog.proofs.Replays.{refuses, inside, counted, sound_test_lem, too_long, ran_within, no_room, ends}
use Rattle.oplog.proofs.Printed.{ran_inside}
use borrow.Author.Rules.{rules}
use Rattle.oplog.proofs.replay.replay.Goals as goal

pub returns-then-not-offset-log-clause-answer : goal.returns-then-not-offset-log-clause-answer
returns-then-not-offset-log-clause-answer c = (refuses _ _ _ _ c.sound-sound.ensures.0 c.if-not-offset-log.true).0

pub returns-then-not-offset-log-clause-buffer : goal.returns-then-not-offset-log-clause-buffer
returns-then-not-offset-log-clause-buffer c = (refuses _ _ _ _ c.sound-sound.ensures.0 c.if-not-offset-log.true).1

pub returns-then-log-gt-MOST-clause-answer : goal.returns-then-log-gt-MOST-clause-answer
returns-then-log-gt-MOST-clause-answer c = (too_long _ _ _ _ c.sound-sound.ensures.0 c.if-not-offset-log.false c.if-log-gt-MOST.true c.last.ensures.answer c.last.ensures.buffer).0

pub returns-then-log-gt-MOST-clause-buffer : goal.returns-then-log-gt-MOST-clause-buffer
returns-then-log-gt-MOST-clause-buffer c = (too_long _ _ _ _ c.sound-sound.ensures.0 c.if-not-offset-log.false c.if-log-gt-MOST.true c.last.ensures.answer c.last.ensures.buffer).1

pub slice_bounds-run-count : goal.slice_bounds-run-count
slice_bounds-run-count c = inside c.args.log.now c.args.out.now c.args.from _ c.sound-sound.ensures.0 c.if-not-offset-log.false

pub slice_bounds-run-start : goal.slice_bounds-run-start
slice_bounds-run-start c = omega (arith, inside c.args.log.now c.args.out.now c.args.from _ c.sound-sound.ensures.0 c.if-not-offset-log.false)

pub run-ran-requires : goal.run-ran-requires
run-ran-requires c =
    let shape : Shape c.args.from.tables.channels = record { endpoints = search (rules, unmapped); mailboxes = search (rules, unmapped); messages = search (rules, unmapped) } in
    let l = c.if-log-gt-MOST.false in
    let i = inside c.args.log.now c.args.out.now c.args.from _ c.sound-sound.ensures.0 c.if-not-offset-log.false in
    let d = counted c.args.log.now c.args.out.now c.args.from _ c.sound-sound.ensures.0 c.if-not-offset-log.false in
    let e = tail_long c.args.log.now c.args.from.offset in
    (sound_of _ shape (sound_test_lem c.args.log.now c.args.out.now c.args.from _ c.sound-sound.ensures.0 c.if-not-offset-log.false), omega arith)

pub overflow_add-reached : goal.overflow_add-reached
overflow_add-reached c = let l = c.if-log-gt-MOST.false in
    let i = inside c.args.log.now c.args.out.now c.args.from _ c.sound-sound.ensures.0 c.if-not-offset-log.false in
    let e = tail_long c.args.log.now c.args.from.offset in
    let w : c.run-ran.result.offset ≤ length (take (length c.args.log.now - c.args.from.offset) (drop c.args.from.offset c.args.log.now)) = ran_within (take (length c.args.log.now - c.args.from.offset) (drop c.args.from.offset c.args.log.now)) c.args.from.done c.args.out.now c.args.from.tables c.run-ran.ensures.answer in
    let g : c.args.from.offset + c.run-ran.result.offset < 18446744073709551616 = omega arith in
    record { fits = g }

pub returns-then-number-eq-NO_ROOM-clause-answer : goal.returns-then-number-eq-NO_ROOM-clause-answer
returns-then-number-eq-NO_ROOM-clause-answer c = (no_room c.args.log.now c.args.out.now c.args.from _ c.sound-sound.ensures.0 c.if-not-offset-log.false c.if-log-gt-MOST.false c.run-ran.result _ c.run-ran.ensures.answer c.run-ran.ensures.buffer (sym c.number-number.ensures ∙ c.if-number-eq-NO_ROOM.true)).0

pub returns-then-number-eq-NO_ROOM-clause-buffer : goal.returns-then-number-eq-NO_ROOM-clause-buffer
returns-then-number-eq-NO_ROOM-clause-buffer c = (no_room c.args.log.now c.args.out.now c.args.from _ c.sound-sound.ensures.0 c.if-not-offset-log.false c.if-log-gt-MOST.false c.run-ran.result _ c.run-ran.ensures.answer c.run-ran.ensures.buffer (sym c.number-number.ensures ∙ c.if-number-eq-NO_ROOM.true)).1

pub last-requires-2 : goal.last-requires-2
last-requires-2 c = rw (c.run-ran.ensures.answer, c.run-ran.ensures.buffer) (ran_inside (take (length c.args.log.now - c.args.from.offset) (drop c.args.from.offset c.args.log.now)) c.args.out.now c.args.from.done c.args.from.tables)

pub returns-clause-answer : goal.returns-clause-answer
returns-clause-answer c = (let n = c.number-number.ensures in ends c.args.log.now c.args.out.now c.args.from _ c.sound-sound.ensures.0 c.if-not-offset-log.false c.if-log-gt-MOST.false c.run-ran.result _ c.run-ran.ensures.answer c.run-ran.ensures.buffer (λ z. c.if-number-eq-NO_ROOM.false (n ∙ z)) (rw n at c.last-2.ensures.answer) (rw n at c.last-2.ensures.buffer)).0

pub returns-clause-buffer : goal.returns-clause-buffer
returns-clause-buffer c = (let n = c.number-number.ensures in ends c.args.log.now c.args.out.now c.args.from _ c.sound-sound.ensures.0 c.if-not-offset-log.false c.if-log-gt-MOST.false c.run-ran.result _ c.run-ran.ensures.answer c.run-ran.ensures.buffer (λ z. c.if-number-eq-NO_ROOM.false (n ∙ z)) (rw n at c.last-2.ensures.answer) (rw n at c.last-2.ensures.buffer)).1
