-- Where a part leaves off: at a place that fits the script, further on than it began where its buffer has 315 bytes or more. Assumes nothing.
use Rattle.std.specs.Prelude.{Err, Ok}
use mathlib.Core.Path.{◌≡◌, refl, ap, ◌∙◌}
use mathlib.Core.Bool.{true}
use mathlib.Core.List.{List, []}
use mathlib.Core.Logic.{◌⊎◌, inl, inr}
use Prim.Native.Nat.{ℕ, zero, suc, ◌+◌, ◌<◌, ◌≤◌}
use native.Mathlib.Omega.{arith}
use borrow.Author.Tests.{leb-false, le-leb, eqb-true}
use lib.Dec.{leb}
use lib.ListN.{length, drop, length-drop}
use lib.Seq.{drop-drop}
use Rattle.laws.proofs.Cases.{all_pick, not_both}
use Rattle.laws.proofs.Every.{and_both}
use Rattle.ipc_sound.specs.SoundTest.{sound_test}
use Rattle.ipc_sound.proofs.Decide as sounds
use Rattle.line.proofs.Sizes.{line_few, end_few, bad_few}
use Rattle.dispatcher_rules.specs.Bound.{bound_test}
use Rattle.dispatcher_rules.specs.Border.{ready_test}
use Rattle.dispatcher_rules.specs.declared.state.Desk.{Desk}
use Rattle.dispatcher_rules.proofs.Binds as binds
use Rattle.jobscript.specs.Read.{job_read_of}
use Rattle.jobscript.specs.Done.{ReadyDesk}
use Rattle.jobscript.specs.Operations.{apply_of}
use Rattle.jobscript.specs.declared.StepError.TheVariants.{NoRoom}
use Rattle.jobscript.proofs.Applied.{apply_few}
use Rattle.jobscript.proofs.Keeps.{start_ready}
use Rattle.jobtext.specs.Text.{Said, said_of, said_at, place_after, last_line, most, start_place}
use Rattle.jobtext.specs.Answer.{Spoken, spoken, after_text, last_in, part_from, place_fits, answer_of}
use Rattle.jobtext.specs.declared.Place.{Place}
use Rattle.jobtext.proofs.Saids.{all_reading, said_ready, said_used}

-- ---- a place fits a script, as a proposition
pub record Placed (script : List ℕ) (p : Place) : Type 0 where
  pub inside : p.offset ≤ length script
  pub counted : p.done ≤ p.offset
  pub ready : ReadyDesk p.desk

pub start_placed : (script : List ℕ) → Placed script start_place
start_placed script = record { inside = omega arith; counted = omega arith; ready = start_ready }

passes : (d : Desk) → ReadyDesk d → ready_test d.dispatcher d.channels ≡ true
unfolding ready_test
passes d w = and_both (sound_test d.channels) (bound_test d.dispatcher.count d.dispatcher.variants) (sounds.test_of d.channels w.sound) (binds.test_of _ _ w.bound)

pub fits : (script : List ℕ) (p : Place) → Placed script p → place_fits script p ≡ true
fits script p h =
    and_both _ _ (and_both (leb p.offset (length script)) (leb p.done p.offset) (le-leb _ _ h.inside) (le-leb _ _ h.counted)) (passes p.desk h.ready)

-- ---- no line is longer than 315 bytes
last_few : (number offset done : ℕ) → length (last_line number offset done) ≤ 315
unfolding last_line
last_few number offset done = all_pick (λ (l : List ℕ). length l ≤ 315) _ _ _ (λ _. omega (arith, end_few done)) (λ _. omega (arith, bad_few offset number))

said_few : (script : List ℕ) (number : ℕ) (d : Desk) → length (said_of script number d).text ≤ 315
unfolding said_of
said_few script number d =
    all_reading (λ (s : Said). length s.text ≤ 315) (job_read_of script) _ _ (omega arith) (omega arith) (omega arith)
    (λ op len _. line_few number op (apply_of op script d).number (apply_of op script d).values (apply_few script d op))

-- ---- where a part leaves off that began at place p, and at `at` of a buffer
pub record Leaves (script : List ℕ) (p : Place) (size at : ℕ) (s : Spoken) : Type 0 where
  pub settled : (s.answer ≡ Ok tt) ⊎ (s.answer ≡ Err NoRoom)
  pub placed : Placed script s.place
  pub back : p.offset ≤ s.place.offset
  pub onward : at + 315 ≤ size → s.answer ≡ Err NoRoom → p.offset < s.place.offset

module _ (script : List ℕ) (size : ℕ) where
  none_leaves : (at : ℕ) (p : Place) (line : List ℕ) → Placed script p → length line ≤ 315 → size < at + length line → Leaves script p size at (spoken [] (Err NoRoom) p)
  none_leaves at p line h l f = record { settled = inr refl; placed = h; back = omega arith; onward = λ r _. absurd (omega arith) }

  last_leaves : (at number offset : ℕ) (p : Place) → Placed script p → Leaves script p size at (last_in size at number offset p)
  unfolding last_in
  last_leaves at number offset p h =
      all_pick (Leaves script p size at) _ _ _
      (λ _. record { settled = inl refl; placed = h; back = omega arith; onward = λ _ x. let z : ◌≡◌ {A = ℕ} 0 1 = cc in absurd (omega arith) })
      (λ f. none_leaves at p (last_line number offset p.done) h (last_few number offset p.done) (leb-false _ _ f))

  part_leaves : (k at : ℕ) (rest : List ℕ) (p : Place) → rest ≡ drop p.offset script → Placed script p → Leaves script p size at (part_from k size at rest p)
  unfolding part_from
  part_leaves zero at rest p r h = last_leaves at 0 p.offset p h
  part_leaves (suc k) at rest p r h =
      all_pick (Leaves script p size at) _ _ _
      (λ t. all_pick (Leaves script p size at) _ _ _
      (λ e. let u = said_used rest (p.done + 1) p.desk (eqb-true _ 0 e) in
      all_pick (Leaves script p size at) _ _ _
      (λ f. further u
      (part_leaves k (at + length (said_at rest p).text) (drop (said_at rest p).used rest) (place_after p (said_at rest p))
      (ap (λ (m : List ℕ). drop (said_at rest p).used m) r ∙ drop-drop (said_at rest p).used p.offset script) (after u)))
      (λ f. none_leaves at p (said_at rest p).text h (said_few rest (p.done + 1) p.desk) (leb-false _ _ f)))
      (λ _. last_leaves at _ p.offset p h))
      (λ _. last_leaves at 0 p.offset p h)
    where
      after : (3 ≤ (said_at rest p).used) × ((said_at rest p).used ≤ length rest) → Placed script (place_after p (said_at rest p))
      after u =
          let l : length rest ≡ length (drop p.offset script) = ap length r in
          record {
            inside = omega (arith, length-drop p.offset script, h.inside);
            counted = omega (arith, h.counted);
            ready = said_ready rest (p.done + 1) p.desk h.ready;
          }

      further : (3 ≤ (said_at rest p).used) × ((said_at rest p).used ≤ length rest) → {s : Spoken} → Leaves script (place_after p (said_at rest p)) size (at + length (said_at rest p).text) s →
          Leaves script p size at (after_text (said_at rest p).text s)
      further u g = record { settled = g.settled; placed = g.placed; back = omega (arith, g.back); onward = λ _ _. omega (arith, g.back) }

  pub answer_leaves : (p : Place) → Placed script p → Leaves script p size 0 (answer_of script size p)
  unfolding answer_of
  answer_leaves p h =
      all_pick (Leaves script p size 0) _ _ _
      (λ _. all_pick (Leaves script p size 0) _ _ _ (λ _. last_leaves 0 28 most p h) (λ _. part_leaves _ 0 (drop p.offset script) p refl h))
      (λ f. absurd (not_both _ (fits script p h) f))
