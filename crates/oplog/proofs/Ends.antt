-- A replay into buffers of 315 bytes or more comes to its end, `parts_end` and `replays_end`: each part that ends for want of room has gone
-- forward in the log. Assumes nothing.
use Rattle.std.specs.Prelude.{Err, Ok, Result}
use mathlib.Core.Path.{◌≡◌, refl, subst}
use mathlib.Core.List.{List}
use mathlib.Core.Logic.{◌⊎◌, inl, inr, ⊎_elim}
use Prim.Native.Nat.{ℕ, zero, suc, ◌-◌, ◌<◌}
use native.Mathlib.Omega.{arith}
use lib.Dec.{ltb, eqb}
use lib.ListN.{length}
use Rattle.laws.specs.Refusals as no
use Rattle.laws.proofs.Cases.{all_pick, not_both}
use Rattle.line.specs.Put.{written, put_of}
use Rattle.line.specs.declared.RoomError.TheVariants.{NoRoom as Crowded}
use Rattle.oplog.specs.Step.{step_number, writing}
use Rattle.oplog.specs.Text.{most, text_at, start_of}
use Rattle.oplog.specs.Replay.{place_fits, Filled, filled, last_line, last_of, ending_of, ran_of, replay_of, Placed, Prints}
use Rattle.oplog.specs.Replay as whole
use Rattle.oplog.specs.Ends.{PrintsInto, last, next, Roomy, PartsEnd, ReplaysEnd}
use Rattle.oplog.specs.declared.StepError.TheVariants.{NoRoom}
use Rattle.oplog.specs.declared.replay.Place.{Place}
use Rattle.oplog.proofs.Printed.{fits, continues, start_placed}
use Rattle.oplog.proofs.Progress.{moves_on}
use Rattle.line.specs.declared.RoomError.{RoomError}

-- ---- a part is the last one, or ends for want of room
abbrev Answered : Filled → Type 0
Answered f = (f.part.answer ≡ Ok tt) ⊎ (f.part.answer ≡ Err NoRoom)

last_answered : (out : List ℕ) (at number offset : ℕ) (p : Place) → Answered (last_of out at number offset p)
unfolding last_of writing
last_answered out at number offset p = by (put_of out at line)
  where
    line : List ℕ
    line = last_line number offset p.done

    by : (r : Result ℕ RoomError) → Answered (writing r (filled (Err NoRoom) at p (written out at line)) (λ n. filled (Ok tt) n p (written out at line)))
    by (Ok n) = inl refl
    by (Err Crowded) = inr refl

answered : (log : List ℕ) (p : Place) → Placed log p → (out : List ℕ) → Answered (replay_of log out p)
unfolding replay_of ending_of
answered log p h out =
    all_pick Answered (place_fits log p) _ _ (λ _.
    all_pick Answered (ltb most (length log)) _ _ (λ _. last_answered out 0 no.too_long most p) (λ _.
    all_pick Answered (eqb (step_number (ran_of log out p).answer.answer) no.no_room) _ _ (λ _. inr refl) (λ _. last_answered _ _ _ _ _)))
    (λ f. absurd (not_both _ (fits log p h out) f))

-- ---- all parts
module _ (log : List ℕ) (supply : ℕ → List ℕ) (roomy : Roomy supply) where
  -- k bounds what is left of the log
  ends : (k i : ℕ) (p : Place) → Placed log p → length log - p.offset < k → PrintsInto log supply i p (text_at log p)
  ends zero i p h few = absurd (omega arith)
  ends (suc k) i p h few =
      let out = supply i in
      let c = continues log p h out in
      ⊎_elim
      (λ a. subst (λ (text : List ℕ). PrintsInto log supply i p text) (c.took a) (last a))
      (λ a.
      let onward = moves_on log out p (roomy i) a in
      let inside = c.again.inside in
      subst (λ (text : List ℕ). PrintsInto log supply i p text) (c.left a) (next a (ends k (suc i) (replay_of log out p).part.place c.again (omega arith))))
      (answered log p h out)

pub parts_end : PartsEnd
parts_end log supply roomy p h = ends log supply roomy (suc (length log - p.offset)) 0 p h (omega arith)

pub replays_end : ReplaysEnd
replays_end log supply roomy = parts_end log supply roomy start_of (start_placed log)

-- whatever buffers a supply has, it is a replay over lent buffers
pub prints_into : (log : List ℕ) (supply : ℕ → List ℕ) {i : ℕ} {p : Place} {text : List ℕ} → PrintsInto log supply i p text → Prints log p text
prints_into log supply (last {i = i} a) = whole.last (supply i) a
prints_into log supply (next {i = i} a more) = whole.next (supply i) a (prints_into log supply more)
