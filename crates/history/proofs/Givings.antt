-- What a call gives: one message or none, and where it gives one, nothing else is done to the channel. Assumes nothing.
use Rattle.std.specs.Prelude.{Err, None, Ok, Option, Result, Some}
use mathlib.Core.Path.{◌≡◌, refl, ap, ◌∙◌}
use mathlib.Core.Bool.{false}
use mathlib.Core.List.{List, [], ◌∷◌}
use mathlib.Core.Logic.{⊎_elim}
use Prim.Native.Nat.{ℕ, ◌+◌, ◌-◌, ◌≤◌, ◌<◌}
use native.Mathlib.Omega.{arith}
use lib.ListN.{length, length-append}
use Rattle.laws.proofs.Bools.{below?}
use Rattle.laws.proofs.Cases.{all_pick}
use Rattle.cap.specs.Rights.{receive_right}
use Rattle.ipc_rules.specs.declared.state.Message.{Message}
use Rattle.ipc_rules.specs.declared.answers.RecvError.TheVariants as recv
use Rattle.ipc_rules.specs.declared.answers.ParkError.TheVariants as park
use Rattle.history.specs.Calls.{Call, create, send, receive, park, queued, revoke, register, release, holders, clear, note_authority, note_state, counts}
use Rattle.history.specs.World.{World, step, run}
use Rattle.history.specs.Channels.{on}
use Rattle.history.specs.Traffic.{by_receive, by_park, accepted, given, revokes, all_given}
use Rattle.history.specs.Messages.{OneOrNone, Giving, EachHasItsCall}
use Rattle.ipc_rules.specs.declared.answers.RecvError.{RecvError}
use Rattle.ipc_rules.specs.declared.answers.ParkError.{ParkError}

-- ---- a call gives one message or none
abbrev Few : List Message → Type 0
Few l = length l ≤ 1

few_received : (a : Result Message RecvError) → Few (by_receive a)
unfolding by_receive
few_received (Ok m) = omega arith
few_received (Err recv.BadCap) = omega arith
few_received (Err recv.Empty) = omega arith
few_received (Err recv.BadTable) = omega arith

few_parked : (a : Result (Option Message) ParkError) → Few (by_park a)
unfolding by_park
few_parked (Ok (Some m)) = omega arith
few_parked (Ok None) = omega arith
few_parked (Err park.BadCap) = omega arith
few_parked (Err park.Busy) = omega arith
few_parked (Err park.Cancelled) = omega arith
few_parked (Err park.BadTable) = omega arith

pub one_or_none : OneOrNone
unfolding given
one_or_none w n (create b) = omega arith
one_or_none w n (send c p row) = omega arith
one_or_none w n (receive c) = all_pick Few (on w n c receive_right) _ _ (λ _. few_received _) (λ _. omega arith)
one_or_none w n (park c task) = all_pick Few (on w n c receive_right) _ _ (λ _. few_parked _) (λ _. omega arith)
one_or_none w n (queued c) = omega arith
one_or_none w n (revoke c) = omega arith
one_or_none w n (register words) = omega arith
one_or_none w n (release x y z v) = omega arith
one_or_none w n (holders c) = omega arith
one_or_none w n (clear task) = omega arith
one_or_none w n note_authority = omega arith
one_or_none w n note_state = omega arith
one_or_none w n counts = omega arith

-- a call that gives a message accepts none and revokes nothing
pub record OnlyGives (w : World) (n : ℕ) (c : Call) : Type 0 where
  pub accepts_none : accepted w n c ≡ []
  pub spares : revokes w n c ≡ false

nothing : {A : Type 0} {x : Message} → [] ≡ x ∷ [] → A
nothing e = let l : ◌≡◌ {A = ℕ} 0 1 = ap length e in absurd (omega arith)

pub only_gives : (w : World) (n : ℕ) (x : Message) (c : Call) → given w n c ≡ x ∷ [] → OnlyGives w n c
unfolding given accepted revokes
only_gives w n x (create b) g = nothing g
only_gives w n x (send c p row) g = nothing g
only_gives w n x (receive c) g = record { accepts_none = refl; spares = refl }
only_gives w n x (park c task) g = record { accepts_none = refl; spares = refl }
only_gives w n x (queued c) g = nothing g
only_gives w n x (revoke c) g = nothing g
only_gives w n x (register words) g = nothing g
only_gives w n x (release _ _ _ _) g = nothing g
only_gives w n x (holders c) g = nothing g
only_gives w n x (clear task) g = nothing g
only_gives w n x note_authority g = nothing g
only_gives w n x note_state g = nothing g
only_gives w n x counts g = nothing g

-- ---- each message that a run gives has its call
module _ (w : World) (n : ℕ) (c : Call) (cs : List Call) where
  size : length (all_given w n (c ∷ cs)) ≡ length (given w n c) + length (all_given (step w c) n cs)
  unfolding all_given
  size = length-append (given w n c) (all_given (step w c) n cs)

  -- it is the first
  at_once : (x : Message) → given w n c ≡ x ∷ [] → Giving w n 0 (c ∷ cs)
  unfolding run all_given
  at_once x e = record { before = []; call = c; rest = cs; message = x; split = refl; gave = refl; gives = e }

  -- or one of the others
  after_one : (p q : ℕ) → length (given w n c) + p ≡ q → Giving (step w c) n p cs → Giving w n q (c ∷ cs)
  unfolding run all_given
  after_one p q e g =
      record {
        before = c ∷ g.before;
        call = g.call;
        rest = g.rest;
        message = g.message;
        split = ap (λ (l : List Call). c ∷ l) g.split;
        gave = length-append (given w n c) (all_given (step w c) n g.before) ∙ ap (λ (i : ℕ). length (given w n c) + i) g.gave ∙ e;
        gives = g.gives;
      }

  here_or_later : (q : ℕ) → ((p : ℕ) → p < length (all_given (step w c) n cs) → Giving (step w c) n p cs) → q < length (all_given w n (c ∷ cs)) → Giving w n q (c ∷ cs)
  here_or_later q more l = ⊎_elim (λ b. first (given w n c) refl b (one_or_none w n c)) (λ b. let z = size in after_one (q - length (given w n c)) q (omega arith) (more _ (omega arith))) (below? q (length (given w n c)))
    where
      first : (out : List Message) → given w n c ≡ out → q < length out → length out ≤ 1 → Giving w n q (c ∷ cs)
      first [] e b few = absurd (omega arith)
      first (x ∷ []) e b few = let z : 0 ≡ q = omega arith in rw (← z) (at_once x e)
      first (x ∷ y ∷ out) e b few = absurd (omega arith)

pub each_has_its_call : EachHasItsCall
unfolding all_given
each_has_its_call w n q [] l = absurd (omega arith)
each_has_its_call w n q (c ∷ cs) l = here_or_later w n c cs q (λ p h. each_has_its_call (step w c) n p cs h) l
