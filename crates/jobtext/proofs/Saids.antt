-- What a record says, by what its step gave; and what is known of it. Assumes nothing.
use Rattle.std.specs.Prelude.{Err, Result, ⊤, Ok}
use mathlib.Core.Path.{◌≡◌, refl}
use mathlib.Core.List.{List, []}
use Prim.Native.Nat.{ℕ, ◌≤◌}
use native.Mathlib.Omega.{arith}
use lib.ListN.{length, take}
use Rattle.shown.proofs.Read.{shown_read}
use Rattle.line.specs.Line.{line_of}
use Rattle.logread.specs.Read.{recorded}
use Rattle.logread.specs.declared.ReadError.TheVariants as read
use Rattle.dispatcher_rules.specs.declared.state.Desk.{Desk}
use Rattle.jobscript.specs.Read.{job_read_of}
use Rattle.jobscript.specs.Done.{ReadyDesk}
use Rattle.jobscript.specs.Operations.{apply_of}
use Rattle.jobscript.specs.Step.{step_number, reading, refused_step, took_step, step_of}
use Rattle.jobtext.specs.Text.{Said, fault, saying, said_of}
use Rattle.jobscript.specs.declared.StepError.TheVariants.{Short, BadMark, BadOp}
use Rattle.jobscript.specs.declared.Stepped.{Stepped}
use Rattle.jobscript.proofs.Records.{whole}
use Rattle.jobscript.proofs.Applied.{apply_ready, apply_few}
use Rattle.jobscript.specs.declared.StepError.{StepError}
use Rattle.logread.specs.declared.Record.{Record}
use Rattle.logread.specs.declared.ReadError.{ReadError}

pub all_reading : {A : Type 0} (P : A → Type 0) (q : Result Record ReadError) (f : Result ⊤ StepError → A) (g : ℕ → ℕ → A) → P (f (Err Short)) → P (f (Err BadMark)) → P (f (Err BadOp)) →
    ((op len : ℕ) → q ≡ Ok (recorded op len) → P (g op len)) → P (reading q f g)
unfolding reading
all_reading P (Err read.Short) f g x y z w = x
all_reading P (Err read.BadMark) f g x y z w = y
all_reading P (Err read.BadOp) f g x y z w = z
all_reading P (Err read.BadOperand) f g x y z w = z
all_reading P (Ok r) f g x y z w = w r.op r.len refl

-- ---- the step and what is said of it
pub record Agrees (number : ℕ) (s : Stepped) (t : Said) : Type 0 where
  pub same_answer : t.answer ≡ s.answer
  pub same_used : t.used ≡ s.used
  pub same_desk : t.desk ≡ s.desk
  pub line : step_number s.answer ≡ 0 → line_of number s.op s.shown.number (take s.shown.count s.shown.values) ≡ t.text

module _ (script : List ℕ) (number : ℕ) (d : Desk) where
  agree : (q : Result Record ReadError) → Agrees number (reading q (refused_step d) (λ op len. took_step op len (apply_of op script d))) (reading q (fault d) (λ op len. saying number op len (apply_of op script d)))
  unfolding reading
  agree (Err read.Short) = record { same_answer = refl; same_used = refl; same_desk = refl; line = λ e. absurd (omega arith) }
  agree (Err read.BadMark) = record { same_answer = refl; same_used = refl; same_desk = refl; line = λ e. absurd (omega arith) }
  agree (Err read.BadOp) = record { same_answer = refl; same_used = refl; same_desk = refl; line = λ e. absurd (omega arith) }
  agree (Err read.BadOperand) = record { same_answer = refl; same_used = refl; same_desk = refl; line = λ e. absurd (omega arith) }
  agree (Ok one) =
      record {
        same_answer = refl;
        same_used = refl;
        same_desk = refl;
        line = λ _. rw (shown_read (apply_of one.op script d).number (apply_of one.op script d).values (apply_few script d one.op)) refl;
      }

  pub agrees : Agrees number (step_of script d) (said_of script number d)
  unfolding step_of said_of
  agrees = agree (job_read_of script)

  -- ---- what is said
  pub said_ready : ReadyDesk d → ReadyDesk (said_of script number d).desk
  unfolding said_of
  said_ready w = all_reading (λ (s : Said). ReadyDesk s.desk) (job_read_of script) _ _ w w w (λ op len _. apply_ready script d op w)

  -- a fault has no line
  pub said_silent : (step_number (said_of script number d).answer ≡ 0 → ⊥) → (said_of script number d).text ≡ []
  unfolding said_of
  said_silent =
      all_reading (λ (s : Said). (step_number s.answer ≡ 0 → ⊥) → s.text ≡ []) (job_read_of script) _ _ (λ _. refl) (λ _. refl) (λ _. refl)
      (λ op len _ n. absurd (n refl))

  -- want of room is none of a record's faults
  pub said_roomy : step_number (said_of script number d).answer ≡ 26 → ⊥
  unfolding said_of
  said_roomy =
      all_reading (λ (s : Said). step_number s.answer ≡ 26 → ⊥) (job_read_of script) _ _ (λ e. omega arith) (λ e. omega arith) (λ e. omega arith)
      (λ op len _ e. omega arith)

  -- a record that is taken has three bytes or more, all of them in the script
  pub said_used : step_number (said_of script number d).answer ≡ 0 → (3 ≤ (said_of script number d).used) × ((said_of script number d).used ≤ length script)
  unfolding said_of
  said_used =
      all_reading (λ (s : Said). step_number s.answer ≡ 0 → (3 ≤ s.used) × (s.used ≤ length script)) (job_read_of script) _ _
      (λ e. absurd (omega arith)) (λ e. absurd (omega arith)) (λ e. absurd (omega arith))
      (λ op len r _. let w = whole script op len r in (omega (arith, w.counted), w.within))
