-- What is known of a record that was read whole. Assumes nothing.
use Rattle.std.specs.Prelude.{Err, Ok, Result}
use mathlib.Core.Path.{◌≡◌, ap}
use mathlib.Core.Bool.{not, true, false}
use mathlib.Core.List.{List}
use Prim.Native.Nat.{ℕ, ◌+◌, ◌<◌, ◌≤◌}
use native.Mathlib.Omega.{arith}
use borrow.Author.Tests.{ltb-false, not-false}
use lib.Dec.{ltb}
use lib.ListN.{length}
use Rattle.laws.proofs.Cases.{all_pick}
use Rattle.logread.specs.Read.{recorded}
use Rattle.logread.specs.Little.{byte_at}
use Rattle.logread.specs.declared.ReadError.TheVariants.{BadOperand}
use Rattle.jobscript.specs.Read.{length_of, marked, job_read_of}
use Rattle.logread.specs.declared.Record.{Record}
use Rattle.logread.specs.declared.ReadError.{ReadError}

-- the script starts with a record of that operation and length
pub record IsWhole (script : List ℕ) (op len : ℕ) : Type 0 where
  pub mark : marked script ≡ true
  pub operation : op ≡ byte_at script 2
  pub known : op < 8
  pub counted : len ≡ 3 + length_of op
  pub within : len ≤ length script

pub whole : (script : List ℕ) (op len : ℕ) → job_read_of script ≡ Ok (recorded op len) → IsWhole script op len
unfolding job_read_of
whole script op len =
    all_pick P _ _ _ (λ _ e. never cc)
    (λ _. all_pick P _ _ _ (λ _ e. never cc)
    (λ m. all_pick P _ _ _ (λ _ e. never cc)
    (λ _. all_pick P _ _ _ (λ _ e. never cc)
    (λ k. all_pick P _ _ _ (λ _ e. never cc) (λ w e. made m k w e)))))
  where
    P : Result Record ReadError → Type 0
    P r = r ≡ Ok (recorded op len) → IsWhole script op len

    never : ◌≡◌ {A = ℕ} 0 1 → IsWhole script op len
    never z = absurd (omega arith)

    made : not (marked script) ≡ false → ltb 7 (byte_at script 2) ≡ false → ltb (length script) (3 + length_of (byte_at script 2)) ≡ false →
        ◌≡◌ {A = Result Record ReadError} (Ok (recorded (byte_at script 2) (3 + length_of (byte_at script 2)))) (Ok (recorded op len)) → IsWhole script op len
    made m k w e =
        let same : recorded (byte_at script 2) (3 + length_of (byte_at script 2)) ≡ recorded op len = cc in
        let o : byte_at script 2 ≡ op = ap (λ (r : Record). r.op) same in
        let n : 3 + length_of (byte_at script 2) ≡ len = ap (λ (r : Record). r.len) same in
        record {
          mark = not-false (marked script) m;
          operation = cc;
          known = omega (arith, ltb-false 7 (byte_at script 2) k);
          counted = cc;
          within = omega (arith, ltb-false (length script) (3 + length_of (byte_at script 2)) w);
        }

-- no record has an ill-formed operand
pub no_bad_operand : (script : List ℕ) → job_read_of script ≡ Err BadOperand → ⊥
unfolding job_read_of
no_bad_operand script =
    all_pick P _ _ _ (λ _ e. never cc)
    (λ _. all_pick P _ _ _ (λ _ e. never cc)
    (λ _. all_pick P _ _ _ (λ _ e. never cc)
    (λ _. all_pick P _ _ _ (λ _ e. never cc)
    (λ _. all_pick P _ _ _ (λ _ e. never cc) (λ _ e. never cc)))))
  where
    P : Result Record ReadError → Type 0
    P r = r ≡ Err BadOperand → ⊥

    never : ◌≡◌ {A = ℕ} 0 1 → ⊥
    never z = omega arith
