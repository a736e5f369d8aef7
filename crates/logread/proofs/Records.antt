-- What is known of a record that was read whole. Assumes nothing.
use Rattle.std.specs.Prelude.{Ok, Result}
use mathlib.Core.Path.{◌≡◌, refl, sym, ap}
use mathlib.Core.Bool.{Bool, true, false, not}
use mathlib.Core.List.{List}
use Prim.Native.Nat.{ℕ, ◌+◌, ◌<◌, ◌≤◌}
use native.Mathlib.Omega.{arith}
use borrow.Author.Tests.{ltb-false}
use lib.Dec.{ltb}
use lib.ListN.{length}
use Rattle.laws.proofs.Cases.{all_pick}
use Rattle.logread.specs.Little.{byte_at}
use Rattle.logread.specs.Operands.{operands_ok}
use Rattle.logread.specs.Read.{length_of, marked, read_of, recorded}
use Rattle.logread.specs.declared.Record.{Record}
use Rattle.logread.specs.declared.ReadError.{ReadError}

-- the log starts with a record of that operation and length
pub record IsWhole (log : List ℕ) (op len : ℕ) : Type 0 where
  pub mark : marked log ≡ true
  pub operation : op ≡ byte_at log 2
  pub known : op < 28
  pub counted : len ≡ 3 + length_of op
  pub within : len ≤ length log
  pub operands : operands_ok op log ≡ true

not_false : (b : Bool) → not b ≡ false → b ≡ true
not_false true h = refl
not_false false h = sym h

pub whole : (log : List ℕ) (op len : ℕ) → read_of log ≡ Ok (recorded op len) → IsWhole log op len
unfolding read_of
whole log op len =
    all_pick P _ _ _ (λ _ e. never cc)
    (λ _. all_pick P _ _ _ (λ _ e. never cc)
    (λ m. all_pick P _ _ _ (λ _ e. never cc)
    (λ _. all_pick P _ _ _ (λ _ e. never cc)
    (λ k. all_pick P _ _ _ (λ _ e. never cc)
    (λ w. all_pick P _ _ _ (λ o e. made m k w o e) (λ _ e. never cc))))))
  where
    P : Result Record ReadError → Type 0
    P r = r ≡ Ok (recorded op len) → IsWhole log op len

    never : ◌≡◌ {A = ℕ} 0 1 → IsWhole log op len
    never z = absurd (omega arith)

    made : not (marked log) ≡ false → ltb 27 (byte_at log 2) ≡ false → ltb (length log) (3 + length_of (byte_at log 2)) ≡ false → operands_ok (byte_at log 2) log ≡ true →
        ◌≡◌ {A = Result Record ReadError} (Ok (recorded (byte_at log 2) (3 + length_of (byte_at log 2)))) (Ok (recorded op len)) → IsWhole log op len
    made m k w p e =
        let same : recorded (byte_at log 2) (3 + length_of (byte_at log 2)) ≡ recorded op len = cc in
        let o : byte_at log 2 ≡ op = ap (λ (r : Record). r.op) same in
        let n : 3 + length_of (byte_at log 2) ≡ len = ap (λ (r : Record). r.len) same in
        record {
          mark = not_false (marked log) m;
          operation = cc;
          known = omega (arith, ltb-false 27 (byte_at log 2) k);
          counted = cc;
          within = omega (arith, ltb-false (length log) (3 + length_of (byte_at log 2)) w);
          operands = rw o at p;
        }
