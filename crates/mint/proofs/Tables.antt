-- What a table's callers may rely on: what a mint's answer says of the table afterwards, and that a minted id names its number. Assumes nothing.
use Rattle.std.specs.Prelude.{Ok, Result}
use mathlib.Core.Path.{◌≡◌}
use Prim.Native.Nat.{ℕ, ◌≤◌}
use lib.ListN.{length}
use Rattle.cap.specs.declared.CapId.{CapId}
use Rattle.mint.specs.Entries.{lookup_in}
use Rattle.mint.specs.Table.{mint_in}
use Rattle.mint.specs.declared.table.Table.{Table}
use Rattle.mint.specs.declared.MintError.{MintError}
use Rattle.shown.specs.declared.Answered.{Answered}
use Rattle.mint.proofs.Bands.{Band}
use Rattle.mint.proofs.Mints.{Tells, mint_tells, minted_names}

module _ (n base : ℕ) (t : Table n) (number : ℕ) where
  pub mint_says : Tells n base t.entries number (mint_in n base t number).answer (mint_in n base t number).table.entries
  mint_says = mint_tells n base t.entries number _ (λ (r : Answered (Result CapId MintError) (Table n)). Tells n base t.entries number r.answer r.table.entries) (λ a after h. h)

  pub minted_lookup :
      (c : CapId) → Band base → n ≤ 16384 → length t.entries ≡ n → (mint_in n base t number).answer ≡ Ok c →
      lookup_in n base (mint_in n base t number).table.entries c ≡ Ok number
  minted_lookup c band small sized e = minted_names (rw e at mint_says) sized band small
