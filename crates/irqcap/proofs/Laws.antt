-- What callers of the IRQ table may rely on: a minted id names the number it was minted for, and the ninth mint finds no entry.
-- Assumes nothing.
use Rattle.std.specs.Prelude.{Err, Ok}
use mathlib.Core.Path.{◌≡◌, refl}
use mathlib.Core.Logic.{inr}
use Prim.Native.Nat.{ℕ, zero, suc}
use lib.Dec.{lit≤}
use lib.ListN.{length}
use Rattle.laws.specs.Pick.{pick}
use Rattle.laws.specs.Search.{found, lowest, lowest_free}
use Rattle.cap.specs.declared.CapId.{CapId}
use Rattle.mint.specs.Entries.{mint_with}
use Rattle.mint.specs.declared.MintError.TheVariants.{NoFreeEntry}
use Rattle.mint.proofs.Mints.{Tells}
use Rattle.mint.proofs.Tables as tables
use Rattle.irqcap.specs.Table.{Table, fresh_table, mint_of, lookup_of}

-- what a mint's answer says of the table afterwards
pub mint_says : (t : Table) (number : ℕ) → Tells 8 32768 t.entries number (mint_of t number).answer (mint_of t number).table.entries
unfolding mint_of
mint_says t number = tables.mint_says 8 32768 t number

-- the id that a mint answered names the number in the table afterwards
pub minted_lookup :
    (t : Table) (number : ℕ) (c : CapId) → length t.entries ≡ 8 → (mint_of t number).answer ≡ Ok c →
    lookup_of (mint_of t number).table c ≡ Ok number
unfolding mint_of lookup_of
minted_lookup t number c = tables.minted_lookup 8 32768 t number c (inr refl) (lit≤ tt)

-- the table after k mints from a fresh one
unfoldable pub after_mints : (ℕ → ℕ) → ℕ → Table
after_mints cookie zero = fresh_table
after_mints cookie (suc k) = (mint_of (after_mints cookie k) (cookie k)).table

-- the ninth mint finds no free entry
pub ninth_mint : (cookie : ℕ → ℕ) (ninth : ℕ) → (mint_of (after_mints cookie 8) ninth).answer ≡ Err NoFreeEntry
unfolding after_mints mint_of mint_with lowest_free lowest found pick
ninth_mint cookie ninth = refl
