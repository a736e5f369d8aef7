-- What callers of the task table may rely on: a minted id names the task it was minted for, and no id an ended one.
-- Assumes nothing.
use Rattle.std.specs.Prelude.{Ok}
use mathlib.Core.Path.{◌≡◌, refl}
use mathlib.Core.Logic.{inl}
use Prim.Native.Nat.{ℕ}
use lib.Dec.{lit≤}
use lib.ListN.{length}
use Rattle.cap.specs.declared.CapId.{CapId}
use Rattle.mint.proofs.Mints.{Tells}
use Rattle.mint.proofs.Tables as tables
use Rattle.mint.proofs.Ending.{ended_refused, ended_names_on}
use Rattle.taskcap.specs.Table.{Table, mint_of, lookup_of, revoke_of}

-- what a mint's answer says of the table afterwards
pub mint_says : (t : Table) (number : ℕ) → Tells 32 16384 t.entries number (mint_of t number).answer (mint_of t number).table.entries
unfolding mint_of
mint_says t number = tables.mint_says 32 16384 t number

-- the id that a mint answered names the number in the table afterwards
pub minted_lookup :
    (t : Table) (number : ℕ) (c : CapId) → length t.entries ≡ 32 → (mint_of t number).answer ≡ Ok c →
    lookup_of (mint_of t number).table c ≡ Ok number
unfolding mint_of lookup_of
minted_lookup t number c = tables.minted_lookup 32 16384 t number c (inl refl) (lit≤ tt)

-- after the end of a task no id names it, and every id that named another still does
pub ended_task_unnamed : (t : Table) (task : ℕ) (c : CapId) → lookup_of (revoke_of t task).table c ≡ Ok task → ⊥
unfolding lookup_of revoke_of
ended_task_unnamed t task c = ended_refused 32 16384 t.entries task c

pub other_tasks_named :
    (t : Table) (task other : ℕ) (c : CapId) → (other ≡ task → ⊥) → lookup_of t c ≡ Ok other →
    lookup_of (revoke_of t task).table c ≡ Ok other
unfolding lookup_of revoke_of
other_tasks_named t task other c d = ended_names_on 32 16384 t.entries task c other d
