-- An id is made of its index and its generation, and of nothing else. Assumes nothing.
use mathlib.Core.Path.{◌≡◌, ap}
use Prim.Native.Nat.{ℕ, ◌+◌, ◌*◌, ◌/◌, ◌%◌, ◌<◌}
use native.Mathlib.Omega.{arith}
use Rattle.cap.specs.Id.{id_of, index_of, generation_of}
use Rattle.cap.specs.declared.CapId.{CapId}

pub index_of_id : (i g : ℕ) → i < 65536 → index_of (id_of i g) ≡ i
index_of_id i g h = omega arith

pub generation_of_id : (i g : ℕ) → i < 65536 → generation_of (id_of i g) ≡ g
generation_of_id i g h = omega arith

pub id_of_parts : (c : CapId) → id_of (index_of c) (generation_of c) ≡ c
id_of_parts c = let e : c.raw % 65536 + 65536 * (c.raw / 65536) ≡ c.raw = omega arith in ap (λ (n : ℕ). record { raw = n }) e

-- two ids with the same index and generation are one id
pub same_parts : (c d : CapId) → index_of c ≡ index_of d → generation_of c ≡ generation_of d → c ≡ d
same_parts c d p q = ap (λ (n : ℕ). record { raw = n }) (omega arith)
