-- A ring of d places. `head` is the next place written and `tail` the next read. Document 01, "A channel table is sound when ..": the length
-- is at most d, both ring ends are below d and differ by the length modulo d.
use Rattle.std.specs.Prelude.{◌≡◌, Bool, ◌&&◌, List, [], ◌∷◌, ℕ, zero, suc, ◌+◌, ◌-◌, ◌%◌, ◌≤◌, ◌<◌, eqb, ltb, leb}
use Rattle.ring.specs.declared.Ring.{Ring}

abbrev pub fresh_ring : Ring
fresh_ring = record { head = 0; tail = 0; len = 0 }

-- one place more is taken, the one at the head
abbrev pub put_in : ℕ → Ring → Ring
put_in d r = record { head = (r.head + 1) % d; tail = r.tail; len = r.len + 1 }

-- the place at the tail is free again
abbrev pub taken_out : ℕ → Ring → Ring
taken_out d r = record { head = r.head; tail = (r.tail + 1) % d; len = r.len - 1 }

-- a ring of depth d, as a proposition and as a test
pub record IsRing (d : ℕ) (r : Ring) : Type 0 where
  pub fits : r.len ≤ d
  pub head : r.head < d
  pub tail : r.tail < d
  pub apart : r.head ≡ (r.tail + r.len) % d

abbrev pub ring_test : ℕ → Ring → Bool
ring_test d r = leb r.len d && ltb r.head d && ltb r.tail d && eqb r.head ((r.tail + r.len) % d)

abbrev pub is_fresh_ring : Ring → Bool
is_fresh_ring r = eqb r.head 0 && eqb r.tail 0 && eqb r.len 0

-- ---- what stands in a ring, by what stands at each place
-- n places of a ring of depth d, from place `at` on
unfoldable pub ring_from : {A : Type 0} → (ℕ → A) → ℕ → ℕ → ℕ → List A
ring_from place d at zero = []
ring_from place d at (suc n) = place at ∷ ring_from place d ((at + 1) % d) n

-- all of it, oldest first
abbrev pub contents : {A : Type 0} → (ℕ → A) → ℕ → Ring → List A
contents place d r = ring_from place d r.tail r.len
