-- The tests of a ring say what they are for, both ways. Assumes nothing.
use mathlib.Core.Path.{◌≡◌}
use mathlib.Core.Bool.{true}
use Prim.Native.Nat.{ℕ, ◌+◌, ◌%◌}
use borrow.Author.Tests.{eqb-true, eq-eqb, ltb-true, leb-true, le-leb, lt-ltb}
use lib.Dec.{eqb, ltb, leb}
use Rattle.laws.proofs.Bools.{and_three, and_four}
use Rattle.ring.specs.Ring.{IsRing, fresh_ring, ring_test, is_fresh_ring}
use Rattle.ring.specs.declared.Ring.{Ring}

pub ring_of : (d : ℕ) (r : Ring) → ring_test d r ≡ true → IsRing d r
ring_of d r h =
    let p = and_four (leb r.len d) (ltb r.head d) (ltb r.tail d) (eqb r.head ((r.tail + r.len) % d)) h in
    record { fits = leb-true _ _ p.0; head = ltb-true _ _ p.1; tail = ltb-true _ _ p.2; apart = eqb-true _ _ p.3 }

pub of_ring : (d : ℕ) (r : Ring) → IsRing d r → ring_test d r ≡ true
of_ring d r s = simp (le-leb _ _ s.fits, lt-ltb _ _ s.head, lt-ltb _ _ s.tail, eq-eqb _ _ s.apart)

pub empty_of : (r : Ring) → is_fresh_ring r ≡ true → r ≡ fresh_ring
empty_of r h =
    let p = and_three (eqb r.head 0) (eqb r.tail 0) (eqb r.len 0) h in
    λ i. record { head = eqb-true r.head 0 p.0 i; tail = eqb-true r.tail 0 p.1 i; len = eqb-true r.len 0 p.2 i }
