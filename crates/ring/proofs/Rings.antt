-- What a place more and a place less make of a ring and of what stands in it. Assumes nothing.
use mathlib.Core.Path.{◌≡◌, sym, ap, ◌∙◌}
use mathlib.Core.List.{List, [], ◌∷◌, ◌++◌}
use mathlib.Core.Logic.{⊎_elim}
use Prim.Native.Nat.{ℕ, suc, ◌+◌, ◌-◌, ◌%◌, ◌≤◌, ◌<◌}
use native.Mathlib.Nat.{mod-lt, mod-eq_of_lt, mod-add-mod, add_assoc, eq-or-lt_of_le}
use native.Mathlib.Numerals.{add-one}
use native.Mathlib.Omega.{arith}
use lib.ListN.{length}
use Rattle.ring.specs.Ring.{IsRing, fresh_ring, put_in, taken_out, ring_from, contents}
use Rattle.ring.specs.declared.Ring.{Ring}
use Rattle.ring.proofs.Places.{apart, ring_length, ring_same, ring_more}

-- ---- still a ring
pub empty_is : (d : ℕ) → 1 ≤ d → IsRing d fresh_ring
empty_is d deep = let l : 0 < d = omega arith in record { fits = omega arith; head = l; tail = l; apart = sym (mod-eq_of_lt l) }

-- a ring that is not full has room
pub room : (d : ℕ) (r : Ring) → IsRing d r → (r.len ≡ d → ⊥) → r.len < d
room d r s full = ⊎_elim (λ e. absurd (full e)) (λ l. l) (eq-or-lt_of_le s.fits)

pub put_in_is : (d : ℕ) (r : Ring) → r.len < d → IsRing d r → IsRing d (put_in d r)
put_in_is d r l s =
    record {
      fits = omega arith;
      head = mod-lt (r.head + 1) (omega arith);
      tail = s.tail;
      apart = ap (λ (n : ℕ). (n + 1) % d) s.apart ∙ mod-add-mod (r.tail + r.len) d 1 ∙ ap (λ (n : ℕ). n % d) (add_assoc r.tail r.len 1);
    }

pub taken_out_is : (d : ℕ) (r : Ring) → 0 < r.len → IsRing d r → IsRing d (taken_out d r)
taken_out_is d r l s =
    record {
      fits = let f = s.fits in omega arith;
      head = s.head;
      tail = let h = s.tail in mod-lt (r.tail + 1) (omega arith);
      apart =
          let e : r.tail + r.len ≡ r.tail + 1 + (r.len - 1) = omega arith in
          s.apart ∙ ap (λ (n : ℕ). n % d) e ∙ sym (mod-add-mod (r.tail + 1) d (r.len - 1));
    }

-- ---- what stands in it
pub contents_length : {A : Type 0} (place : ℕ → A) (d : ℕ) (r : Ring) → length (contents place d r) ≡ r.len
contents_length place d r = ring_length place d r.tail r.len

-- a ring reads its own places only, those below d
pub contents_same : {A : Type 0} (old new : ℕ → A) (d : ℕ) (r : Ring) → IsRing d r → ((p : ℕ) → p < d → new p ≡ old p) → contents new d r ≡ contents old d r
contents_same old new d r s h = let l = s.tail in ring_same new old d r.tail r.len l (λ i u. h _ (mod-lt (r.tail + i) (omega arith)))

-- what is put in stands last
pub contents_put :
    {A : Type 0} (old new : ℕ → A) (d : ℕ) (r : Ring) → IsRing d r → r.len < d → ((p : ℕ) → (p ≡ r.head → ⊥) → new p ≡ old p) →
    contents new d (put_in d r) ≡ contents old d r ++ (new r.head ∷ [])
contents_put {A} old new d r s l h =
    ap (λ (n : ℕ). ring_from new d r.tail n) (add-one r.len)
    ∙ ring_more new d r.tail r.len s.tail
    ∙ ap (λ (p : ℕ). ring_from new d r.tail r.len ++ (new p ∷ [])) (sym s.apart)
    ∙ ap (λ (q : List A). q ++ (new r.head ∷ []))
    (ring_same new old d r.tail r.len s.tail (λ i u. h _ (λ e. apart d r.tail i r.len s.tail u l (e ∙ s.apart))))

-- what is taken out stood first
pub contents_taken : {A : Type 0} (place : ℕ → A) (d : ℕ) (r : Ring) → 0 < r.len → contents place d r ≡ place r.tail ∷ contents place d (taken_out d r)
unfolding ring_from
contents_taken place d r l = let e : r.len ≡ suc (r.len - 1) = omega arith in ap (λ (n : ℕ). ring_from place d r.tail n) e
