-- A lookup names a number exactly when the place is in range and its entry is live, of the id's generation and stores it. Assumes nothing.
use Rattle.std.specs.Prelude.{Some, Err, Ok}
use mathlib.Core.Path.{◌≡◌, ap}
use mathlib.Core.Bool.{true}
use mathlib.Core.List.{List}
use Prim.Native.Nat.{ℕ, ◌<◌}
use native.Mathlib.Omega.{arith}
use borrow.Author.Tests.{lt-ltb, ltb-true, eq-eqb, eqb-true}
use lib.Dec.{eqb, ltb}
use Rattle.laws.specs.Pick.{pick}
use Rattle.laws.specs.Search.{found}
use Rattle.laws.proofs.Cases.{all_pick, all_found}
use Rattle.cap.specs.Id.{class_of, generation_of}
use Rattle.cap.specs.declared.CapId.{CapId}
use Rattle.mint.specs.Entry.{names_of}
use Rattle.mint.specs.Entries.{entry_at, entry_of, lookup_in}
use Rattle.mint.specs.declared.Entry.{Entry}
use Rattle.mint.specs.declared.LookupError.TheVariants.{BadCap}

-- the entry e names the number x to ids of a generation
pub record Names-to (e : Entry) (generation x : ℕ) : Type 0 where
  pub live : e.live ≡ true
  pub same : e.generation ≡ generation
  pub stored : e.number ≡ x

-- the id c names x: by the entry at `at`, of n
pub record Named (n base : ℕ) (es : List Entry) (c : CapId) (x : ℕ) : Type 0 where
  pub at : ℕ
  pub there : entry_of base (class_of c) ≡ Some at
  pub below : at < n
  pub entry : Names-to (entry_at es at) (generation_of c) x

refused : {X : Type 0} {x : ℕ} → Err BadCap ≡ Ok x → X
refused e = let z : ◌≡◌ {A = ℕ} 0 1 = cc in absurd (omega arith)

names_back : (e : Entry) (g x : ℕ) → names_of e g ≡ Ok x → Names-to e g x
unfolding names_of
names_back e g x =
    all_pick (λ a. a ≡ Ok x → Names-to e g x) e.live _ _
    (λ l. all_pick (λ a. a ≡ Ok x → Names-to e g x) (eqb e.generation g) _ _
    (λ s q. record { live = l; same = eqb-true _ _ s; stored = cc })
    (λ _ q. refused q))
    (λ _ q. refused q)

names_of_lem : (e : Entry) (g x : ℕ) → Names-to e g x → names_of e g ≡ Ok x
unfolding names_of pick
names_of_lem e g x h = rw (h.live, eq-eqb e.generation g h.same) (ap Ok h.stored)

module _ (n base : ℕ) (es : List Entry) (c : CapId) (x : ℕ) where
  pub lookup_named : lookup_in n base es c ≡ Ok x → Named n base es c x
  unfolding lookup_in
  lookup_named =
      all_found (λ a. a ≡ Ok x → Named n base es c x) (entry_of base (class_of c)) _ _
      (λ _ q. refused q)
      (λ i e. all_pick (λ a. a ≡ Ok x → Named n base es c x) (ltb i n) _ _
      (λ l q. record { at = i; there = e; below = ltb-true i n l; entry = names_back (entry_at es i) (generation_of c) x q })
      (λ _ q. refused q))

  pub named_lookup : Named n base es c x → lookup_in n base es c ≡ Ok x
  unfolding lookup_in found pick
  named_lookup h = rw (h.there, lt-ltb h.at n h.below) (names_of_lem (entry_at es h.at) (generation_of c) x h.entry)

-- an id that names a number goes on naming it in entries of which that one is as it was
pub named_on :
    {n base : ℕ} {es : List Entry} {c : CapId} {x : ℕ} (after : List Entry) (r : Named n base es c x) → entry_at after r.at ≡ entry_at es r.at →
    lookup_in n base after c ≡ Ok x
named_on after r w = named_lookup _ _ after _ _ (record { at = r.at; there = r.there; below = r.below; entry = rw w r.entry })
