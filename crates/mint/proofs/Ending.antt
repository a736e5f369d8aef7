-- What the end of a number changes and what it leaves: no id names that number any more, and every other names what it named. Assumes nothing.
use Rattle.std.specs.Prelude.{Ok}
use mathlib.Core.Path.{◌≡◌, refl, sym, ap, ◌∙◌}
use mathlib.Core.Bool.{Bool, true, false, ◌&&◌}
use mathlib.Core.List.{List}
use Prim.Native.Nat.{ℕ}
use native.Mathlib.Omega.{arith}
use borrow.Author.Tests.{eq-eqb, ne_eqb}
use lib.Dec.{eqb}
use lib.ListN.{get_or-map}
use Rattle.laws.specs.Pick.{pick}
use Rattle.laws.proofs.Cases.{all_pick}
use Rattle.cap.specs.declared.CapId.{CapId}
use Rattle.mint.specs.Entry.{no_entry, is_of, after_end}
use Rattle.mint.specs.Entries.{entry_at, lookup_in, ended_in}
use Rattle.mint.specs.declared.Entry.{Entry}
use Rattle.mint.proofs.Named.{lookup_named, named_on}

-- each entry after the end is the one before, ended where it is the number's
pub ended_at : (es : List Entry) (number i : ℕ) → entry_at (ended_in es number) i ≡ after_end number (entry_at es i)
unfolding after_end pick
ended_at es number i = get_or-map (after_end number) es i no_entry

-- the end keeps generation and number
pub end_keeps : (number : ℕ) (e : Entry) → ((after_end number e).generation ≡ e.generation) × ((after_end number e).number ≡ e.number)
unfolding after_end
end_keeps number e =
    all_pick (λ (r : Entry). (r.generation ≡ e.generation) × (r.number ≡ e.number)) (is_of e number) _ _ (λ _. (refl, refl)) (λ _. (refl, refl))

by_both : (a b : Bool) (x y : Entry) → b ≡ true → x.live ≡ false → y.live ≡ a → (pick (a && b) x y).live ≡ false
unfolding pick
by_both true true x y q l h = l
by_both false true x y q l h = h
by_both true false x y q l h = let z : ◌≡◌ {A = ℕ} 0 1 = cc in absurd (omega arith)
by_both false false x y q l h = h

-- an entry that stores the number is dead afterwards, and one that stores another is left
pub end_kills : (number : ℕ) (e : Entry) → e.number ≡ number → (after_end number e).live ≡ false
unfolding after_end
end_kills number e q = by_both e.live (eqb e.number number) _ _ (eq-eqb _ _ q) refl refl

spared : (a b : Bool) (x y : Entry) → b ≡ false → pick (a && b) x y ≡ y
unfolding pick
spared true false x y q = refl
spared false b x y q = refl
spared true true x y q = let z : ◌≡◌ {A = ℕ} 0 1 = cc in absurd (omega arith)

pub end_spares : (number : ℕ) (e : Entry) → (e.number ≡ number → ⊥) → after_end number e ≡ e
unfolding after_end
end_spares number e d = spared e.live (eqb e.number number) _ _ (ne_eqb _ _ d)

module _ (n base : ℕ) (es : List Entry) (number : ℕ) (c : CapId) where
  -- no id names a number that has ended
  pub ended_refused : lookup_in n base (ended_in es number) c ≡ Ok number → ⊥
  ended_refused e =
      let r = lookup_named n base (ended_in es number) c number e in
      let w = ended_at es number r.at in
      let s : (entry_at es r.at).number ≡ number =
      sym (end_keeps number (entry_at es r.at)).1 ∙ (sym (ap (λ (y : Entry). y.number) w) ∙ r.entry.stored) in
      let f : ◌≡◌ {A = Bool} true false = sym r.entry.live ∙ (ap (λ (y : Entry). y.live) w ∙ end_kills number (entry_at es r.at) s) in
      let z : ◌≡◌ {A = ℕ} 0 1 = cc in omega arith

  -- an id that named another goes on naming it
  pub ended_names_on : (x : ℕ) → (x ≡ number → ⊥) → lookup_in n base es c ≡ Ok x → lookup_in n base (ended_in es number) c ≡ Ok x
  ended_names_on x d e =
      let r = lookup_named n base es c x e in
      named_on _ r (ended_at es number r.at ∙ end_spares number (entry_at es r.at) (λ q. d (sym r.entry.stored ∙ q)))
