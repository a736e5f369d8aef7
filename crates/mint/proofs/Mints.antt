-- What a mint changes and what it leaves: a refused one nothing, an accepted one the lowest free entry, which the answered id then names.
-- Assumes nothing.
use Rattle.std.specs.Prelude.{None, Option, Some, Err, Ok, Result}
use mathlib.Core.Path.{◌≡◌, refl, sym, ap, ◌∙◌}
use mathlib.Core.Bool.{Bool, true, false}
use mathlib.Core.List.{List}
use mathlib.Core.Logic.{⊎_elim}
use Prim.Native.Nat.{ℕ, ◌+◌, ◌≤◌, ◌<◌}
use native.Mathlib.Omega.{arith}
use lib.ListN.{length, set}
use lib.Seq.{get_or-set_same, get_or-set_other}
use Rattle.laws.specs.Search.{found, lowest_free}
use Rattle.laws.proofs.Cases.{all_found}
use Rattle.laws.proofs.Search.{Lowest, lowest_at, none_free}
use Rattle.cap.specs.Id.{id_of, class_of, generation_of}
use Rattle.cap.specs.declared.CapId.{CapId}
use Rattle.cap.proofs.Ids.{generation_of_id}
use Rattle.mint.specs.Generation.{next_generation}
use Rattle.mint.specs.Entry.{no_entry, minted_entry}
use Rattle.mint.specs.Entries.{entry_at, is_live, free_entry, mint_with, entry_of, lookup_in}
use Rattle.mint.specs.declared.Entry.{Entry}
use Rattle.mint.specs.declared.MintError.TheVariants.{NoFreeEntry}
use Rattle.mint.proofs.Generations.{next_differs}
use Rattle.mint.proofs.Named.{lookup_named, named_lookup, named_on}
use Rattle.mint.proofs.Bands.{Band, entry_of_id}
use Rattle.mint.specs.declared.MintError.{MintError}

-- a refused mint: every entry is live, and the entries stay
pub record Refused (n : ℕ) (es after : List Entry) : Type 0 where
  pub full : (i : ℕ) → i < n → is_live es i ≡ true
  pub unchanged : after ≡ es

-- an accepted mint that answered the id c: the lowest free entry was minted, and no other
pub record Accepted (n base : ℕ) (es : List Entry) (number : ℕ) (c : CapId) (after : List Entry) : Type 0 where
  pub at : ℕ
  pub place : Lowest (is_live es) 0 n at
  pub answer : c ≡ id_of (base + at) (next_generation (entry_at es at).generation)
  pub entries : after ≡ set es at (minted_entry (entry_at es at) number)

-- what a mint's answer says of the entries afterwards
abbrev pub Tells : ℕ → ℕ → List Entry → ℕ → Result CapId MintError → List Entry → Type 0
Tells n base es number (Ok c) after = Accepted n base es number c after
Tells n base es number (Err NoFreeEntry) after = Refused n es after

-- what `Tells` says holds of a mint, however its answer and its entries are joined
pub mint_tells :
    {A : Type 0} (n base : ℕ) (es : List Entry) (number : ℕ) (k : Result CapId MintError → List Entry → A) (P : A → Type 0) →
    ((a : Result CapId MintError) (after : List Entry) → Tells n base es number a after → P (k a after)) →
    P (mint_with n base es number k)
unfolding mint_with lowest_free
mint_tells n base es number k P h =
    all_found P (free_entry n es) _ _
    (λ e. h (Err NoFreeEntry) es (record { full = λ i l. none_free (is_live es) 0 n e i (omega arith) l; unchanged = refl }))
    (λ i e. h (Ok _) _ (record { at = i; place = lowest_at (is_live es) 0 n i e; answer = refl; entries = refl }))

-- what a mint returns that looked for a free entry and found q
module _ {A : Type 0} {r : A} (n base : ℕ) (es : List Entry) (number : ℕ) (k : Result CapId MintError → List Entry → A) {q : Option ℕ} (is : q ≡ free_entry n es) where
  pub none_minted : q ≡ None → r ≡ k (Err NoFreeEntry) es → r ≡ mint_with n base es number k
  unfolding mint_with found
  none_minted e h = h ∙ rw (← is, e)

  pub one_minted :
      {i : ℕ} {e : Entry} {c : CapId} → q ≡ Some i → e ≡ minted_entry (entry_at es i) number → c ≡ id_of (base + i) e.generation →
      r ≡ k (Ok c) (set es i e) → r ≡ mint_with n base es number k
  unfolding mint_with found
  one_minted a m d h = h ∙ rw (← is, a, d, m)

module _ {n base number : ℕ} {es after : List Entry} {c : CapId} (m : Accepted n base es number c after) where
  -- the other entries are left as they were
  pub others_left : (j : ℕ) → (j ≡ m.at → ⊥) → entry_at after j ≡ entry_at es j
  others_left j d = rw m.entries (get_or-set_other es m.at j _ no_entry d)

  busy : {j : ℕ} → is_live es j ≡ true → j ≡ m.at → ⊥
  busy {j} l q =
      let f : is_live es j ≡ false = rw q m.place.free in
      let z : ◌≡◌ {A = Bool} true false = sym l ∙ f in
      let y : ◌≡◌ {A = ℕ} 0 1 = cc in omega arith

  -- an id that named a number goes on naming it
  pub names_on : (d : CapId) (x : ℕ) → lookup_in n base es d ≡ Ok x → lookup_in n base after d ≡ Ok x
  names_on d x e = let r = lookup_named n base es d x e in named_on _ r (others_left r.at (busy r.entry.live))

  module _ (band : Band base) (small : n ≤ 16384) where
    minted_entry_of : entry_of base (class_of c) ≡ Some m.at
    minted_entry_of = let l = m.place.below in rw m.answer (entry_of_id m.at _ (omega arith) band)

    -- the id that was answered named nothing before
    pub minted_was_unnamed : (x : ℕ) → lookup_in n base es c ≡ Ok x → ⊥
    minted_was_unnamed x e =
        let r = lookup_named n base es c x e in
        let a = minted_entry_of in
        busy r.entry.live (let q : m.at ≡ r.at = cc in sym q)

  module _ (sized : length es ≡ n) where
    pub minted_entry_lem : entry_at after m.at ≡ minted_entry (entry_at es m.at) number
    minted_entry_lem = let l = m.place.below in rw m.entries (get_or-set_same es m.at _ no_entry (omega arith))

    -- the id that was answered names the number that was stored
    pub minted_names : Band base → n ≤ 16384 → lookup_in n base after c ≡ Ok number
    minted_names band h =
        let l = m.place.below in
        let g : generation_of c ≡ next_generation (entry_at es m.at).generation =
        rw m.answer (generation_of_id _ _ (⊎_elim (λ e. omega arith) (λ e. omega arith) band)) in
        named_lookup n base after c number
        (record {
          at = m.at;
          there = minted_entry_of band h;
          below = l;
          entry = record { live = rw minted_entry_lem; same = rw (minted_entry_lem, g); stored = rw minted_entry_lem };
        })

    -- an id of the entry's last life names nothing any more
    pub stale_refused :
        (d : CapId) (x : ℕ) → entry_of base (class_of d) ≡ Some m.at → generation_of d ≡ (entry_at es m.at).generation →
        lookup_in n base after d ≡ Ok x → ⊥
    stale_refused d x a g e =
        let r = lookup_named n base after d x e in
        let q : m.at ≡ r.at = cc in
        next_differs (entry_at es m.at).generation
        (sym (ap (λ (y : Entry). y.generation) minted_entry_lem) ∙ (rw q r.entry.same ∙ g))
