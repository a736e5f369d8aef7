-- The test of the message places: each is as when fresh, or a place of a live mailbox's ring. Assumes nothing.
use mathlib.Core.Path.{◌≡◌}
use mathlib.Core.Bool.{true, ◌&&◌, or-true}
use mathlib.Core.Logic.{◌⊎◌, inl, inr, ⊎_elim}
use Prim.Native.Nat.{ℕ, ◌<◌, ◌+◌, ◌*◌, ◌%◌, ◌/◌}
use native.Mathlib.Omega.{arith}
use borrow.Author.Tests.{ltb-true, lt-ltb}
use lib.Dec.{ltb}
use lib.ListN.{get_or}
use Rattle.laws.specs.Every.{every}
use Rattle.laws.proofs.Every.{every_at, at_every, and_left, and_right}
use Rattle.ipc_rules.specs.State.{Shape, fresh_message, message_in, mailbox_live}
use Rattle.ipc_rules.specs.Sound.{Sound}
use Rattle.ipc_sound.specs.SoundTest.{is_fresh_message, place_ok}
use Rattle.ipc_rules.specs.declared.state.Message.{Message}
use Rattle.ipc_rules.specs.declared.state.Table.{Table}
use Rattle.laws.proofs.Bools.{either, below?, or_cases}
use Rattle.ipc_sound.proofs.Elements.{fresh_message_lem}
use Rattle.ipc_sound.proofs.Shapes.{past}

-- place i of all is a place of a live mailbox's ring
record InRing (t : Table) (i : ℕ) : Type 0 where
  pub live : mailbox_live t (i / 8) ≡ true
  pub below : i % 8 < t.sizes.depth

abbrev flat : Table → ℕ → Message
flat t i = get_or t.messages i fresh_message

kind : (t : Table) (i : ℕ) → place_ok t i ≡ true → (flat t i ≡ fresh_message) ⊎ InRing t i
unfolding place_ok
kind t i h =
    ⊎_elim (λ f. inl (fresh_message_lem (flat t i) f))
    (λ r.
    inr
    (record {
      live = and_left (mailbox_live t (i / 8)) (ltb (i % 8) t.sizes.depth) r;
      below = ltb-true _ _ (and_right (mailbox_live t (i / 8)) (ltb (i % 8) t.sizes.depth) r);
    }))
    (or_cases (is_fresh_message (flat t i)) (mailbox_live t (i / 8) && ltb (i % 8) t.sizes.depth) h)

-- a place that is in no ring is as when fresh
pub fresh_place : (t : Table) → Shape t → every (place_ok t) 256 ≡ true → (k p : ℕ) → p < 8 →
    (mailbox_live t k ≡ true → p < t.sizes.depth → ⊥) → message_in t k p ≡ fresh_message
fresh_place t shape h k p l none =
    let box : (k * 8 + p) / 8 ≡ k = omega arith in
    let place : (k * 8 + p) % 8 ≡ p = omega arith in
    ⊎_elim
    (λ b.
    ⊎_elim (λ e. e) (λ r. absurd (none (rw box at r.live) (rw place at r.below)))
    (kind t (k * 8 + p) (every_at (place_ok t) 256 h (k * 8 + p) b)))
    (λ g. past t.messages fresh_message 256 (k * 8 + p) shape.messages g)
    (below? (k * 8 + p) 256)

-- ---- and back
passes : (t : Table) (i : ℕ) → (flat t i ≡ fresh_message) ⊎ InRing t i → place_ok t i ≡ true
unfolding place_ok
passes t i (inl e) = rw e
passes t i (inr r) = simp (r.live, lt-ltb _ _ r.below, or-true)

pub places_pass : (t : Table) → Sound t → every (place_ok t) 256 ≡ true
places_pass t σ = at_every (place_ok t) 256 (λ i _. passes t i (kinds i))
  where
    fresh : (i : ℕ) → message_in t (i / 8) (i % 8) ≡ fresh_message → flat t i ≡ fresh_message
    fresh i e = let whole : i / 8 * 8 + i % 8 ≡ i = omega arith in rw whole at e

    kinds : (i : ℕ) → (flat t i ≡ fresh_message) ⊎ InRing t i
    kinds i =
        ⊎_elim
        (λ v.
        ⊎_elim (λ l. inr (record { live = v; below = l })) (λ g. inl (fresh i (σ.places_past (i / 8) (i % 8) (omega arith) g)))
        (below? (i % 8) t.sizes.depth))
        (λ d. inl (fresh i (σ.dead_places (i / 8) (i % 8) (omega arith) d)))
        (either (mailbox_live t (i / 8)))
