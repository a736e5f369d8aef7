-- What holds in every run: the next generation goes by how many channels were made, an id that opens a channel has that channel's
-- generation, and each live mailbox has a number of its own. Assumes nothing.
use mathlib.Core.Path.{◌≡◌, refl, sym, ap, ◌∙◌}
use mathlib.Core.Bool.{Bool, true}
use mathlib.Core.List.{List, [], ◌∷◌}
use mathlib.Core.Logic.{◌⊎◌, ⊎_elim}
use Prim.Native.Nat.{ℕ, suc, ◌+◌, ◌-◌, ◌%◌, ◌≤◌}
use native.Mathlib.Omega.{arith}
use borrow.Author.Tests.{eqb-true, eqb-false}
use lib.Dec.{eqb}
use Rattle.laws.proofs.Bools.{same?}
use Rattle.laws.proofs.Cases.{all_pick, not_both}
use Rattle.cap.specs.Id.{index_of, generation_of}
use Rattle.cap.specs.declared.CapId.{CapId}
use Rattle.cap.specs.declared.CapRights.{CapRights}
use Rattle.cap.proofs.Ids.{generation_of_id}
use Rattle.mint.specs.Generation.{next_generation}
use Rattle.ipc_rules.specs.State.{mailbox_live}
use Rattle.ipc_rules.specs.Sound.{Sound}
use Rattle.ipc_rules.specs.Create.{create_of}
use Rattle.ipc_rules.specs.Make.{fresh_of, in_range}
use Rattle.ipc_rules.specs.Opening.{opening_of}
use Rattle.ipc_rules.specs.declared.state.Mailbox.{Mailbox}
use Rattle.ipc_rules.specs.declared.state.Sizes.{Sizes}
use Rattle.ipc_rules.specs.declared.state.Table.{Table}
use Rattle.ipc_rules.specs.declared.opening.Opening.TheVariants.{Opens, Shut}
use Rattle.ipc_rules.proofs.Fresh.{in_range_of, fresh_sound}
use Rattle.ipc_rules.proofs.Openings.{opens_live}
use Rattle.ipc_rules.proofs.KeepsCreate.{create_kept}
use Rattle.ipc_rules.proofs.NewChannel.{NewId}
use Rattle.ipc_rules.proofs.AfterNew.{fresh_shut, fresh_box}
use Rattle.history.specs.Calls.{Call, after}
use Rattle.history.specs.World.{World, settled, step, run, start, Reached, fresh, then}
use Rattle.history.specs.Channels.{LivesIn}
use Rattle.history.proofs.Kept.{after_sound}
use Rattle.history.proofs.Shrinks.{Shrinks, lived}
use Rattle.history.proofs.Steps.{Births, StepWays, settles, births, step_ways}

-- the generation of the channel numbered n: 1 for the first, and round again after 65,535
abbrev pub gen_of : ℕ → ℕ
gen_of n = (n - 1) % 65535 + 1

pub record Tidy (w : World) : Type 0 where
  pub sound : Sound w.table
  pub next : w.table.counters.next_gen ≡ gen_of (suc w.made)
  pub generation : (c : CapId) (need : CapRights) (k : ℕ) → opening_of w.table c need ≡ Opens k → generation_of c ≡ gen_of (w.tenant k)
  -- a live mailbox has the number of a channel that was made, and no other has the same
  pub first : (k : ℕ) → mailbox_live w.table k ≡ true → 1 ≤ w.tenant k
  pub last : (k : ℕ) → mailbox_live w.table k ≡ true → w.tenant k ≤ w.made
  pub single : (j k : ℕ) → mailbox_live w.table j ≡ true → mailbox_live w.table k ≡ true → w.tenant j ≡ w.tenant k → j ≡ k

-- an id with index i opens channel n, a later one, or nothing
abbrev pub Since : ℕ → ℕ → World → Type 0
Since n i w = (c : CapId) (need : CapRights) (k : ℕ) → index_of c ≡ i → opening_of w.table c need ≡ Opens k → n ≤ w.tenant k

-- what a step, and a run, does to a tidy world
pub record Grows (w v : World) : Type 0 where
  pub tidy : Tidy v
  pub more : w.made ≤ v.made
  pub since : (n i : ℕ) → n ≤ w.made → Since n i w → Since n i v

pub next_gen : (n g : ℕ) → g ≡ gen_of (suc n) → next_generation g ≡ gen_of (suc (suc n))
unfolding next_generation
next_gen n g e =
    all_pick (λ x. x ≡ gen_of (suc (suc n))) (eqb g 65535) _ _ (λ h. let l = eqb-true g 65535 h in omega arith)
    (λ h. let l = eqb-false g 65535 h in omega arith)

-- ---- a step that makes no channel
settles_grows : (w : World) (u : Table) → Tidy w → Sound u → Shrinks w.table u → Grows w (settled w u)
settles_grows w u τ σ h =
    let was : (k : ℕ) → mailbox_live u k ≡ true → mailbox_live w.table k ≡ true = lived w.table u τ.sound σ h in
    record {
      tidy = record {
        sound = σ;
        next = h.next ∙ τ.next;
        generation = λ c need k e. τ.generation c need k (h.only c need k e);
        first = λ k l. τ.first k (was k l);
        last = λ k l. τ.last k (was k l);
        single = λ j k l m. τ.single j k (was j l) (was k m);
      };
      more = omega arith;
      since = λ n i _ s c need k e o. s c need k e (h.only c need k o);
    }

-- ---- a step that makes one
module _ (w v : World) (b : Bool) (k s r : ℕ) (τ : Tidy w) (β : Births w b k s r v) where
  abbrev t : Table
  t = w.table

  abbrev u : Table
  u = (create_of t b).table

  sound_after : Sound u
  sound_after = create_kept t b τ.sound

  -- what lived before is another mailbox, with its number as it was
  other : (j : ℕ) → mailbox_live t j ≡ true → j ≡ k → ⊥
  other j l e = not_both _ l (ap (mailbox_live t) e ∙ β.makes.took.box_dead)

  was_live : (j : ℕ) → (j ≡ k → ⊥) → mailbox_live u j ≡ true → mailbox_live t j ≡ true
  was_live j ne l = sym (β.makes.others j ne).live ∙ l

  old_tenant : (j : ℕ) → mailbox_live t j ≡ true → v.tenant j ≡ w.tenant j
  old_tenant j l = β.others j (other j l)

  -- a live mailbox afterwards is the new one, or lived before
  each : (P : ℕ → Type 0) → P k → ((j : ℕ) → mailbox_live t j ≡ true → P j) → (j : ℕ) → mailbox_live u j ≡ true → P j
  each P new old j l = ⊎_elim (λ e. rw e new) (λ ne. old j (was_live j ne l)) (same? j k)

  -- a new id has the generation that was the next
  new_generation : (c : CapId) (need : CapRights) → NewId t s r c need → generation_of c ≡ t.counters.next_gen
  new_generation c need x =
      let f = β.makes.took in
      let z = τ.sound.sizes in
      ⊎_elim (λ p. ap generation_of p.0 ∙ generation_of_id s t.counters.next_gen (omega arith))
      (λ p. ap generation_of p.0 ∙ generation_of_id r t.counters.next_gen (omega arith)) x.is

  generations : (c : CapId) (need : CapRights) (j : ℕ) → opening_of u c need ≡ Opens j → generation_of c ≡ gen_of (v.tenant j)
  generations c need j e =
      ⊎_elim (λ o. rw (old_tenant j (opens_live t c need j τ.sound o)) (τ.generation c need j o))
      (λ p. new_generation c need p.1 ∙ τ.next ∙ ap gen_of (sym (ap v.tenant p.0 ∙ β.tenant)))
      (β.makes.openings.only c need j e)

  births_tidy : Tidy v
  births_tidy =
      record {
        sound = rw β.table sound_after;
        next = rw (β.table, β.made) (β.makes.next ∙ next_gen w.made _ τ.next);
        generation = rw β.table generations;
        first = rw β.table (each (λ j. 1 ≤ v.tenant j) (rw β.tenant (omega arith)) (λ j l. rw (old_tenant j l) (τ.first j l)));
        last = rw (β.table, β.made) (each (λ j. v.tenant j ≤ suc w.made) (rw β.tenant (omega arith)) (λ j l. let p = τ.last j l in rw (old_tenant j l) (omega arith)));
        single = rw β.table (λ i j l m.
            each (λ x. v.tenant x ≡ v.tenant j → x ≡ j)
            (λ e. each (λ y. v.tenant k ≡ v.tenant y → k ≡ y) (λ _. refl) (λ y n q. absurd (later y n (sym q))) j m e)
            (λ x n e. each (λ y. v.tenant x ≡ v.tenant y → x ≡ y) (λ q. absurd (later x n q))
            (λ y o q. τ.single x y n o (sym (old_tenant x n) ∙ q ∙ old_tenant y o)) j m e) i l);
      }
    where
      -- an old channel's number is not the new one's
      later : (j : ℕ) → mailbox_live t j ≡ true → v.tenant j ≡ v.tenant k → ⊥
      later j l q = let p = τ.last j l in let a = old_tenant j l in let c = β.tenant in omega arith

  -- what opens afterwards is the new channel, or opened before
  births_since : (n i : ℕ) → n ≤ w.made → Since n i w → Since n i v
  births_since n i few h = rw β.table (λ c need j e o.
      ⊎_elim (λ q. rw (old_tenant j (opens_live t c need j τ.sound q)) (h c need j e q))
      (λ p. let c : v.tenant j ≡ suc w.made = ap v.tenant p.0 ∙ β.tenant in omega arith)
      (β.makes.openings.only c need j o))

  births_grows : Grows w v
  births_grows = record { tidy = births_tidy; more = let p = β.made in omega arith; since = births_since }

  -- at an end of the new channel nothing else opens
  pub births_issues : (i : ℕ) → (i ≡ s) ⊎ (i ≡ r) → Since (suc w.made) i v
  births_issues i at = rw β.table (λ c need j e o.
      ⊎_elim (λ q. absurd (shut c need j q (⊎_elim (λ x. β.makes.openings.before_send c need (e ∙ x)) (λ x. β.makes.openings.before_recv c need (e ∙ x)) at)))
      (λ p. let n : v.tenant j ≡ suc w.made = ap v.tenant p.0 ∙ β.tenant in omega arith)
      (β.makes.openings.only c need j o))
    where
      shut : (c : CapId) (need : CapRights) (j : ℕ) → opening_of t c need ≡ Opens j → opening_of t c need ≡ Shut → ⊥
      shut c need j p q = let z : ◌≡◌ {A = ℕ} 0 1 = cc in omega arith

-- ---- every step, and every run
pub step_grows : (w : World) (c : Call) → Tidy w → Grows w (step w c)
step_grows w c τ = by (step_ways w c τ.sound)
  where
    by : {v : World} → StepWays w c v → Grows w v
    by (settles h q) = rw q (settles_grows w (after w.table c) τ (after_sound w.table c τ.sound) h)
    by {v} (births b k s r _ β) = births_grows w v b k s r τ β

pub run_grows : (w : World) (cs : List Call) → Tidy w → Grows w (run w cs)
unfolding run
run_grows w [] τ = record { tidy = τ; more = omega arith; since = λ _ _ _ h. h }
run_grows w (c ∷ cs) τ =
    let a = step_grows w c τ in
    let z = run_grows (step w c) cs a.tidy in
    let p = a.more in
    let q = z.more in
    record { tidy = z.tidy; more = omega arith; since = λ n i few h. z.since n i (omega arith) (a.since n i few h) }

pub start_tidy : (z : Sizes) → in_range z ≡ true → Tidy (start z)
start_tidy z h =
    record {
      sound = fresh_sound z (in_range_of z h);
      next = refl;
      generation = λ c need k e. absurd (shut c need k e);
      first = λ k l. absurd (dead k l);
      last = λ k l. absurd (dead k l);
      single = λ j k l _ _. absurd (dead j l);
    }
  where
    dead : (k : ℕ) → mailbox_live (fresh_of z) k ≡ true → ⊥
    dead k l = not_both _ l (ap (λ (b : Mailbox). b.live) (fresh_box z k))

    shut : (c : CapId) (need : CapRights) (k : ℕ) → opening_of (fresh_of z) c need ≡ Opens k → ⊥
    shut c need k e = let f = fresh_shut z c need in let q : ◌≡◌ {A = ℕ} 0 1 = cc in omega arith

pub reached_tidy : {w : World} → Reached w → Tidy w
reached_tidy (fresh z h) = start_tidy z h
reached_tidy (then {w} r c) = (step_grows w c (reached_tidy r)).tidy

-- ---- a channel is one mailbox
pub one_mailbox : {w : World} → Reached w → (n j k : ℕ) → LivesIn w n j → LivesIn w n k → j ≡ k
one_mailbox r n j k a b = (reached_tidy r).single j k a.live b.live (a.tenant ∙ sym b.tenant)
