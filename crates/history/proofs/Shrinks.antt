-- A call that makes no channel lets no id open what it did not open, shuts none whose mailbox lives on, and uses no generation.
-- Assumes nothing.
use mathlib.Core.Path.{◌≡◌, refl, sym, ap, ◌∙◌}
use mathlib.Core.Bool.{true}
use mathlib.Core.Logic.{⊎_elim}
use Prim.Native.Nat.{ℕ, ◌<◌}
use native.Mathlib.Omega.{arith}
use borrow.Author.Tests.{eq-eqb, lt-ltb}
use Rattle.laws.specs.Pick.{pick}
use Rattle.laws.proofs.Bools.{below?}
use Rattle.laws.proofs.Cases.{not_both}
use Rattle.cap.specs.Id.{id_of, index_of, generation_of}
use Rattle.cap.specs.Rights.{send_right}
use Rattle.cap.specs.declared.CapId.{CapId}
use Rattle.cap.specs.declared.CapRights.{CapRights}
use Rattle.cap.proofs.Ids.{index_of_id, generation_of_id}
use Rattle.ipc_rules.specs.State.{endpoint_at, mailbox_live}
use Rattle.ipc_rules.specs.Sound.{Sound}
use Rattle.ipc_rules.specs.Opening.{attempt_of, told, opening_of, open_of}
use Rattle.ipc_rules.specs.Views.{Steady}
use Rattle.ipc_rules.specs.declared.state.Endpoint.{Endpoint}
use Rattle.ipc_rules.specs.declared.state.Table.{Table}
use Rattle.ipc_rules.specs.declared.opening.Opening.TheVariants.{Opens}
use Rattle.ipc_rules.proofs.Openings.{opens_live}

-- ---- what lives, opens
-- an id that opens mailbox k
pub record Opener (t : Table) (k : ℕ) : Type 0 where
  pub id : CapId
  pub opens : opening_of t id send_right ≡ Opens k

pub live_opens : (t : Table) (k : ℕ) → Sound t → mailbox_live t k ≡ true → Opener t k
unfolding opening_of open_of pick attempt_of told
live_opens t k s l =
    let e = s.ends k l in
    let i = e.send in
    let g = (endpoint_at t i).generation in
    let is = e.one_send.is in
    let z = s.sizes in
    let below : i < t.sizes.endpoints =
    ⊎_elim (λ h. h) (λ h. absurd (not_both _ is.live (ap (λ (x : Endpoint). x.live) (s.endpoints_past i h)))) (below? i t.sizes.endpoints) in
    let at : index_of (id_of i g) ≡ i = index_of_id i g (omega arith) in
    let of : generation_of (id_of i g) ≡ g = generation_of_id i g (omega arith) in
    record { id = id_of i g; opens = rw (at, of, lt-ltb _ _ below, is.live, eq-eqb g g refl, is.rights, is.names) }

-- ---- the relation
pub record Shrinks (t u : Table) : Type 0 where
  pub only : (c : CapId) (need : CapRights) (k : ℕ) → opening_of u c need ≡ Opens k → opening_of t c need ≡ Opens k
  pub still : (c : CapId) (need : CapRights) (k : ℕ) → opening_of t c need ≡ Opens k → mailbox_live u k ≡ true → opening_of u c need ≡ Opens k
  pub next : u.counters.next_gen ≡ t.counters.next_gen

pub steady_shrinks : (t u : Table) → Steady t u → Shrinks t u
steady_shrinks t u a = record { only = λ c need k e. sym (a.opening c need) ∙ e; still = λ c need k e _. a.opening c need ∙ e; next = a.next }

-- what lives afterwards lived before
pub lived : (t u : Table) → Sound t → Sound u → Shrinks t u → (k : ℕ) → mailbox_live u k ≡ true → mailbox_live t k ≡ true
lived t u s σ h k l = let o = live_opens u k σ l in opens_live t o.id send_right k s (h.only o.id send_right k o.opens)
