-- A channel in a dead mailbox and at two dead endpoints: what ids open with it, by what they opened before. Assumes nothing.
use Rattle.std.specs.Prelude.{Result, Ok, Err}
use mathlib.Core.Path.{◌≡◌, refl, sym, ap, ◌∙◌}
use mathlib.Core.Bool.{Bool, true, false}
use mathlib.Core.Logic.{◌⊎◌, inl, inr, ⊎_elim}
use Prim.Native.Nat.{ℕ, ◌<◌}
use native.Mathlib.Omega.{arith}
use borrow.Author.Tests.{eqb-true, eq-eqb, lt-ltb}
use lib.Dec.{eqb, ltb}
use lib.ListN.{set}
use lib.Seq.{get_or-set_other}
use Rattle.laws.specs.Pick.{pick}
use Rattle.laws.proofs.Cases.{all_pick}
use Rattle.cap.specs.Id.{id_of, index_of, generation_of}
use Rattle.cap.specs.Rights.{contains_all, send_right, receive_right}
use Rattle.cap.specs.declared.CapId.{CapId}
use Rattle.cap.specs.declared.CapRights.{CapRights}
use Rattle.cap.proofs.Ids.{index_of_id, generation_of_id, same_parts}
use Rattle.ipc_rules.specs.State.{fresh_endpoint, endpoint_at, endpoint_live, new_endpoint}
use Rattle.ipc_rules.specs.Sound.{Sound}
use Rattle.ipc_rules.specs.Opening.{attempt_of, told, open_of, opening_of}
use Rattle.ipc_rules.specs.Create.{with_channel}
use Rattle.ipc_rules.specs.Views.{end_opens}
use Rattle.ipc_rules.specs.declared.state.Endpoint.{Endpoint}
use Rattle.ipc_rules.specs.declared.state.Table.{Table}
use Rattle.ipc_rules.specs.declared.opening.Reason.{Reason}
use Rattle.ipc_rules.specs.declared.opening.Reason.TheVariants.{PastEnd, Dead, OtherGeneration, NoRight}
use Rattle.ipc_rules.specs.declared.opening.Opening.{Opening}
use Rattle.ipc_rules.specs.declared.opening.Opening.TheVariants.{Opens, Shut}
use Rattle.ipc_rules.proofs.KeepsCreate.{Free, created_send, created_recv}
use Rattle.laws.proofs.Bools.{same?}

-- c is one of the two new ids, and asked for its one right
pub record NewId (t : Table) (s r : ℕ) (c : CapId) (need : CapRights) : Type 0 where
  pub is :
      ((c ≡ id_of s t.counters.next_gen) × (contains_all send_right need ≡ true)) ⊎ ((c ≡ id_of r t.counters.next_gen) × (contains_all receive_right need ≡ true))

-- what the ids open afterwards: the two new ones mailbox k, each by its one right, and all others what they opened
pub record NewOpenings (t : Table) (k s r : ℕ) (u : Table) : Type 0 where
  pub sends : opening_of u (id_of s t.counters.next_gen) send_right ≡ Opens k
  pub sends_only : opening_of u (id_of s t.counters.next_gen) receive_right ≡ Shut
  pub receives : opening_of u (id_of r t.counters.next_gen) receive_right ≡ Opens k
  pub receives_only : opening_of u (id_of r t.counters.next_gen) send_right ≡ Shut
  pub at_send : (c : CapId) (need : CapRights) → index_of c ≡ s → opening_of u c need ≡ end_opens t.counters.next_gen send_right k c need
  pub at_recv : (c : CapId) (need : CapRights) → index_of c ≡ r → opening_of u c need ≡ end_opens t.counters.next_gen receive_right k c need
  pub elsewhere : (c : CapId) (need : CapRights) → (index_of c ≡ s → ⊥) → (index_of c ≡ r → ⊥) → opening_of u c need ≡ opening_of t c need
  pub before_send : (c : CapId) (need : CapRights) → index_of c ≡ s → opening_of t c need ≡ Shut
  pub before_recv : (c : CapId) (need : CapRights) → index_of c ≡ r → opening_of t c need ≡ Shut
  -- what opened opens still, and what opens opened before or is new
  pub still : (c : CapId) (need : CapRights) (j : ℕ) → opening_of t c need ≡ Opens j → opening_of u c need ≡ Opens j
  pub only : (c : CapId) (need : CapRights) (j : ℕ) → opening_of u c need ≡ Opens j → (opening_of t c need ≡ Opens j) ⊎ ((j ≡ k) × NewId t s r c need)

-- ---- a dead endpoint opens to no id
pub dead_shut : (t : Table) (c : CapId) (need : CapRights) → endpoint_live t (index_of c) ≡ false → opening_of t c need ≡ Shut
unfolding opening_of open_of attempt_of told pick
dead_shut t c need e = rw e (all_pick (λ (a : Result ℕ Reason). told a ≡ Shut) (ltb (index_of c) t.sizes.endpoints) (Err Dead) (Err PastEnd) (λ _. refl) (λ _. refl))

-- what a live end opens, it opens to an id of its generation, by its right
end_opens_lem : (g : ℕ) (w : CapRights) (k : ℕ) (c : CapId) (need : CapRights) (j : ℕ) → end_opens g w k c need ≡ Opens j → (g ≡ generation_of c) × (contains_all w need ≡ true) × (k ≡ j)
unfolding end_opens
end_opens_lem g w k c need j =
    all_pick Says (eqb g (generation_of c)) _ _ (λ a. all_pick Says (contains_all w need) _ _ (λ b e. (eqb-true _ _ a, b, (cc))) (λ _ e. shut e)) (λ _ e. shut e)
  where
    Says : Opening → Type 0
    Says o = o ≡ Opens j → (g ≡ generation_of c) × (contains_all w need ≡ true) × (k ≡ j)

    shut : {A : Type 0} → Shut ≡ Opens j → A
    shut e = let z : ◌≡◌ {A = ℕ} 0 1 = cc in absurd (omega arith)

module _ (t : Table) (ephemeral : Bool) (k s r : ℕ) (σ : Sound t) (x : Free t k s r) where
  abbrev u : Table
  u = with_channel t ephemeral k s r

  abbrev g : ℕ
  g = t.counters.next_gen

  send_below : s < t.sizes.endpoints
  send_below = let l = x.above in let m = x.recv in omega arith

  send_end : endpoint_at u s ≡ new_endpoint g send_right k
  send_end = created_send t ephemeral k s r σ x

  recv_end : endpoint_at u r ≡ new_endpoint g receive_right k
  recv_end = created_recv t ephemeral k s r σ x

  other_end : (i : ℕ) → (i ≡ s → ⊥) → (i ≡ r → ⊥) → endpoint_at u i ≡ endpoint_at t i
  other_end i a b =
      get_or-set_other (set t.endpoints s (new_endpoint g send_right k)) r i (new_endpoint g receive_right k) fresh_endpoint b
      ∙ get_or-set_other t.endpoints s i (new_endpoint g send_right k) fresh_endpoint a

  at_end : (i : ℕ) (w : CapRights) (c : CapId) (need : CapRights) → i < t.sizes.endpoints → endpoint_at u i ≡ new_endpoint g w k → index_of c ≡ i → opening_of u c need ≡ end_opens g w k c need
  unfolding opening_of open_of attempt_of told end_opens pick
  at_end i w c need l e h = rw (h, lt-ltb i t.sizes.endpoints l, e) (both (eqb g (generation_of c)) (contains_all w need))
    where
      both : (a b : Bool) → told (pick a (pick b (Ok k) (Err NoRight)) (Err OtherGeneration)) ≡ pick a (pick b (Opens k) Shut) Shut
      both true true = refl
      both true false = refl
      both false b = refl

  opens_by : (i : ℕ) (w need : CapRights) → i < t.sizes.endpoints → endpoint_at u i ≡ new_endpoint g w k → opening_of u (id_of i g) need ≡ pick (contains_all w need) (Opens k) Shut
  unfolding end_opens pick
  opens_by i w need l e =
      let z = σ.sizes in
      at_end i w (id_of i g) need l e (index_of_id i g (omega arith)) ∙ rw (eq-eqb g (generation_of (id_of i g)) (sym (generation_of_id i g (omega arith))))

  elsewhere : (c : CapId) (need : CapRights) → (index_of c ≡ s → ⊥) → (index_of c ≡ r → ⊥) → opening_of u c need ≡ opening_of t c need
  unfolding opening_of
  elsewhere c need a b = ap (λ (e : Endpoint). open_of (ltb (index_of c) t.sizes.endpoints) e c need) (other_end (index_of c) a b)

  before : (i : ℕ) (c : CapId) (need : CapRights) → endpoint_live t i ≡ false → index_of c ≡ i → opening_of t c need ≡ Shut
  before i c need d h = dead_shut t c need (rw h d)

  still : (c : CapId) (need : CapRights) (j : ℕ) → opening_of t c need ≡ Opens j → opening_of u c need ≡ Opens j
  still c need j e = elsewhere c need (λ h. never (before s c need x.send_dead h)) (λ h. never (before r c need x.recv_dead h)) ∙ e
    where
      never : opening_of t c need ≡ Shut → ⊥
      never h = let z : ◌≡◌ {A = ℕ} 0 1 = cc in omega arith

  new_id : (i : ℕ) (c : CapId) → i < t.sizes.endpoints → index_of c ≡ i → g ≡ generation_of c → c ≡ id_of i g
  new_id i c l h e =
      let z = σ.sizes in
      same_parts c (id_of i g) (h ∙ sym (index_of_id i g (omega arith))) (sym e ∙ sym (generation_of_id i g (omega arith)))

  only : (c : CapId) (need : CapRights) (j : ℕ) → opening_of u c need ≡ Opens j → (opening_of t c need ≡ Opens j) ⊎ ((j ≡ k) × NewId t s r c need)
  only c need j e =
      ⊎_elim (λ h. let p = end_opens_lem g send_right k c need j (sym (at_end s send_right c need send_below send_end h) ∙ e) in
      inr (sym p.2, record { is = inl (new_id s c send_below h p.0, p.1) }))
      (λ a. ⊎_elim (λ h. let p = end_opens_lem g receive_right k c need j (sym (at_end r receive_right c need x.recv recv_end h) ∙ e) in
      inr (sym p.2, record { is = inr (new_id r c x.recv h p.0, p.1) }))
      (λ b. inl (sym (elsewhere c need a b) ∙ e)) (same? (index_of c) r)) (same? (index_of c) s)

  pub new_openings : NewOpenings t k s r u
  unfolding pick
  new_openings =
      record {
        sends = opens_by s send_right send_right send_below send_end;
        sends_only = opens_by s send_right receive_right send_below send_end;
        receives = opens_by r receive_right receive_right x.recv recv_end;
        receives_only = opens_by r receive_right send_right x.recv recv_end;
        at_send = λ c need h. at_end s send_right c need send_below send_end h;
        at_recv = λ c need h. at_end r receive_right c need x.recv recv_end h;
        elsewhere = elsewhere;
        before_send = λ c need h. before s c need x.send_dead h;
        before_recv = λ c need h. before r c need x.recv_dead h;
        still = still;
        only = only;
      }
