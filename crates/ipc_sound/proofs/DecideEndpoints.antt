-- The test of the endpoints: past the size as when fresh, and a live one is the last, and so the one, such end of a live mailbox.
-- Assumes nothing.
use mathlib.Core.Path.{◌≡◌, refl, sym, ◌∙◌, ap}
use mathlib.Core.Bool.{Bool, true, false, ◌&&◌, ◌||◌, or-true}
use mathlib.Core.Logic.{◌⊎◌, inl, inr, ⊎_elim}
use Prim.Native.Nat.{ℕ, ◌≤◌, ◌<◌}
use native.Mathlib.Omega.{arith}
use borrow.Author.Tests.{eqb-true, eq-eqb, ltb-true, lt-ltb}
use lib.Dec.{eqb, ltb}
use Rattle.laws.proofs.Cases.{not_both}
use Rattle.laws.specs.Pick.{pick}
use Rattle.laws.specs.Every.{every}
use Rattle.laws.proofs.Every.{every_at, at_every, and_left, and_right}
use Rattle.cap.specs.Rights.{send_right, receive_right}
use Rattle.cap.specs.declared.CapRights.{CapRights}
use Rattle.ipc_rules.specs.State.{Shape, fresh_endpoint, endpoint_at, endpoint_live, mailbox_live}
use Rattle.ipc_rules.specs.Sound.{OneEnd, Ends, Names, Sound}
use Rattle.ipc_sound.specs.SoundTest.{is_fresh_endpoint, last_end, send_end, recv_end, endpoint_test, endpoint_ok}
use Rattle.ipc_rules.specs.declared.state.Endpoint.{Endpoint}
use Rattle.ipc_rules.specs.declared.state.Table.{Table}
use Rattle.laws.proofs.Bools.{either, below?, and_three, or_cases, picked, not_picked}
use Rattle.ipc_sound.proofs.Elements.{fresh_endpoint_lem, found_at, at_found}
use Rattle.ipc_sound.proofs.LastEnds.{IsLast, last_of}
use Rattle.std.specs.Prelude.{None, Option, Some}
use Rattle.std.specs.Option.{option_eq}
use Rattle.std.proofs.lemmas.Option.{same_Some}
use Rattle.ipc_sound.proofs.Shapes.{past, end_below}

-- the test of endpoint i
abbrev pub passing : Table → ℕ → Bool
passing t = endpoint_ok t.sizes.endpoints t.endpoints t.mailboxes

-- the last end with endpoint i's right of the mailbox that it names
abbrev last_like : Table → ℕ → Option ℕ
last_like t i = last_end t.endpoints (endpoint_at t i).rights (endpoint_at t i).mailbox 64

pub record Known (t : Table) (i : ℕ) : Type 0 where
  pub past : t.sizes.endpoints ≤ i → endpoint_at t i ≡ fresh_endpoint
  pub names : endpoint_live t i ≡ true → Names t.mailboxes (endpoint_at t i)
  pub last : endpoint_live t i ≡ true → last_like t i ≡ Some i

rights_are : (e : Endpoint) (w : CapRights) → eqb e.rights.bits w.bits ≡ true → e.rights ≡ w
rights_are e w h = λ j. record { bits = eqb-true e.rights.bits w.bits h j }

module _ (t : Table) (i : ℕ) (h : passing t i ≡ true) where
  abbrev e : Endpoint
  e = endpoint_at t i

  abbrev below : Bool
  below = ltb i t.sizes.endpoints

  abbrev as_send : Bool
  as_send = eqb e.rights.bits send_right.bits && option_eq eqb (send_end t.endpoints e.mailbox) (Some i)

  abbrev as_recv : Bool
  as_recv = eqb e.rights.bits receive_right.bits && option_eq eqb (recv_end t.endpoints e.mailbox) (Some i)

  alive : e.live ≡ true → (below ≡ true) × (mailbox_live t e.mailbox ≡ true) × ((as_send || as_recv) ≡ true)
  unfolding endpoint_ok endpoint_test
  alive v =
      and_three below (mailbox_live t e.mailbox) (as_send || as_recv)
      (picked e.live (below && mailbox_live t e.mailbox && (as_send || as_recv)) (below || is_fresh_endpoint e) h v)

  dead : e.live ≡ false → (below ≡ true) ⊎ (is_fresh_endpoint e ≡ true)
  unfolding endpoint_ok endpoint_test
  dead v =
      or_cases below (is_fresh_endpoint e)
      (not_picked e.live (below && mailbox_live t e.mailbox && (as_send || as_recv)) (below || is_fresh_endpoint e) h v)

  -- an end with the right w that is the last such end is the last like it
  like : (w : CapRights) → (eqb e.rights.bits w.bits && option_eq eqb (last_end t.endpoints w e.mailbox 64) (Some i)) ≡ true →
      (e.rights ≡ w) × (last_like t i ≡ Some i)
  like w s =
      let r = rights_are e w (and_left (eqb e.rights.bits w.bits) (option_eq eqb (last_end t.endpoints w e.mailbox 64) (Some i)) s) in
      (r, rw r (found_at _ i (and_right (eqb e.rights.bits w.bits) (option_eq eqb (last_end t.endpoints w e.mailbox 64) (Some i)) s)))

  is_one : e.live ≡ true → ((e.rights ≡ send_right) ⊎ (e.rights ≡ receive_right)) × (last_like t i ≡ Some i)
  is_one v =
      ⊎_elim (λ s. let p = like send_right s in (inl p.0, p.1)) (λ s. let p = like receive_right s in (inr p.0, p.1)) (or_cases as_send as_recv (alive v).2)

  known_below : Known t i
  known_below =
      record {
        past = λ g.
            ⊎_elim (λ v. let l : i < t.sizes.endpoints = ltb-true _ _ (alive v).0 in absurd (omega arith))
            (λ d. ⊎_elim (λ b. let l : i < t.sizes.endpoints = ltb-true _ _ b in absurd (omega arith)) (λ f. fresh_endpoint_lem e f) (dead d))
            (either e.live);
        names = λ v. record { rights = (is_one v).0; live = (alive v).1 };
        last = λ v. (is_one v).1;
      }

pub known_of : (t : Table) → Shape t → every (passing t) 64 ≡ true → (i : ℕ) → Known t i
known_of t shape h i =
    ⊎_elim (λ l. known_below t i (every_at (passing t) 64 h i l))
    (λ g.
    let f = past t.endpoints fresh_endpoint 64 i shape.endpoints g in
    let none : (endpoint_live t i ≡ true → ⊥) = λ v. not_both _ v (ap (λ (x : Endpoint). x.live) f) in
    record { past = λ _. f; names = λ v. absurd (none v); last = λ v. absurd (none v) })
    (below? i 64)

-- where each live endpoint is the last end like it, an end is the only one
pub one_end : (t : Table) → ((i : ℕ) → Known t i) → (w : CapRights) (k i : ℕ) → last_end t.endpoints w k 64 ≡ Some i → OneEnd t.endpoints w k i
one_end t known w k i e =
    record {
      is = (last_of t.endpoints w k 64).end i e;
      only = λ j x. same_Some j i (sym ((known j).last x.live) ∙ rw (x.rights, x.names) e);
    }

-- ---- and back
-- the one end is the last
pub end_found : (t : Table) → Shape t → (w : CapRights) (k i : ℕ) → OneEnd t.endpoints w k i → last_end t.endpoints w k 64 ≡ Some i
end_found t shape w k i o = by (last_end t.endpoints w k 64) refl
  where
    last : IsLast t.endpoints w k 64 (last_end t.endpoints w k 64)
    last = last_of t.endpoints w k 64

    by : (found : Option ℕ) → last_end t.endpoints w k 64 ≡ found → last_end t.endpoints w k 64 ≡ Some i
    by None e = absurd (last.any i (end_below t shape i o.is.live) o.is e)
    by (Some j) e = e ∙ ap Some (o.only j (last.end j e))

module _ (t : Table) (σ : Sound t) (i : ℕ) where
  in_size : endpoint_live t i ≡ true → i < t.sizes.endpoints
  in_size v =
      ⊎_elim (λ l. l) (λ g. absurd (not_both _ v (ap (λ (x : Endpoint). x.live) (σ.endpoints_past i g)))) (below? i t.sizes.endpoints)

  is_last : (w : CapRights) (j : ℕ) → OneEnd t.endpoints w (endpoint_at t i).mailbox j → endpoint_live t i ≡ true → (endpoint_at t i).rights ≡ w →
      last_end t.endpoints w (endpoint_at t i).mailbox 64 ≡ Some i
  is_last w j o v r = end_found t σ.shape w _ j o ∙ ap Some (sym (o.only i (record { live = v; rights = r; names = refl })))

  ends : endpoint_live t i ≡ true → Ends t.endpoints (endpoint_at t i).mailbox
  ends v = σ.ends (endpoint_at t i).mailbox (σ.names i v).live

  of_send : endpoint_live t i ≡ true → (endpoint_at t i).rights ≡ send_right → passing t i ≡ true
  unfolding endpoint_ok endpoint_test pick
  of_send v r =
      let bits : (endpoint_at t i).rights.bits ≡ 1 = ap (λ (x : CapRights). x.bits) r in
      simp (v, lt-ltb _ _ (in_size v), (σ.names i v).live, bits, at_found _ i (is_last send_right _ (ends v).one_send v r))

  of_recv : endpoint_live t i ≡ true → (endpoint_at t i).rights ≡ receive_right → passing t i ≡ true
  unfolding endpoint_ok endpoint_test pick
  of_recv v r =
      let bits : (endpoint_at t i).rights.bits ≡ 2 = ap (λ (x : CapRights). x.bits) r in
      simp (v, lt-ltb _ _ (in_size v), (σ.names i v).live, bits, at_found _ i (is_last receive_right _ (ends v).one_recv v r))

  passes : (v : Bool) → endpoint_live t i ≡ v → passing t i ≡ true
  unfolding endpoint_ok endpoint_test pick
  passes true v = ⊎_elim (λ r. of_send v r) (λ r. of_recv v r) (σ.names i v).rights
  passes false v =
      ⊎_elim (λ l. simp (v, lt-ltb i t.sizes.endpoints l)) (λ g. rw (σ.endpoints_past i g) (simp or-true)) (below? i t.sizes.endpoints)

pub endpoints_pass : (t : Table) → Sound t → every (passing t) 64 ≡ true
endpoints_pass t σ = at_every (passing t) 64 (λ i _. passes t σ i _ refl)
