-- The computed test and the proposition say the same of a table: `sound_test` decides `Sound`. Assumes nothing.
use mathlib.Core.Path.{◌≡◌, ap}
use mathlib.Core.Bool.{true, ◌&&◌, not}
use mathlib.Core.Logic.{⊎_elim}
use native.Mathlib.Omega.{arith}
use borrow.Author.Tests.{eqb-false, ne_eqb, not-true}
use lib.Dec.{eqb}
use Rattle.laws.proofs.Cases.{not_both}
use Rattle.laws.specs.Every.{every}
use Rattle.laws.proofs.Every.{and_left, and_right}
use Rattle.ipc_rules.specs.State.{Shape}
use Rattle.ipc_rules.specs.Make.{in_range}
use Rattle.ipc_rules.specs.Sound.{Sound}
use Rattle.ipc_sound.specs.SoundTest.{place_ok, sound_test}
use Rattle.ipc_rules.specs.declared.state.Mailbox.{Mailbox}
use Rattle.ipc_rules.specs.declared.state.Table.{Table}
use Rattle.laws.proofs.Bools.{and_four}
use Rattle.ipc_rules.proofs.Fresh.{in_range_of, of_in_range}
use Rattle.ipc_sound.proofs.DecidePlaces.{fresh_place, places_pass}
use Rattle.ipc_sound.proofs.DecideEndpoints as endpoints
use Rattle.ipc_sound.proofs.DecideMailboxes as mailboxes

-- the test's parts
record Parts (t : Table) : Type 0 where
  pub sizes : in_range t.sizes ≡ true
  pub next : not (eqb t.counters.next_gen 0) ≡ true
  pub endpoints : every (endpoints.passing t) 64 ≡ true
  pub mailboxes : every (mailboxes.passing t) 32 ≡ true
  pub places : every (place_ok t) 256 ≡ true

parts : (t : Table) → sound_test t ≡ true → Parts t
unfolding sound_test
parts t h =
    let next = not (eqb t.counters.next_gen 0) in
    let ends = every (endpoints.passing t) 64 in
    let boxes = every (mailboxes.passing t) 32 in
    let rest = next && ends && boxes && every (place_ok t) 256 in
    let p = and_four next ends boxes (every (place_ok t) 256) (and_right (in_range t.sizes) rest h) in
    record { sizes = and_left (in_range t.sizes) rest h; next = p.0; endpoints = p.1; mailboxes = p.2; places = p.3 }

-- a table that passes the test is sound
pub sound_of : (t : Table) → Shape t → sound_test t ≡ true → Sound t
sound_of t shape h =
    let p = parts t h in
    let known = endpoints.known_of t shape p.endpoints in
    let kind = mailboxes.kind_of t shape known p.mailboxes in
    record {
      shape = shape;
      sizes = in_range_of t.sizes p.sizes;
      mailboxes_past = λ k g. ⊎_elim (λ e. e) (λ v. absurd (omega arith)) (kind k);
      endpoints_past = λ i. (known i).past;
      places_past = λ k q l g. fresh_place t shape p.places k q l (λ _ b. omega arith);
      next = eqb-false t.counters.next_gen 0 (not-true (eqb t.counters.next_gen 0) p.next);
      dead = λ k d. ⊎_elim (λ e. e) (λ v. absurd (not_both _ v.live d)) (kind k);
      dead_places = λ k q l d. fresh_place t shape p.places k q l (λ v _. not_both _ v d);
      ends = λ k v. ⊎_elim (λ e. absurd (not_both _ v (ap (λ (b : Mailbox). b.live) e))) (λ x. x.ends) (kind k);
      ring = λ k v. ⊎_elim (λ e. absurd (not_both _ v (ap (λ (b : Mailbox). b.live) e))) (λ x. x.ring) (kind k);
      names = λ i. (known i).names;
      waits_empty = λ k w. ⊎_elim (λ e. absurd (not_both _ w (ap (λ (b : Mailbox). b.waiter.present) e))) (λ x. x.waits.empty w) (kind k);
      waits_held = λ k w. ⊎_elim (λ e. absurd (not_both _ w (ap (λ (b : Mailbox). b.waiter.present) e))) (λ x. x.waits.held w) (kind k);
    }

-- a sound table passes the test
pub test_of : (t : Table) → Sound t → sound_test t ≡ true
unfolding sound_test
test_of t σ =
    simp (of_in_range t.sizes σ.sizes, ne_eqb _ _ σ.next, places_pass t σ, endpoints.endpoints_pass t σ, mailboxes.mailboxes_pass t σ)
