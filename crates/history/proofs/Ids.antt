-- Demand 3's first sentence, `ids_keep`, with `ids_open` and `one_channel` beside it. The invariant is `Tidy`: an id that opens
-- has the generation of the channel that it opens; and at an endpoint where channel n's id was issued, what opens is channel n or a later
-- one, `Since`. Of fewer than 65,535 later ones none has channel n's generation. Assumes nothing.
use mathlib.Core.Path.{◌≡◌, refl, sym, ap, ◌∙◌}
use mathlib.Core.Bool.{Bool}
use mathlib.Core.List.{List}
use mathlib.Core.Logic.{◌⊎◌, inl, inr, ⊎_elim}
use Prim.Native.Nat.{ℕ, ◌+◌, ◌*◌, ◌≤◌, ◌<◌}
use native.Mathlib.Omega.{arith}
use Rattle.cap.specs.Id.{id_of, index_of, generation_of}
use Rattle.cap.specs.Rights.{send_right, receive_right}
use Rattle.cap.specs.declared.CapId.{CapId}
use Rattle.cap.specs.declared.CapRights.{CapRights}
use Rattle.cap.proofs.Ids.{index_of_id, generation_of_id}
use Rattle.ipc_rules.specs.Sound.{Sound}
use Rattle.ipc_rules.specs.Create.{create_of}
use Rattle.ipc_rules.specs.Opening.{opening_of, either_of}
use Rattle.ipc_rules.specs.declared.state.Channel.{Channel}
use Rattle.ipc_rules.specs.declared.opening.Opening.TheVariants.{Opens}
use Rattle.ipc_rules.proofs.Openings.{opens_live, either_cases, hold_opens}
use Rattle.ipc_rules.proofs.OtherOpenings.{any_is}
use Rattle.ipc_rules.proofs.AfterCreate.{CreateWays, no_mailbox, no_endpoint, created, create_ways}
use Rattle.history.specs.Calls.{Call, create, answer}
use Rattle.history.specs.World.{World, step, run, Reached}
use Rattle.history.specs.Channels.{LivesIn}
use Rattle.history.specs.Ids.{Makes, IdOf, OpensOnly, IdsKeep, OneMailbox, OpensNow, IdsOpen}
use Rattle.history.proofs.Steps.{Births, create_births}
use Rattle.history.proofs.Tidy.{gen_of, Tidy, Since, births_issues, step_grows, run_grows, reached_tidy, one_mailbox}
use Rattle.history.proofs.Reach.{reaches}

pub one_channel : OneMailbox
one_channel w r = one_mailbox r

-- ---- the creation
-- where it put the channel, and the ids by their ends
pub record Placed (w : World) (b : Bool) (ids : Channel) : Type 0 where
  pub box : ℕ
  pub send : ℕ
  pub recv : ℕ
  pub births : Births w b box send recv (step w (create b))
  pub send_id : ids.send ≡ id_of send w.table.counters.next_gen
  pub recv_id : ids.recv ≡ id_of recv w.table.counters.next_gen

pub placed : (w : World) (b : Bool) (n : ℕ) (ids : Channel) → Sound w.table → Makes w b n ids → Placed w b ids
unfolding answer
placed w b n ids σ m = by (create_ways w.table b σ)
  where
    by : CreateWays w.table b (create_of w.table b) → Placed w b ids
    by (no_mailbox _ q) = let e = m.answers in let z : ◌≡◌ {A = ℕ} 0 1 = cc in absurd (omega arith)
    by (no_endpoint _ _ _ q) = let e = m.answers in let z : ◌≡◌ {A = ℕ} 0 1 = cc in absurd (omega arith)
    by (created k s r x) =
        let e = m.answers in
        let a = x.answer in
        record { box = k; send = s; recv = r; births = create_births w b k s r x; send_id = cc; recv_id = cc }

-- ---- what is known of an id once it is issued
-- it has its channel's generation, and what opens at its endpoint is its channel or a later one
pub record Issued (n : ℕ) (c : CapId) (v : World) : Type 0 where
  pub tidy : Tidy v
  pub first : 1 ≤ n
  pub past : n ≤ v.made
  pub generation : generation_of c ≡ gen_of n
  pub since : Since n (index_of c) v

module _ (w : World) (b : Bool) (n : ℕ) (ids : Channel) (τ : Tidy w) (m : Makes w b n ids) (p : Placed w b ids) where
  abbrev g : ℕ
  g = w.table.counters.next_gen

  issued_at : (i : ℕ) (c : CapId) → i < 65536 → (i ≡ p.send) ⊎ (i ≡ p.recv) → c ≡ id_of i g → Issued n c (step w (create b))
  issued_at i c l at e =
      let h = p.births.made in
      let y = m.number in
      record {
        tidy = (step_grows w (create b) τ).tidy;
        first = omega arith;
        past = omega arith;
        generation = ap generation_of e ∙ generation_of_id i g l ∙ τ.next ∙ ap gen_of (sym m.number);
        since = rw (e, index_of_id i g l, m.number) (births_issues w (step w (create b)) b p.box p.send p.recv τ p.births i at);
      }

  issued_by : (c : CapId) → IdOf ids c → Issued n c (step w (create b))
  issued_by c is =
      let f = p.births.makes.took in
      let z = τ.sound.sizes in
      ⊎_elim (λ e. issued_at p.send c (omega arith) (inl refl) (e ∙ p.send_id)) (λ e. issued_at p.recv c (omega arith) (inr refl) (e ∙ p.recv_id)) is

  opens_now : OpensNow (step w (create b)) n ids
  opens_now =
      let β = p.births in
      let o = β.makes.openings in
      let f = β.makes.took in
      record {
        box = p.box;
        lives = record { live = rw β.table β.makes.live; tenant = β.tenant ∙ sym m.number };
        both = record { sends = rw (β.table, p.send_id) o.sends; receives = rw (β.table, p.recv_id) o.receives };
        sends_only = rw (β.table, p.send_id) o.sends_only;
        receives_only = rw (β.table, p.recv_id) o.receives_only;
        differ = λ e. let z : p.send + 65536 * g ≡ p.recv + 65536 * g = ap (λ (c : CapId). c.raw) (sym p.send_id ∙ e ∙ p.recv_id) in omega arith;
      }

pub issued : (w : World) (b : Bool) (n : ℕ) (ids : Channel) (c : CapId) → Reached w → Makes w b n ids → IdOf ids c → Issued n c (step w (create b))
issued w b n ids c reached m = let τ = reached_tidy reached in issued_by w b n ids τ m (placed w b n ids τ.sound m) c

-- and so after any calls
pub issued_on : (n : ℕ) (c : CapId) (v : World) (later : List Call) → Issued n c v → Issued n c (run v later)
issued_on n c v later i =
    let u = run_grows v later i.tidy in
    let h = u.more in
    let y = i.past in
    record { tidy = u.tidy; first = i.first; past = omega arith; generation = i.generation; since = u.since n (index_of c) i.past i.since }

-- ---- fewer than 65,535 later creations: no other channel has this generation
once : (n x : ℕ) → 1 ≤ n → n ≤ x → x < n + 65535 → gen_of x ≡ gen_of n → x ≡ n
once n x some up few e = omega arith

module _ (n : ℕ) (c : CapId) (v : World) (i : Issued n c v) (few : v.made < n + 65535) where
  abbrev σ : Sound v.table
  σ = i.tidy.sound

  lives_by : (need : CapRights) (k : ℕ) → opening_of v.table c need ≡ Opens k → LivesIn v n k
  lives_by need k e =
      let l = opens_live v.table c need k σ e in
      let up = i.tidy.last k l in
      record { live = l; tenant = once n (v.tenant k) i.first (i.since c need k refl e) (omega arith) (sym (i.tidy.generation c need k e) ∙ i.generation) }

  lives_either : (k : ℕ) → either_of v.table c ≡ Opens k → LivesIn v n k
  lives_either k e = ⊎_elim (lives_by send_right k) (lives_by receive_right k) (either_cases v.table c k e)

  pub opens_only : OpensOnly v n c
  opens_only =
      record {
        by = lives_by;
        either = lives_either;
        any = λ k e. lives_either k (sym (any_is v.table c σ) ∙ e);
        hold = λ x h k e. lives_by send_right k (rw (← h) (hold_opens v.table x k e).1);
      }

-- ---- the demand
pub ids_keep : IdsKeep
ids_keep w reached b n ids m later few c is =
    let i = issued_on n c (step w (create b)) later (issued w b n ids c reached m is) in
    let o = opens_only n c _ i few in
    (o, reaches _ n c i.tidy.sound o)

pub ids_open : IdsOpen
ids_open w reached b n ids m = let τ = reached_tidy reached in opens_now w b n ids τ m (placed w b n ids τ.sound m)
