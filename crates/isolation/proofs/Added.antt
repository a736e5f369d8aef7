-- The channel table after an opening: a channel more with one hold on it, and every other as it was. Assumes nothing.
use Rattle.std.specs.Prelude.{Ok}
use mathlib.Core.Path.{◌≡◌, sym, ap, ◌∙◌}
use mathlib.Core.Bool.{true}
use mathlib.Core.List.{[]}
use Prim.Native.Nat.{ℕ}
use native.Mathlib.Omega.{arith}
use Rattle.laws.specs.Pick.{pick}
use Rattle.cap.specs.Id.{id_of}
use Rattle.cap.specs.Rights.{send_right}
use Rattle.cap.specs.Slot.{holding}
use Rattle.cap.specs.declared.CapId.{CapId}
use Rattle.cap.specs.declared.CapRights.{CapRights}
use Rattle.cap.proofs.Ids.{index_of_id}
use Rattle.ipc_rules.specs.Sound.{Sound}
use Rattle.ipc_rules.specs.Opening.{opening_of, hold_of}
use Rattle.ipc_rules.specs.Create.{create_of}
use Rattle.ipc_rules.specs.Counts.{raised}
use Rattle.ipc_rules.specs.Holds.{registered}
use Rattle.ipc_rules.specs.Views.{queue_of, hold_count, Alike}
use Rattle.ipc_rules.specs.declared.opening.Opening.TheVariants.{Opens, Shut}
use Rattle.ipc_rules.specs.declared.state.Channel.{Channel}
use Rattle.ipc_rules.specs.declared.state.Table.{Table as Channels}
use Rattle.ipc_rules.proofs.AfterCreate.{Creates, CreateWays, no_mailbox, no_endpoint, created, create_ways}
use Rattle.ipc_rules.proofs.AfterRegister.{Registers, RegisterWays, skipped, counted, register_ways}
use Rattle.ipc_rules.proofs.Changes.{alike_then}
use Rattle.ipc_rules.proofs.KeepsCalls.{registered_kept}
use Rattle.ipc_rules.proofs.KeepsCreate.{create_kept}
use Rattle.ipc_rules.proofs.OtherOpenings.{hold_is}
use Rattle.isolation.specs.Own.{Channelled}
use Rattle.isolation.proofs.Ids.{never_opens}

-- u is t with a channel more, in mailbox k, with these ids and one hold
pub record Adds (t : Channels) (ends : Channel) (k : ℕ) (u : Channels) : Type 0 where
  pub channel : Channelled u ends k
  pub holds : hold_count u k ≡ 1
  pub queue : queue_of u k ≡ []
  pub differ : ends.send ≡ ends.recv → ⊥
  -- before, its ids opened nothing and nothing opened its mailbox
  pub no_send : (need : CapRights) → opening_of t ends.send need ≡ Shut
  pub no_recv : (need : CapRights) → opening_of t ends.recv need ≡ Shut
  pub unopened : (c : CapId) (need : CapRights) → opening_of t c need ≡ Opens k → ⊥
  -- an id that opened something opens by each right what it opened
  pub same : (c : CapId) (some : CapRights) (j : ℕ) → opening_of t c some ≡ Opens j → (need : CapRights) → opening_of u c need ≡ opening_of t c need
  pub others : (j : ℕ) → (j ≡ k → ⊥) → Alike t u j

-- a channel created, and its two ids registered, as a give does
abbrev pub channel_made : Channels → Channel → Channels
channel_made t ends = registered (registered (create_of t true).table (holding ends.send)) (holding ends.recv)

-- a hold in a slot is an opening for send
held_by : (t : Channels) (c : CapId) → hold_of t (holding c) ≡ opening_of t c send_right
unfolding pick
held_by t c = hold_is t (holding c)

module _ (t : Channels) (k : ℕ) (c : CapId) (s : Sound t) where
  -- a send id registered
  counts_one : opening_of t c send_right ≡ Opens k → Registers t k (registered t (holding c))
  counts_one o = by (register_ways t (holding c) s)
    where
      by : RegisterWays t (holding c) (registered t (holding c)) → Registers t k (registered t (holding c))
      by (skipped h _) = never_opens (sym h ∙ held_by t c ∙ o)
      by (counted j h r) = let q = sym h ∙ held_by t c ∙ o in let e : j ≡ k = cc in rw (← e) r

  -- an id that does not open for send
  counts_none : opening_of t c send_right ≡ Shut → registered t (holding c) ≡ t
  counts_none o = by (register_ways t (holding c) s)
    where
      by : RegisterWays t (holding c) (registered t (holding c)) → registered t (holding c) ≡ t
      by (skipped _ e) = e
      by (counted j h _) = never_opens (sym (held_by t c ∙ o) ∙ h)

module _ (t : Channels) (k i j : ℕ) (σ : Sound t) (x : Creates t true k i j (create_of t true)) where
  abbrev g : ℕ
  g = t.counters.next_gen

  abbrev ends : Channel
  ends = record { send = id_of i g; recv = id_of j g }

  abbrev made : Channels
  made = (create_of t true).table

  abbrev held : Channels
  held = registered made (holding (id_of i g))

  one_hold : Registers made k held
  one_hold = counts_one made k (id_of i g) (create_kept t true σ) x.openings.sends

  same_opening : (c : CapId) (need : CapRights) → opening_of held c need ≡ opening_of made c need
  same_opening = one_hold.rest.steady.opening

  no_more : registered held (holding (id_of j g)) ≡ held
  no_more =
      counts_none held k (id_of j g) (registered_kept made (holding (id_of i g)) (create_kept t true σ))
      (same_opening (id_of j g) send_right ∙ x.openings.receives_only)

  one : hold_count held k ≡ 1
  unfolding raised pick
  one = one_hold.holds ∙ ap raised x.holds

  adds : Adds t ends k held
  adds =
      let n = x.openings in
      let z = σ.sizes in
      let b = x.took.above in
      let l = x.took.recv in
      record {
        channel = record {
          live = one_hold.live ∙ x.live;
          kind = one_hold.ephemeral ∙ x.kind;
          sends = same_opening _ _ ∙ n.sends;
          sends_only = same_opening _ _ ∙ n.sends_only;
          receives = same_opening _ _ ∙ n.receives;
          receives_only = same_opening _ _ ∙ n.receives_only;
        };
        holds = one;
        queue = one_hold.queue ∙ x.queue;
        differ = λ e. never_opens (sym n.receives_only ∙ ap (λ (c : CapId). opening_of made c send_right) (sym e) ∙ n.sends);
        no_send = λ need. n.before_send (id_of i g) need (index_of_id i g (omega arith));
        no_recv = λ need. n.before_recv (id_of j g) need (index_of_id j g (omega arith));
        unopened = x.unopened;
        same = λ c some q e need.
            same_opening c need ∙ n.elsewhere c need (λ h. never_opens (sym (n.before_send c some h) ∙ e)) (λ h. never_opens (sym (n.before_recv c some h) ∙ e));
        others = λ q ne. alike_then (x.others q ne) (one_hold.rest.others q ne);
      }

-- what an opening's creation and its two registers come to
pub record Added (t : Channels) (ends : Channel) : Type 0 where
  pub box : ℕ
  pub is : Adds t ends box (channel_made t ends)

pub channel_added : (t : Channels) (ends : Channel) → Sound t → (create_of t true).answer ≡ Ok ends → Added t ends
channel_added t ends σ e = by (create_ways t true σ)
  where
    by : CreateWays t true (create_of t true) → Added t ends
    by (no_mailbox _ q) = let z : ◌≡◌ {A = ℕ} 0 1 = cc in absurd (omega arith)
    by (no_endpoint _ _ _ q) = let z : ◌≡◌ {A = ℕ} 0 1 = cc in absurd (omega arith)
    by (created k i j x) =
        let a = x.answer in
        let h : ends ≡ record { send = id_of i t.counters.next_gen; recv = id_of j t.counters.next_gen } = cc in
        record { box = k; is = rw (h, no_more t k i j σ x) (adds t k i j σ x) }
