-- Calls on the channel table alone keep it: a creation, a revocation, and the calls that open and end no channel. Assumes nothing.
use mathlib.Core.Path.{◌≡◌, refl, sym, ap, ◌∙◌}
use mathlib.Core.Bool.{Bool, true}
use mathlib.Core.List.{List, ◌∷◌}
use mathlib.Core.Logic.{◌⊎◌, inl, inr, ⊎_elim}
use Prim.Native.Nat.{ℕ, suc, ◌≤◌, ◌<◌}
use native.Mathlib.Omega.{arith}
use borrow.Author.Tests.{ne_eqb}
use lib.ListN.{length}
use Rattle.laws.specs.Pick.{pick}
use Rattle.laws.proofs.Bools.{same?}
use Rattle.laws.proofs.Cases.{not_both}
use Rattle.cap.specs.Id.{id_of, index_of, generation_of, bit, class_of}
use Rattle.cap.specs.Rights.{send_right}
use Rattle.cap.specs.Slot.{holding}
use Rattle.cap.specs.declared.CapId.{CapId}
use Rattle.cap.specs.declared.slot.Slot.{Slot}
use Rattle.cap.proofs.Ids.{generation_of_id}
use Rattle.cap.proofs.Rights.{receive_lacks_send}
use Rattle.capslots.specs.Table.{slot_in}
use Rattle.capslots.specs.Transfer.{is_endpoint}
use Rattle.capslots.specs.declared.Table.{Table as Rows}
use Rattle.mint.specs.Generation.{next_generation}
use Rattle.ipc_rules.specs.State.{mailbox_live}
use Rattle.ipc_rules.specs.Sound.{Sound}
use Rattle.ipc_rules.specs.Opening.{opening_of, hold_of}
use Rattle.ipc_rules.specs.Create.{create_of}
use Rattle.ipc_rules.specs.Revoke.{revoke_of}
use Rattle.ipc_rules.specs.Views.{hold_count, held_by}
use Rattle.ipc_rules.specs.declared.opening.Opening.{Opening}
use Rattle.ipc_rules.specs.declared.opening.Opening.TheVariants.{Opens, Shut}
use Rattle.ipc_rules.specs.declared.state.Channel.{Channel}
use Rattle.ipc_rules.specs.declared.state.Table.{Table as Channels}
use Rattle.ipc_rules.proofs.AfterCreate.{Creates, CreateWays, no_mailbox, no_endpoint, created, create_ways}
use Rattle.ipc_rules.proofs.AfterRevoke.{RevokeWays, bad_cap, revoked, revoke_ways}
use Rattle.ipc_rules.proofs.AfterCounts.{authority_only}
use Rattle.ipc_rules.proofs.Held.{held_none, held_other}
use Rattle.ipc_rules.proofs.KeepsCreate.{create_kept}
use Rattle.ipc_rules.proofs.KeepsRevoke.{revoke_kept}
use Rattle.ipc_rules.proofs.Openings.{hold_opens}
use Rattle.ipc_rules.proofs.OtherOpenings.{hold_is}
use Rattle.isolation.proofs.Ended.{shut_stays}
use Rattle.isolation.proofs.Still.{Still, stays_alike}
use Rattle.tally.specs.Count.{over_slots}
use Rattle.tally.specs.Runs.{Among, as_send, as_recv, earlier, Made, last, before, if_created}
use Rattle.tally.proofs.Sums.{sum_agrees, sum_zero}
use Rattle.tally.proofs.Tallied.{sender_still, Tallied, held_iff, held_still, same_slots}

-- ---- nothing opened, nothing ended
module _ {t : Channels} {rows : Rows} {l : List Channel} (x : Tallied t rows l) (u : Channels) (σ : Sound u) where
  pub kept_still : Still t u → Tallied u rows l
  kept_still y =
      record {
        sound = σ;
        shape = x.shape;
        holds = λ k v.
            (y.boxes k).holds ∙ x.holds k (sym (y.boxes k).live ∙ v)
            ∙ sym (same_slots t u rows x.shape k (λ r s _ _. held_still t u y.steady k (slot_in rows r s)));
        sender = λ k v. sender_still u y.steady (x.sender k (sym (y.boxes k).live ∙ v));
        origin = x.origin;
        generations = x.generations;
        next = λ b. y.steady.next ∙ x.next b;
        shut = λ ids m. y.steady.opening _ _ ∙ x.shut ids m;
      }

-- a slot that holds a send end is present, and its id opens
slot_opens : (t : Channels) (x : Slot) (k : ℕ) → hold_of t x ≡ Opens k → (x ≡ holding x.id) × (opening_of t x.id send_right ≡ Opens k)
slot_opens t x k e = let p = hold_opens t x k e in (present x p.0, p.1)
  where
    present : (y : Slot) → y.present ≡ true → y ≡ holding y.id
    present y e = rw (← e)

opens_slot : (t : Channels) (x : Slot) (k : ℕ) → x ≡ holding x.id → opening_of t x.id send_right ≡ Opens k → hold_of t x ≡ Opens k
unfolding pick
opens_slot t x k p e = hold_is t x ∙ rw (ap (λ (y : Slot). y.present) p) e

-- ---- a creation
among_recv : {ids : Channel} {l : List Channel} → Made ids l → Among ids.recv l
among_recv last = as_recv refl
among_recv (before m) = earlier (among_recv m)

never_opens : {A : Type 0} {k : ℕ} → Shut ≡ Opens k → A
never_opens e = let z : ◌≡◌ {A = ℕ} 0 1 = cc in absurd (omega arith)

-- below the last a generation goes up by one
next_up : (n : ℕ) → n < 65535 → next_generation n ≡ suc n
unfolding next_generation pick
next_up n l = rw (ne_eqb n 65535 (λ e. omega arith)) (omega arith)

-- an id of a low index is an endpoint's
low_class : (i g : ℕ) → i < 64 → is_endpoint (class_of (id_of i g)) ≡ true
unfolding class_of pick
low_class i g l =
    rw (ne_eqb (bit 15 (index_of (id_of i g))) 1 (λ h. omega arith), ne_eqb (bit 14 (index_of (id_of i g))) 1 (λ h. omega arith))

module _ (t : Channels) (rows : Rows) (l : List Channel) (x : Tallied t rows l) (ephemeral : Bool) (k i j : ℕ)
    (y : Creates t ephemeral k i j (create_of t ephemeral)) (room : length l < 65535) where
  abbrev g : ℕ
  g = t.counters.next_gen

  abbrev u : Channels
  u = (create_of t ephemeral).table

  abbrev ids : Channel
  ids = record { send = id_of i g; recv = id_of j g }

  next_is : g ≡ suc (length l)
  next_is = x.next room

  small : (i < 64) × (j < 64)
  small = let z = x.sound.sizes in let a = y.took.above in let b = y.took.recv in ((omega arith), (omega arith))

  -- no id of before is new
  not_new : (c : CapId) → Among c l → (a : ℕ) → a < 64 → c ≡ id_of a g → ⊥
  not_new c m a b e =
      let n = x.generations c m in
      let o = generation_of_id a g (omega arith) in
      let q : generation_of c ≡ g = ap (λ (d : CapId). generation_of d) e ∙ o in
      omega (arith, next_is)

  not_in_slot : (r s a : ℕ) (c : CapId) → slot_in rows r s ≡ holding c → a < 64 → c ≡ id_of a g → ⊥
  not_in_slot r s a c h b e = not_new c (x.origin r s c h (rw e (low_class a g b))) a b e

  -- what opens for send opened before, or is the new send id
  opened_or_new : (c : CapId) (q : ℕ) → opening_of u c send_right ≡ Opens q → (opening_of t c send_right ≡ Opens q) ⊎ ((q ≡ k) × (c ≡ id_of i g))
  opened_or_new c q e = ⊎_elim inl (λ n. inr (n.0, ⊎_elim (λ a. a.0) (λ a. absurd (not_both _ a.1 receive_lacks_send)) n.1.is)) (y.openings.only c send_right q e)

  -- no slot holds the new channel's send end
  none_new : (r s : ℕ) → held_by u k (slot_in rows r s) ≡ 0
  none_new r s = by (hold_of u (slot_in rows r s)) refl
    where
      by : (o : Opening) → hold_of u (slot_in rows r s) ≡ o → held_by u k (slot_in rows r s) ≡ 0
      by Shut e = held_none u k (slot_in rows r s) e
      by (Opens q) e =
          ⊎_elim
          (λ n. let p = slot_opens u (slot_in rows r s) q e in
          absurd (⊎_elim (λ a. y.unopened (slot_in rows r s).id send_right (a ∙ ap Opens (sym n))) (λ a. not_in_slot r s i (slot_in rows r s).id p.0 small.0 a.1)
          (opened_or_new (slot_in rows r s).id q p.1)))
          (λ n. held_other u k (slot_in rows r s) q e n) (same? k q)

  -- and of another channel each holds what it held
  same_other : (q : ℕ) → (q ≡ k → ⊥) → (r s : ℕ) → held_by u q (slot_in rows r s) ≡ held_by t q (slot_in rows r s)
  same_other q n r s =
      held_iff t u q (slot_in rows r s)
      (λ e. let p = slot_opens t (slot_in rows r s) q e in opens_slot u (slot_in rows r s) q p.0 (y.openings.still _ _ q p.1))
      (λ e. let p = slot_opens u (slot_in rows r s) q e in
      ⊎_elim (λ a. opens_slot t (slot_in rows r s) q p.0 a) (λ a. absurd (n a.0)) (opened_or_new (slot_in rows r s).id q p.1))

  all_hold : (q : ℕ) → mailbox_live u q ≡ true → hold_count u q ≡ over_slots (held_by u q) rows
  all_hold q v =
      ⊎_elim (λ e. rw e (y.holds ∙ sym (sum_agrees (held_by u k) rows x.shape (λ _. 0) (λ r s _ _. none_new r s) ∙ sum_zero rows)))
      (λ n. (y.others q n).holds ∙ x.holds q (sym (y.others q n).live ∙ v) ∙ sym (same_slots t u rows x.shape q (λ r s _ _. same_other q n r s))) (same? q k)

  still_shut : (c : CapId) → Among c l → opening_of t c send_right ≡ Shut → opening_of u c send_right ≡ Shut
  still_shut c m e = by (opening_of u c send_right) refl
    where
      by : (o : Opening) → opening_of u c send_right ≡ o → o ≡ Shut
      by Shut h = refl
      by (Opens q) h = ⊎_elim (λ a. never_opens (sym e ∙ a)) (λ a. absurd (not_new c m i small.0 a.1)) (opened_or_new c q h)

  all_shut : (d : Channel) → Made d (ids ∷ l) → opening_of u d.recv send_right ≡ Shut
  all_shut d last = y.openings.receives_only
  all_shut d (before m) = still_shut d.recv (among_recv m) (x.shut d m)

  all_generations : (c : CapId) → Among c (ids ∷ l) → generation_of c ≤ length (ids ∷ l)
  all_generations c (as_send e) = let o = ap (λ (d : CapId). generation_of d) e ∙ generation_of_id i g (let a = small.0 in omega arith) in omega (arith, next_is)
  all_generations c (as_recv e) = let o = ap (λ (d : CapId). generation_of d) e ∙ generation_of_id j g (let a = small.1 in omega arith) in omega (arith, next_is)
  all_generations c (earlier m) = let n = x.generations c m in omega arith

  kept_created : Tallied u rows (ids ∷ l)
  kept_created =
      record {
        sound = create_kept t ephemeral x.sound;
        shape = x.shape;
        holds = all_hold;
        sender = λ q v. ⊎_elim (λ e. rw e (record { ids = ids; made = last; opens = y.openings.sends }))
            (λ n. let z = x.sender q (sym (y.others q n).live ∙ v) in record { ids = z.ids; made = before z.made; opens = y.openings.still _ _ q z.opens }) (same? q k);
        origin = λ r s c h e. earlier (x.origin r s c h e);
        generations = all_generations;
        next = λ b. y.next ∙ next_up g (omega (arith, next_is)) ∙ ap suc next_is;
        shut = all_shut;
      }

pub create_keeps : (t : Channels) (rows : Rows) (l : List Channel) → Tallied t rows l → (ephemeral : Bool) →
    length (if_created (create_of t ephemeral).answer l) ≤ 65535 → Tallied (create_of t ephemeral).table rows (if_created (create_of t ephemeral).answer l)
unfolding if_created
create_keeps t rows l x ephemeral b = by (create_ways t ephemeral x.sound) b
  where
    by : CreateWays t ephemeral (create_of t ephemeral) → length (if_created (create_of t ephemeral).answer l) ≤ 65535 →
        Tallied (create_of t ephemeral).table rows (if_created (create_of t ephemeral).answer l)
    by (no_mailbox _ q) b = rw q x
    by (no_endpoint _ _ _ q) b = rw q x
    by (created k i j y) b = let a = y.answer in rw a (kept_created t rows l x ephemeral k i j y (let c = rw a at b in omega arith))

-- ---- a revocation
pub revoke_keeps : (t : Channels) (rows : Rows) (l : List Channel) → Tallied t rows l → (c : CapId) → Tallied (revoke_of t c).table rows l
revoke_keeps t rows l x c = by (revoke_ways t c x.sound)
  where
    by : RevokeWays t c (revoke_of t c) → Tallied (revoke_of t c).table rows l
    by (bad_cap _ q) =
        let o = authority_only t in
        kept_still x (revoke_of t c).table (revoke_kept t c x.sound) (rw q (record { steady = o.steady; boxes = λ k. stays_alike (o.mailboxes k) }))
    by (revoked k _ _ _ r) =
        record {
          sound = revoke_kept t c x.sound;
          shape = x.shape;
          holds = λ q v. let n : q ≡ k → ⊥ = λ e. not_both _ v (rw e r.live) in
              (r.others q n).holds ∙ x.holds q (sym (r.others q n).live ∙ v)
              ∙ sym (same_slots t (revoke_of t c).table rows x.shape q (λ a s _ _. held_iff t (revoke_of t c).table q (slot_in rows a s)
              (λ e. let p = slot_opens t (slot_in rows a s) q e in opens_slot (revoke_of t c).table (slot_in rows a s) q p.0 (r.still _ _ q n p.1))
              (λ e. let p = slot_opens (revoke_of t c).table (slot_in rows a s) q e in opens_slot t (slot_in rows a s) q p.0 (r.only _ _ q p.1))));
          sender = λ q v. let n : q ≡ k → ⊥ = λ e. not_both _ v (rw e r.live) in
              let z = x.sender q (sym (r.others q n).live ∙ v) in record { ids = z.ids; made = z.made; opens = r.still _ _ q n z.opens };
          origin = x.origin;
          generations = x.generations;
          next = λ b. r.next ∙ x.next b;
          shut = λ ids m. shut_stays t (revoke_of t c).table k r ids.recv send_right (x.shut ids m);
        }
