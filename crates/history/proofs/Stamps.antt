-- A message, and with it a stamp, is made by an accepted send and by no other call: `only_sends`; so what is given was sent: `each_was_sent`.
-- Assumes nothing.
use Rattle.std.specs.Prelude.{Err, Ok, Result}
use mathlib.Core.Path.{◌≡◌, refl, sym, ap, subst, ◌∙◌}
use mathlib.Core.Bool.{Bool, true, false}
use mathlib.Core.List.Memᴰ
use mathlib.Core.List.{List, [], ◌∷◌, ◌++◌, append-nil, Memᴰ}
use mathlib.Core.Logic.{◌⊎◌, inl, inr, ⊎_elim}
use Prim.Native.Nat.{ℕ, suc, ◌≤◌, ◌<◌}
use native.Mathlib.Omega.{arith}
use lib.ListN.{length}
use Rattle.laws.specs.Pick.{pick}
use Rattle.laws.proofs.Bools.{either, below?}
use Rattle.laws.proofs.Cases.{not_both}
use Rattle.cap.specs.Rights.{receive_right}
use Rattle.cap.specs.declared.CapId.{CapId}
use Rattle.ipc_rules.specs.Sound.{Sound}
use Rattle.ipc_rules.specs.Opening.{opening_of}
use Rattle.ipc_rules.specs.Views.{queue_of}
use Rattle.ipc_rules.specs.declared.state.Mailbox.{Mailbox}
use Rattle.ipc_rules.specs.declared.state.Message.{Message}
use Rattle.ipc_rules.specs.declared.state.Waiter.{Waiter}
use Rattle.ipc_rules.specs.declared.answers.SendError.TheVariants.{BadRow, BadCap, Full, BadTable}
use Rattle.ipc_rules.proofs.Openings.{opens_live}
use Rattle.ipc_rules.proofs.AfterNew.{fresh_box}
use Rattle.ipc_rules.proofs.AfterSend.{sent_room}
use Rattle.history.specs.Calls.{Call, create, send, receive, park, queued, revoke, register, release, holders, clear, note_authority, note_state, counts}
use Rattle.history.specs.World.{World, step, run, start, Reached, fresh, then}
use Rattle.history.specs.Channels.{LivesIn, on}
use Rattle.history.specs.Traffic.{if_sent, accepted, given, revokes}
use Rattle.history.specs.Stamps.{Stamps, by_send, OnlySends, EachWasSent}
use Rattle.history.proofs.Kept.{reached_run}
use Rattle.history.proofs.Steps.{StepWays, settles, births, step_ways}
use Rattle.history.proofs.Tidy.{Tidy, step_grows, reached_tidy}
use Rattle.history.proofs.Lives.{step_lived}
use Rattle.history.proofs.Leading.{leads_to}
use Rattle.history.proofs.Turns.{turn}
use Rattle.history.proofs.Givings.{only_gives}
use Rattle.history.proofs.Gone.{revoked_gone}
use Rattle.ipc_rules.specs.declared.answers.SendError.{SendError}

-- ---- what a call has accepted
-- x, where the answer was Sent
pub record Put (b : Bool) (a : Result Waiter SendError) (x m : Message) : Type 0 where
  pub waiter : Waiter
  pub answers : a ≡ Ok waiter
  pub all : pick b (if_sent a x) [] ≡ x ∷ []
  pub is : m ≡ x

pub put : (b : Bool) (a : Result Waiter SendError) (x m : Message) → Memᴰ m (pick b (if_sent a x) []) → Put b a x m
unfolding pick if_sent
put false a x m i = absurd (Memᴰ.not-nil i)
put true (Ok w) x m i = record { waiter = w; answers = refl; all = refl; is = Memᴰ.eq_of_singleton i }
put true (Err BadRow) x m i = absurd (Memᴰ.not-nil i)
put true (Err BadCap) x m i = absurd (Memᴰ.not-nil i)
put true (Err Full) x m i = absurd (Memᴰ.not-nil i)
put true (Err BadTable) x m i = absurd (Memᴰ.not-nil i)

stamps : (w : World) → Sound w.table → (n : ℕ) (m : Message) (c : Call) → Memᴰ m (accepted w n c) → Stamps w n m c
unfolding accepted
stamps w σ n m (create b) i = absurd (Memᴰ.not-nil i)
stamps w σ n m (send c p row) i = let y = put _ _ _ m i in by_send (sent_room w.table c p row σ y.waiter y.answers).0 y.all y.is
stamps w σ n m (receive c) i = absurd (Memᴰ.not-nil i)
stamps w σ n m (park c task) i = absurd (Memᴰ.not-nil i)
stamps w σ n m (queued c) i = absurd (Memᴰ.not-nil i)
stamps w σ n m (revoke c) i = absurd (Memᴰ.not-nil i)
stamps w σ n m (register words) i = absurd (Memᴰ.not-nil i)
stamps w σ n m (release _ _ _ _) i = absurd (Memᴰ.not-nil i)
stamps w σ n m (holders c) i = absurd (Memᴰ.not-nil i)
stamps w σ n m (clear task) i = absurd (Memᴰ.not-nil i)
stamps w σ n m note_authority i = absurd (Memᴰ.not-nil i)
stamps w σ n m note_state i = absurd (Memᴰ.not-nil i)
stamps w σ n m counts i = absurd (Memᴰ.not-nil i)

-- ---- by call
module _ (w : World) (r : Reached w) (c : Call) (n k : ℕ) (l : LivesIn (step w c) n k) where
  abbrev τ : Tidy w
  τ = reached_tidy r

  -- a channel that the call has made is empty
  new_empty : w.made < n → queue_of (step w c).table k ≡ []
  new_empty up = by (step_ways w c τ.sound)
    where
      σ : Tidy (step w c)
      σ = (step_grows w c τ).tidy

      few : n ≤ (step w c).made
      few = let p = σ.last k l.live in let e = l.tenant in omega arith

      by : StepWays w c (step w c) → queue_of (step w c).table k ≡ []
      by (settles _ q) = let e : (step w c).made ≡ w.made = ap (λ (v : World). v.made) q in let f = few in absurd (omega arith)
      by (births _ j _ _ _ β) =
          let f = few in
          let p = β.made in
          let last : n ≡ suc w.made = omega arith in
          let same : k ≡ j = σ.single k j l.live (rw β.table β.makes.live) (l.tenant ∙ last ∙ sym β.tenant) in
          rw (same, β.table) β.makes.queue

  module _ (m : Message) (i : Memᴰ m (queue_of (step w c).table k)) where
    -- one that lived before has what waited, and what the call put in
    waited : n ≤ w.made → (LivesIn w n k × Memᴰ m (queue_of w.table k)) ⊎ Stamps w n m c
    waited past =
        ⊎_elim (λ e. absurd ((revoked_gone w n τ c e).gone k l))
        (λ e.
        let h = (step_lived w c n k τ past l).lives in
        let o = (turn w τ n k h c e).order in
        ⊎_elim (λ j. inl (h, j)) (λ j. inr (stamps w τ.sound n m c j)) (Memᴰ.append_cases (queue_of w.table k) (subst (Memᴰ m) o (Memᴰ.append_right (given w n c) i))))
        (either (revokes w n c))

pub only_sends : OnlySends
only_sends w r c n k l m i = ⊎_elim (λ up. absurd (Memᴰ.not-nil (subst (Memᴰ m) (new_empty w r c n k l up) i))) (waited w r c n k l m i) (below? w.made n)

-- ---- over runs
-- among the calls cs from w
record SentIn (w : World) (cs : List Call) (n : ℕ) (m : Message) : Type 0 where
  earlier : List Call
  call : Call
  later : List Call
  split : cs ≡ earlier ++ (call ∷ later)
  makes : Stamps (run w earlier) n m call

-- what waits after calls waited before them, or one of them made it
was_sent : (w : World) → Reached w → (cs : List Call) (n k : ℕ) → LivesIn (run w cs) n k → (m : Message) → Memᴰ m (queue_of (run w cs).table k) →
    (LivesIn w n k × Memᴰ m (queue_of w.table k)) ⊎ SentIn w cs n m
unfolding run
was_sent w r [] n k l m i = inl (l, i)
was_sent w r (c ∷ cs) n k l m i =
    ⊎_elim
    (λ x. ⊎_elim inl (λ s. inr (record { earlier = []; call = c; later = cs; split = refl; makes = s })) (only_sends w r c n k x.0 m x.1))
    (λ s. inr (record { earlier = c ∷ s.earlier; call = s.call; later = s.later; split = ap (λ (l : List Call). c ∷ l) s.split; makes = s.makes }))
    (was_sent (step w c) (then r c) cs n k l m i)

-- a call that gives a message of channel n has the mailbox where n lives
module _ (w : World) (τ : Tidy w) (n : ℕ) where
  record Home : Type 0 where
    box : ℕ
    lives : LivesIn w n box

  nothing : {A : Type 0} {m : Message} → [] ≡ m ∷ [] → A
  nothing e = let l : ◌≡◌ {A = ℕ} 0 1 = ap length e in absurd (omega arith)

  opened : (c : CapId) → on w n c receive_right ≡ true → Home
  opened c e =
      let a = leads_to w n (opening_of w.table c receive_right) e in
      record { box = a.box; lives = record { live = opens_live w.table c receive_right a.box τ.sound a.opens; tenant = a.tenant } }

  by_id : (c : CapId) (out : List Message) (m : Message) → pick (on w n c receive_right) out [] ≡ m ∷ [] → Home
  unfolding pick
  by_id c out m g = ⊎_elim (opened c) (λ e. nothing (rw e at g)) (either (on w n c receive_right))

  home : (m : Message) (d : Call) → given w n d ≡ m ∷ [] → Home
  unfolding given
  home m (create b) g = nothing g
  home m (send c p row) g = nothing g
  home m (receive c) g = by_id c _ m g
  home m (park c task) g = by_id c _ m g
  home m (queued c) g = nothing g
  home m (revoke c) g = nothing g
  home m (register words) g = nothing g
  home m (release _ _ _ _) g = nothing g
  home m (holders c) g = nothing g
  home m (clear task) g = nothing g
  home m note_authority g = nothing g
  home m note_state g = nothing g
  home m counts g = nothing g

pub each_was_sent : EachWasSent
each_was_sent z e cs n d m g =
    let r = fresh z e in
    let w = run (start z) cs in
    let τ = reached_tidy (reached_run r cs) in
    let h = home w τ n m d g in
    let k = h.box in
    let f = only_gives w n m d g in
    let first : m ∷ queue_of (step w d).table k ≡ queue_of w.table k =
    ap (λ (l : List Message). l ++ queue_of (step w d).table k) (sym g) ∙ (turn w τ n k h.lives d f.spares).order
    ∙ ap (λ (l : List Message). queue_of w.table k ++ l) f.accepts_none ∙ append-nil _ in
    ⊎_elim
    (λ x. absurd (not_both _ x.0.live (ap (λ (b : Mailbox). b.live) (fresh_box z k))))
    (λ s. record { earlier = s.earlier; call = s.call; later = s.later; split = s.split; makes = s.makes })
    (was_sent (start z) r cs n k h.lives m (subst (Memᴰ m) first (Memᴰ.head refl)))
