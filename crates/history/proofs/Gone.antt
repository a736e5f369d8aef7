-- A revoked channel: nothing goes in and nothing comes out. Assumes nothing.
use mathlib.Core.Path.{◌≡◌, refl}
use mathlib.Core.Bool.{true, false}
use mathlib.Core.List.{List, [], ◌∷◌}
use mathlib.Core.Logic.{⊎_elim}
use Prim.Native.Nat.{ℕ, ◌≤◌}
use native.Mathlib.Omega.{arith}
use Rattle.laws.specs.Pick.{pick}
use Rattle.laws.proofs.Bools.{either}
use Rattle.laws.proofs.Cases.{not_both}
use Rattle.cap.specs.Rights.{send_right, receive_right}
use Rattle.cap.specs.declared.CapId.{CapId}
use Rattle.cap.specs.declared.CapRights.{CapRights}
use Rattle.ipc_rules.specs.Opening.{opening_of, any_right_of}
use Rattle.ipc_rules.proofs.Openings.{opens_live, any_within}
use Rattle.history.specs.Calls.{Call, create, send, receive, park, queued, revoke, register, release, holders, clear, note_authority, note_state, counts}
use Rattle.history.specs.World.{World, step}
use Rattle.history.specs.Channels.{on, on_any}
use Rattle.history.specs.Traffic.{accepted, given, revokes, all_accepted, all_given}
use Rattle.history.specs.Messages.{NothingMore}
use Rattle.history.proofs.Tidy.{Tidy, step_grows, reached_tidy}
use Rattle.history.proofs.Lives.{Gone, step_lived, revoke_gone}
use Rattle.history.proofs.Leading.{leads_to}

-- ---- nothing goes in or comes out
module _ (w : World) (n : ℕ) (τ : Tidy w) (gone : Gone w n) where
  not_on : (c : CapId) (need : CapRights) → on w n c need ≡ false
  not_on c need = ⊎_elim (λ e. absurd (led e)) (λ e. e) (either (on w n c need))
    where
      led : on w n c need ≡ true → ⊥
      led e = let a = leads_to w n (opening_of w.table c need) e in gone a.box (record { live = opens_live w.table c need a.box τ.sound a.opens; tenant = a.tenant })

  none_accepted : (c : Call) → accepted w n c ≡ []
  unfolding accepted pick
  none_accepted (create b) = refl
  none_accepted (send c p row) = rw (not_on c send_right)
  none_accepted (receive c) = refl
  none_accepted (park c task) = refl
  none_accepted (queued c) = refl
  none_accepted (revoke c) = refl
  none_accepted (register words) = refl
  none_accepted (release _ _ _ _) = refl
  none_accepted (holders c) = refl
  none_accepted (clear task) = refl
  none_accepted note_authority = refl
  none_accepted note_state = refl
  none_accepted counts = refl

  none_given : (c : Call) → given w n c ≡ []
  unfolding given pick
  none_given (create b) = refl
  none_given (send c p row) = refl
  none_given (receive c) = rw (not_on c receive_right)
  none_given (park c task) = rw (not_on c receive_right)
  none_given (queued c) = refl
  none_given (revoke c) = refl
  none_given (register words) = refl
  none_given (release _ _ _ _) = refl
  none_given (holders c) = refl
  none_given (clear task) = refl
  none_given note_authority = refl
  none_given note_state = refl
  none_given counts = refl

nothing_more_in : (w : World) (n : ℕ) (cs : List Call) → Tidy w → n ≤ w.made → Gone w n → (all_accepted w n cs ≡ []) × (all_given w n cs ≡ [])
unfolding all_accepted all_given
nothing_more_in w n [] τ past gone = (refl, refl)
nothing_more_in w n (c ∷ cs) τ past gone =
    let a = step_grows w c τ in
    let m = a.more in
    let r = nothing_more_in (step w c) n cs a.tidy (omega arith) (λ k x. gone k (step_lived w c n k τ past x).lives) in
    (rw (none_accepted w n τ gone c, r.0), rw (none_given w n τ gone c, r.1))

-- ---- a revocation
module _ (w : World) (n : ℕ) (τ : Tidy w) where
  -- v is a world in which channel n, made before, lives nowhere
  pub record Ends (v : World) : Type 0 where
    pub past : n ≤ w.made
    pub gone : Gone v n

  -- the mailbox that the id opens is the one where n lives
  ended : (c : CapId) → on_any w n c ≡ true → Ends (step w (revoke c))
  ended c e =
      let a = leads_to w n (any_right_of w.table c) e in
      let y = a.tenant in
      let p = τ.last a.box (any_within w.table c a.box τ.sound a.opens).live in
      record { past = omega arith; gone = revoke_gone w n a.box c τ a.opens y }

  no_revocation : {A : Type 0} → false ≡ true → A
  no_revocation e = absurd (not_both false e refl)

  pub revoked_gone : (c : Call) → revokes w n c ≡ true → Ends (step w c)
  unfolding revokes
  revoked_gone (create b) e = no_revocation e
  revoked_gone (send c p row) e = no_revocation e
  revoked_gone (receive c) e = no_revocation e
  revoked_gone (park c task) e = no_revocation e
  revoked_gone (queued c) e = no_revocation e
  revoked_gone (revoke c) e = ended c e
  revoked_gone (register words) e = no_revocation e
  revoked_gone (release _ _ _ _) e = no_revocation e
  revoked_gone (holders c) e = no_revocation e
  revoked_gone (clear task) e = no_revocation e
  revoked_gone note_authority e = no_revocation e
  revoked_gone note_state e = no_revocation e
  revoked_gone counts e = no_revocation e

pub nothing_more : NothingMore
nothing_more w r n c e later =
    let τ = reached_tidy r in
    let a = step_grows w c τ in
    let g = revoked_gone w n τ c e in
    let p = g.past in
    let m = a.more in
    nothing_more_in (step w c) n later a.tidy (omega arith) g.gone
