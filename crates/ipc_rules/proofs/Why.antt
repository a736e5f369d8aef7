-- Why an id opens nothing: each reason is told exactly where it is so, what is told and what opens agree, and the reason is there exactly
-- where a call answers BadCap. Assumes nothing.
use Rattle.std.specs.Prelude.{Result, Ok, Err, None, Option, Some, ⊤}
use mathlib.Core.Path.{◌≡◌, refl, sym, ap, ◌∙◌}
use mathlib.Core.Bool.{Bool, true, false, ◌||◌}
use mathlib.Core.Logic.{⊎_elim}
use Prim.Native.Nat.{ℕ, ◌<◌, ◌%◌}
use native.Mathlib.Omega.{arith}
use borrow.Author.Tests.{ltb-true, ltb-false, lt-ltb, le-ltb, eqb-true, eqb-false, eq-eqb, ne_eqb, lt-leb}
use lib.Dec.{ltb, eqb}
use Rattle.laws.specs.Pick.{pick}
use Rattle.cap.specs.Id.{index_of, generation_of}
use Rattle.cap.specs.Slot.{holding}
use Rattle.cap.specs.Rights.{contains_all, send_right, receive_right}
use Rattle.cap.specs.declared.CapId.{CapId}
use Rattle.cap.specs.declared.CapRights.{CapRights}
use Rattle.ipc_rules.specs.State.{end_in, endpoint_at, endpoint_live, mailbox_at, stamped}
use Rattle.laws.proofs.Cases.{not_both}
use Rattle.ipc_rules.specs.Opening.{attempt_of, told, open_of, open_either, open_any, in_reach, opening_of, either_of, any_right_of, hold_of, opened}
use Rattle.ipc_rules.specs.Sound.{Sound}
use Rattle.ipc_rules.specs.Counts.{full_raised}
use Rattle.ipc_rules.specs.Send.{queued_in, send_of}
use Rattle.ipc_rules.specs.Receive.{recv_of, park_of}
use Rattle.ipc_rules.specs.Observe.{queued_of, holders_of}
use Rattle.ipc_rules.specs.Revoke.{revoke_of}
use Rattle.ipc_rules.specs.Why.{right_for, tried_of, why_answer, why_of, Because, ReasonsTold, OneReason, Explains, ShutsTie, ReasonsTie, EitherIsNeither, EitherNeverLacks}
use Rattle.ipc_rules.specs.declared.state.Message.{Message}
use Rattle.ipc_rules.specs.declared.state.Payload.{Payload}
use Rattle.ipc_rules.specs.declared.state.Waiter.{Waiter}
use Rattle.ipc_rules.specs.declared.state.Table.{Table}
use Rattle.ipc_rules.specs.declared.opening.Opening as openings
use Rattle.ipc_rules.specs.declared.answers.SendError.TheVariants as sends
use Rattle.ipc_rules.specs.declared.answers.RecvError.TheVariants as receives
use Rattle.ipc_rules.specs.declared.answers.ParkError.TheVariants as parks
use Rattle.ipc_rules.specs.declared.answers.CapError.TheVariants as cap_error
use Rattle.ipc_rules.specs.declared.opening.Reason.{Reason}
use Rattle.ipc_rules.specs.declared.opening.Reason.TheVariants.{PastEnd, Dead, OtherGeneration, NoRight}
use Rattle.ipc_rules.specs.declared.opening.Asked.{Asked}
use Rattle.ipc_rules.specs.declared.opening.Asked.TheVariants.{Send, Receive, Either, Revocation}
use Rattle.ipc_rules.specs.declared.answers.WhyError.TheVariants.{Shut}
use Rattle.ipc_rules.proofs.Openings.{looked}
use Rattle.ipc_rules.specs.declared.answers.SendError.{SendError}
use Rattle.shown.specs.declared.Answered.{Answered}
use Rattle.ipc_rules.specs.declared.answers.RecvError.{RecvError}
use Rattle.ipc_rules.specs.declared.answers.ParkError.{ParkError}
use Rattle.ipc_rules.specs.declared.answers.CapError.{CapError}
use Rattle.ipc_rules.specs.declared.answers.WhyError.{WhyError}

-- ---- each reason, both ways
-- what the four tests come to
abbrev answered : Bool → Bool → Bool → Bool → ℕ → Result ⊤ WhyError
answered b l g r m = why_answer (pick b (pick l (pick g (pick r (Ok m) (Err NoRight)) (Err OtherGeneration)) (Err Dead)) (Err PastEnd))

-- which tests passed and which was the first to fail
Failed : Bool → Bool → Bool → Bool → Reason → Type 0
Failed b l g r PastEnd = b ≡ false
Failed b l g r Dead = (b ≡ true) × (l ≡ false)
Failed b l g r OtherGeneration = (b ≡ true) × (l ≡ true) × (g ≡ false)
Failed b l g r NoRight = (b ≡ true) × (l ≡ true) × (g ≡ true) × (r ≡ false)

the_first : (b l g r : Bool) (m : ℕ) (e : Reason) → answered b l g r m ≡ Err (Shut e) → Failed b l g r e
unfolding pick why_answer Failed
the_first false l g r m e h = let i : e ≡ PastEnd = cc in rw i refl
the_first true false g r m e h = let i : e ≡ Dead = cc in rw i (refl, refl)
the_first true true false r m e h = let i : e ≡ OtherGeneration = cc in rw i (refl, refl, refl)
the_first true true true false m e h = let i : e ≡ NoRight = cc in rw i (refl, refl, refl, refl)
the_first true true true true m e h = let z : ◌≡◌ {A = ℕ} 0 1 = cc in absurd (omega arith)

is_told : (b l g r : Bool) (m : ℕ) (e : Reason) → Failed b l g r e → answered b l g r m ≡ Err (Shut e)
unfolding pick why_answer Failed
is_told b l g r m PastEnd h = rw h refl
is_told b l g r m Dead h = rw (h.0, h.1) refl
is_told b l g r m OtherGeneration h = rw (h.0, h.1, h.2) refl
is_told b l g r m NoRight h = rw (h.0, h.1, h.2, h.3) refl

module _ (t : Table) (c : CapId) (asked : Asked) where
  abbrev b : Bool
  b = in_reach t (index_of c)

  abbrev l : Bool
  l = endpoint_live t (index_of c)

  abbrev g : Bool
  g = eqb (endpoint_at t (index_of c)).generation (generation_of c)

  abbrev r : Bool
  r = right_for asked (endpoint_at t (index_of c)).rights

  said : (e : Reason) → Failed b l g r e → Because t c asked e
  unfolding Because Failed
  said PastEnd h = ltb-false _ _ h
  said Dead h = (ltb-true _ _ h.0, h.1)
  said OtherGeneration h = (ltb-true _ _ h.0, h.1, eqb-false _ _ h.2)
  said NoRight h = (ltb-true _ _ h.0, h.1, eqb-true _ _ h.2, h.3)

  meant : (e : Reason) → Because t c asked e → Failed b l g r e
  unfolding Because Failed
  meant PastEnd h = le-ltb _ _ h
  meant Dead h = (lt-ltb _ _ h.0, h.1)
  meant OtherGeneration h = (lt-ltb _ _ h.0, h.1, ne_eqb _ _ h.2)
  meant NoRight h = (lt-ltb _ _ h.0, h.1, eq-eqb _ _ h.2, h.3)

pub reasons_told : ReasonsTold
unfolding why_of tried_of attempt_of
reasons_told t c asked e =
    let m = (endpoint_at t (index_of c)).mailbox in
    record {
      so = λ h. said t c asked e (the_first (b t c asked) (l t c asked) (g t c asked) (r t c asked) m e h);
      answered = λ h. is_told (b t c asked) (l t c asked) (g t c asked) (r t c asked) m e (meant t c asked e h);
    }

pub one_reason : OneReason
one_reason t c asked r q a b = same (sym ((reasons_told t c asked r).answered a) ∙ (reasons_told t c asked q).answered b)
  where
    same : ◌≡◌ {A = Result ⊤ WhyError} (Err (Shut r)) (Err (Shut q)) → r ≡ q
    same e = cc

-- ---- neither right
-- where two rights fail for the same reason, so does the one or the other
tested_both : (b l g s r : Bool) (m : ℕ) (e : Reason) → answered b l g (s || r) m ≡ Err (Shut e) → (answered b l g s m ≡ Err (Shut e)) × (answered b l g r m ≡ Err (Shut e))
unfolding pick why_answer
tested_both true true true true r m e h = let z : ◌≡◌ {A = ℕ} 0 1 = cc in absurd (omega arith)
tested_both true true true false true m e h = let z : ◌≡◌ {A = ℕ} 0 1 = cc in absurd (omega arith)
tested_both true true true false false m e h = (h, h)
tested_both true true false s r m e h = (h, h)
tested_both true false g s r m e h = (h, h)
tested_both false l g s r m e h = (h, h)

tested_back : (b l g s r : Bool) (m : ℕ) (e : Reason) → answered b l g s m ≡ Err (Shut e) → answered b l g r m ≡ Err (Shut e) → answered b l g (s || r) m ≡ Err (Shut e)
unfolding pick why_answer
tested_back true true true true r m e h k = h
tested_back true true true false r m e h k = k
tested_back true true false s r m e h k = h
tested_back true false g s r m e h k = h
tested_back false l g s r m e h k = h

pub either_is_neither : EitherIsNeither
unfolding why_of tried_of attempt_of right_for
either_is_neither t c e =
    let x = endpoint_at t (index_of c) in
    let g = eqb x.generation (generation_of c) in
    let s = contains_all x.rights send_right in
    let r = contains_all x.rights receive_right in
    record {
      both = tested_both (in_reach t (index_of c)) (endpoint_live t (index_of c)) g s r x.mailbox e;
      back = tested_back (in_reach t (index_of c)) (endpoint_live t (index_of c)) g s r x.mailbox e;
    }

-- ---- the tie to shut openings, and to BadCap
-- what follows from an opening is P exactly where it is shut
explains : {A : Type 0} (P : A → Type 0) (o : Result ℕ Reason) (a : A) (f : ℕ → A) → P a → ((k : ℕ) → P (f k) → ⊥) → Explains (why_answer o) (P (opened (told o) a f))
unfolding why_answer told opened
explains P (Ok k) a f p n = record { explained = λ h. absurd (n k h); only = λ r e. let z : ◌≡◌ {A = ℕ} 0 1 = cc in absurd (omega arith) }
explains P (Err r) a f p n = record { explained = λ _. record { reason = r; is = refl }; only = λ _ _. p }

shut_explains : (o : Result ℕ Reason) → Explains (why_answer o) (told o ≡ openings.TheVariants.Shut)
unfolding why_answer told
shut_explains (Ok k) = record { explained = λ h. let z : ◌≡◌ {A = ℕ} 0 1 = cc in absurd (omega arith); only = λ r e. let z : ◌≡◌ {A = ℕ} 0 1 = cc in absurd (omega arith) }
shut_explains (Err r) = record { explained = λ _. record { reason = r; is = refl }; only = λ _ _. refl }

hold_tie : (t : Table) (c : CapId) → Explains (why_of t c Send) (hold_of t (holding c) ≡ openings.TheVariants.Shut)
unfolding why_of tried_of right_for hold_of opening_of open_of pick
hold_tie t c = shut_explains (tried_of t c Send)

-- no other answer is BadCap
full_or_sent : (b : Bool) (w : Waiter) (t u : Table) → let o : (Answered (Result Waiter SendError) Table) = pick b (record { answer = Err sends.Full; table = t }) (record { answer = Ok w; table = u }) in
    o.answer ≡ Err sends.BadCap → ⊥
unfolding pick
full_or_sent true w t u e = let z : ◌≡◌ {A = ℕ} 0 1 = cc in omega arith
full_or_sent false w t u e = let z : ◌≡◌ {A = ℕ} 0 1 = cc in omega arith

empty_or_received : (b : Bool) (m : Message) (t u : Table) → let o : (Answered (Result Message RecvError) Table) = pick b (record { answer = Err receives.Empty; table = t }) (record { answer = Ok m; table = u }) in
    o.answer ≡ Err receives.BadCap → ⊥
unfolding pick
empty_or_received true m t u e = let z : ◌≡◌ {A = ℕ} 0 1 = cc in omega arith
empty_or_received false m t u e = let z : ◌≡◌ {A = ℕ} 0 1 = cc in omega arith

parked_or_not : (a b c : Bool) (m : Message) (t u v w : Table) →
    let o : (Answered (Result (Option Message) ParkError) Table) = pick a (record { answer = Ok (Some m); table = t }) (pick b (record { answer = Err parks.Cancelled; table = u }) (pick c (record { answer = Err parks.Busy; table = v }) (record { answer = Ok None; table = w }))) in
    o.answer ≡ Err parks.BadCap → ⊥
unfolding pick
parked_or_not true b c m t u v w e = let z : ◌≡◌ {A = ℕ} 0 1 = cc in omega arith
parked_or_not false true c m t u v w e = let z : ◌≡◌ {A = ℕ} 0 1 = cc in omega arith
parked_or_not false false true m t u v w e = let z : ◌≡◌ {A = ℕ} 0 1 = cc in omega arith
parked_or_not false false false m t u v w e = let z : ◌≡◌ {A = ℕ} 0 1 = cc in omega arith

-- a send by a row that is there
send_tie : (t : Table) (c : CapId) (p : Payload) (row : ℕ) → row < 54 → Explains (why_of t c Send) ((send_of t c p row).answer ≡ Err sends.BadCap)
unfolding why_of tried_of right_for send_of opening_of open_of pick
send_tie t c p row l =
    rw (lt-leb 54 row l) (explains (λ (o : Answered (Result Waiter SendError) Table). o.answer ≡ Err sends.BadCap) (tried_of t c Send) _ _ refl
    (λ k. full_or_sent (eqb (mailbox_at t k).ring.len t.sizes.depth) (mailbox_at t k).waiter (full_raised t) (queued_in t k (stamped p row))))

pub reasons_tie : ReasonsTie
unfolding why_of tried_of right_for recv_of park_of queued_of holders_of revoke_of opening_of either_of any_right_of open_of open_either open_any
reasons_tie t c =
    record {
      send = send_tie t c;
      receive = explains (λ (o : Answered (Result Message RecvError) Table). o.answer ≡ Err receives.BadCap) (tried_of t c Receive) _ _ refl (λ k. empty_or_received _ _ _ _);
      park = λ task. explains (λ (o : Answered (Result (Option Message) ParkError) Table). o.answer ≡ Err parks.BadCap) (tried_of t c Receive) _ _ refl (λ k. parked_or_not _ _ _ _ _ _ _ _);
      queued = explains (λ (o : Result ℕ CapError). o ≡ Err cap_error.BadCap) (tried_of t c Either) _ _ refl (λ k e. let z : ◌≡◌ {A = ℕ} 0 1 = cc in omega arith);
      holders = explains (λ (o : Result ℕ CapError). o ≡ Err cap_error.BadCap) (tried_of t c Send) _ _ refl (λ k e. let z : ◌≡◌ {A = ℕ} 0 1 = cc in omega arith);
      revoke = explains (λ (o : Answered (Result Waiter CapError) Table). o.answer ≡ Err cap_error.BadCap) (tried_of t c Revocation) _ _ refl (λ k e. let z : ◌≡◌ {A = ℕ} 0 1 = cc in omega arith);
    }

pub shuts_tie : ShutsTie
unfolding why_of tried_of right_for opening_of either_of any_right_of open_of open_either open_any
shuts_tie t c =
    record {
      send = shut_explains (tried_of t c Send);
      receive = shut_explains (tried_of t c Receive);
      either = shut_explains (tried_of t c Either);
      revoke = shut_explains (tried_of t c Revocation);
      hold = hold_tie t c;
    }

pub either_never_lacks : EitherNeverLacks
unfolding Because right_for
either_never_lacks t σ c e =
    let h = (reasons_told t c Either NoRight).so e in
    not_both _ (⊎_elim (λ w. ap has w) (λ w. ap has w) (σ.names (index_of c) h.1).rights) h.3
  where
    has : CapRights → Bool
    has x = contains_all x send_right || contains_all x receive_right

-- ---- for the code
-- what an attempt came to is what the rule asks
pub tried_gave : (t : Table) (i : ℕ) (q : Result ℕ Reason) → Sound t → (c : CapId) (asked : Asked) → i ≡ index_of c →
    q ≡ attempt_of (ltb i t.sizes.endpoints) (end_in t.endpoints (i % 64)) c (right_for asked (end_in t.endpoints (i % 64)).rights) → q ≡ tried_of t c asked
unfolding tried_of attempt_of pick
tried_gave t i q σ c asked h g =
    looked (λ b e. attempt_of b e c (right_for asked e.rights)) (λ _ _. refl) t.endpoints t.sizes.endpoints σ.sizes.endpoints i _ q h g

module _ {q p : Result ℕ Reason} where
  pub why_passes : (k : ℕ) → q ≡ p → q ≡ Ok k → Ok tt ≡ why_answer p
  unfolding why_answer
  why_passes k e n = rw (← e, n) refl

  pub why_fails : (r : Reason) → q ≡ p → q ≡ Err r → Err (Shut r) ≡ why_answer p
  unfolding why_answer
  why_fails r e n = rw (← e, n) refl
