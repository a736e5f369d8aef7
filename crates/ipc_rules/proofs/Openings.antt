-- How a choice by an opening is settled, and what an opening says of the endpoint and the mailbox. Assumes nothing.
use Rattle.std.specs.Prelude.{Result, Ok, Err}
use mathlib.Core.Path.{◌≡◌, refl, sym, ap, ◌∙◌}
use mathlib.Core.Bool.{Bool, true, false, ◌||◌}
use mathlib.Core.List.{List}
use mathlib.Core.Logic.{◌⊎◌, inl, inr, ⊎_elim}
use Prim.Native.Nat.{ℕ, ◌<◌, ◌≤◌, ◌%◌}
use native.Mathlib.Omega.{arith}
use borrow.Author.Tests.{ltb-true, ltb-false, eqb-true}
use lib.Dec.{ltb, eqb}
use lib.Seq.{get_or-set_same}
use Rattle.laws.specs.Pick.{pick}
use Rattle.laws.proofs.Cases.{yes, no, all_pick, not_both}
use Rattle.cap.specs.Id.{index_of, generation_of}
use Rattle.cap.specs.Rights.{contains_all, send_right, receive_right}
use Rattle.cap.specs.declared.CapId.{CapId}
use Rattle.cap.specs.declared.CapRights.{CapRights}
use Rattle.cap.specs.declared.slot.Slot.{Slot}
use Rattle.ring.specs.Ring.{IsRing}
use Rattle.ipc_rules.specs.State.{fresh_mailbox, with_mailbox, end_in, endpoint_at, endpoint_live, mailbox_at, mailbox_live}
use Rattle.ipc_rules.specs.Sound.{Sound, InRange}
use Rattle.ipc_rules.specs.Opening.{attempt_of, told, open_of, open_either, open_any, open_for, in_reach, opening_of, either_of, any_right_of, hold_of, opened, LiveBelow, SoundOpensLive}
use Rattle.ipc_rules.specs.Why.{right_for}
use Rattle.ipc_rules.specs.declared.state.Endpoint.{Endpoint}
use Rattle.ipc_rules.specs.declared.state.Mailbox.{Mailbox}
use Rattle.ipc_rules.specs.declared.state.Table.{Table}
use Rattle.ipc_rules.specs.declared.opening.Reason.{Reason}
use Rattle.ipc_rules.specs.declared.opening.Reason.TheVariants.{PastEnd, Dead, OtherGeneration, NoRight}
use Rattle.ipc_rules.specs.declared.opening.Asked.{Asked}
use Rattle.ipc_rules.specs.declared.opening.Asked.TheVariants.{Send, Receive, Either, Revocation}
use Rattle.ipc_rules.specs.declared.opening.Opening.{Opening}
use Rattle.ipc_rules.specs.declared.opening.Opening.TheVariants.{Opens, Shut}

-- q is what the code got, and p what the definition asks
module _ {A : Type 0} {r : A} where
  pub shut : {q p : Opening} {a : A} (f : ℕ → A) → q ≡ p → q ≡ Shut → r ≡ a → r ≡ opened p a f
  unfolding opened
  shut f e n h = rw (← e, n) h

  pub opens : {q p : Opening} (a : A) (f : ℕ → A) (k : ℕ) → q ≡ p → q ≡ Opens k → r ≡ f k → r ≡ opened p a f
  unfolding opened
  opens a f k e n h = rw (← e, n) h

pub ruleset openings = (shut, opens)

-- the same of what is told of an attempt at what is asked for
pub told_for : (asked : Asked) (b : Bool) (e : Endpoint) (c : CapId) → told (attempt_of b e c (right_for asked e.rights)) ≡ open_for asked b e c
unfolding right_for open_of open_either open_any
told_for Send b e c = refl
told_for Receive b e c = refl
told_for Either b e c = refl
told_for Revocation b e c = refl

module _ (asked : Asked) (b : Bool) (e : Endpoint) (c : CapId) {q : Result ℕ Reason} (h : q ≡ attempt_of b e c (right_for asked e.rights)) where
  pub passes : (k : ℕ) → q ≡ Ok k → Opens k ≡ open_for asked b e c
  unfolding told
  passes k n = rw (← told_for asked b e c, ← h, n) refl

  pub fails : (r : Reason) → q ≡ Err r → Shut ≡ open_for asked b e c
  unfolding told
  fails r n = rw (← told_for asked b e c, ← h, n) refl

-- what holds of each way of an opening holds of the choice by it
pub all_opened : {A : Type 0} (P : A → Type 0) (o : Opening) (a : A) (f : ℕ → A) → (o ≡ Shut → P a) → ((k : ℕ) → o ≡ Opens k → P (f k)) → P (opened o a f)
unfolding opened
all_opened P Shut a f n y = n refl
all_opened P (Opens k) a f n y = y k refl

-- the code looks at the endpoint at the index modulo 64; past the table it looks at none, so that which one it is makes no difference
module _ {A : Type 0} (f : Bool → Endpoint → A) (past : (x y : Endpoint) → f false x ≡ f false y) (es : List Endpoint) (e : ℕ) (few : e ≤ 64) where
  masked : (i : ℕ) (b : Bool) → ltb i e ≡ b → f b (end_in es (i % 64)) ≡ f b (end_in es i)
  masked i true p = let l : i < e = ltb-true i e p in let q : i % 64 ≡ i = omega arith in rw q
  masked i false p = past (end_in es (i % 64)) (end_in es i)

  pub looked : (i j : ℕ) (q : A) → i ≡ j → q ≡ f (ltb i e) (end_in es (i % 64)) → q ≡ f (ltb j e) (end_in es j)
  looked i j q h g = g ∙ masked i _ refl ∙ ap (λ (n : ℕ). f (ltb n e) (end_in es n)) h

-- what the code opens is what the rule asks
module _ (t : Table) (i : ℕ) (q : Opening) (s : Sound t) where
  pub open_gave : (c : CapId) (need : CapRights) → i ≡ index_of c → q ≡ open_of (ltb i t.sizes.endpoints) (end_in t.endpoints (i % 64)) c need → q ≡ opening_of t c need
  unfolding opening_of open_of attempt_of pick
  open_gave c need h g = looked (λ b e. open_of b e c need) (λ _ _. refl) t.endpoints t.sizes.endpoints s.sizes.endpoints i _ q h g

  pub either_gave : (c : CapId) → i ≡ index_of c → q ≡ open_either (ltb i t.sizes.endpoints) (end_in t.endpoints (i % 64)) c → q ≡ either_of t c
  unfolding either_of open_either attempt_of pick
  either_gave c h g = looked (λ b e. open_either b e c) (λ _ _. refl) t.endpoints t.sizes.endpoints s.sizes.endpoints i _ q h g

  pub any_gave : (c : CapId) → i ≡ index_of c → q ≡ open_any (ltb i t.sizes.endpoints) (end_in t.endpoints (i % 64)) c → q ≡ any_right_of t c
  unfolding any_right_of open_any attempt_of pick
  any_gave c h g = looked (λ b e. open_any b e c) (λ _ _. refl) t.endpoints t.sizes.endpoints s.sizes.endpoints i _ q h g

  pub hold_gave : (x : Slot) → x.present ≡ true → i ≡ index_of x.id → q ≡ open_of (ltb i t.sizes.endpoints) (end_in t.endpoints (i % 64)) x.id send_right → q ≡ hold_of t x
  unfolding hold_of
  hold_gave x p h g = yes _ p (open_gave x.id send_right h g)

-- a vacant slot holds no send end
pub hold_vacant : (t : Table) (x : Slot) → x.present ≡ false → Shut ≡ hold_of t x
unfolding hold_of
hold_vacant t x p = no _ p refl

-- what opens: the tests that it passed, and the mailbox that it names
pub record Opened (t : Table) (c : CapId) (need : CapRights) (k : ℕ) : Type 0 where
  pub below : index_of c < t.sizes.endpoints
  pub live : endpoint_live t (index_of c) ≡ true
  pub generation : (endpoint_at t (index_of c)).generation ≡ generation_of c
  pub right : contains_all (endpoint_at t (index_of c)).rights need ≡ true
  pub names : (endpoint_at t (index_of c)).mailbox ≡ k

-- the four tests and what is told of them
abbrev pub tested : Bool → Bool → Bool → Bool → ℕ → Opening
tested b l g r m = told (pick b (pick l (pick g (pick r (Ok m) (Err NoRight)) (Err OtherGeneration)) (Err Dead)) (Err PastEnd))

tests : (b l g r : Bool) (m k : ℕ) → tested b l g r m ≡ Opens k → ((b ≡ true) × (l ≡ true)) × ((g ≡ true) × (r ≡ true)) × (m ≡ k)
unfolding pick told
tests true true true true m k e = ((refl, refl), (refl, refl), (cc))
tests true true true false m k e = let z : ◌≡◌ {A = ℕ} 0 1 = cc in absurd (omega arith)
tests true true false r m k e = let z : ◌≡◌ {A = ℕ} 0 1 = cc in absurd (omega arith)
tests true false g r m k e = let z : ◌≡◌ {A = ℕ} 0 1 = cc in absurd (omega arith)
tests false l g r m k e = let z : ◌≡◌ {A = ℕ} 0 1 = cc in absurd (omega arith)

pub opened_of : (t : Table) (c : CapId) (need : CapRights) (k : ℕ) → opening_of t c need ≡ Opens k → Opened t c need k
unfolding opening_of open_of attempt_of
opened_of t c need k e =
    let p = tests (ltb (index_of c) t.sizes.endpoints) (endpoint_live t (index_of c)) (eqb (endpoint_at t (index_of c)).generation (generation_of c)) (contains_all (endpoint_at t (index_of c)).rights need) _ k e in
    record { below = ltb-true _ _ p.0.0; live = p.0.1; generation = eqb-true _ _ p.1.0; right = p.1.1; names = p.2 }

-- a live mailbox of a sound table is within the sizes
pub live_below : (t : Table) (k : ℕ) → Sound t → mailbox_live t k ≡ true → k < t.sizes.mailboxes
live_below t k s l = by (ltb k t.sizes.mailboxes) refl
  where
    by : (b : Bool) → ltb k t.sizes.mailboxes ≡ b → k < t.sizes.mailboxes
    by true p = ltb-true _ _ p
    by false p = absurd (not_both (mailbox_live t k) l (ap (λ (b : Mailbox). b.live) (s.mailboxes_past k (ltb-false _ _ p))))

-- a live mailbox that is replaced stands where it stood
pub box_same : (t : Table) (k : ℕ) (b : Mailbox) → Sound t → mailbox_live t k ≡ true → mailbox_at (with_mailbox t k b) k ≡ b
box_same t k b s l =
    let h = live_below t k s l in
    let z = s.sizes in
    let n = s.shape.mailboxes in
    get_or-set_same t.mailboxes k b fresh_mailbox (omega arith)

-- mailbox k is a live one, and what a call on it relies on
pub record Within (t : Table) (k : ℕ) : Type 0 where
  pub box : k < 32
  pub live : mailbox_live t k ≡ true
  pub sizes : InRange t.sizes
  pub ring : IsRing t.sizes.depth (mailbox_at t k).ring

within : (t : Table) (k : ℕ) → Sound t → LiveBelow t k → Within t k
within t k s h =
    let b = h.below in
    let z = s.sizes in
    record { box = omega arith; live = h.live; sizes = z; ring = s.ring k h.live }

lives : (t : Table) (k : ℕ) → Sound t → mailbox_live t k ≡ true → LiveBelow t k
lives t k s l = record { below = live_below t k s l; live = l }

-- what opens in a sound table is a live mailbox
pub opens_live : (t : Table) (c : CapId) (need : CapRights) (k : ℕ) → Sound t → opening_of t c need ≡ Opens k → mailbox_live t k ≡ true
opens_live t c need k s e =
    let o = opened_of t c need k e in rw (← o.names) (s.names (index_of c) o.live).live

-- ---- the other openings
-- either right: by send, or else by receive
either_tested : (b l g s r : Bool) (m : ℕ) → tested b l g (s || r) m ≡ opened (tested b l g s m) (tested b l g r m) Opens
unfolding pick told opened
either_tested true true true true r m = refl
either_tested true true true false true m = refl
either_tested true true true false false m = refl
either_tested true true false s r m = refl
either_tested true false g s r m = refl
either_tested false l g s r m = refl

pub either_is : (t : Table) (c : CapId) → either_of t c ≡ opened (opening_of t c send_right) (opening_of t c receive_right) Opens
unfolding either_of open_either opening_of open_of attempt_of
either_is t c =
    let e = endpoint_at t (index_of c) in
    either_tested (in_reach t (index_of c)) e.live (eqb e.generation (generation_of c)) (contains_all e.rights send_right) (contains_all e.rights receive_right) e.mailbox

pub either_cases : (t : Table) (c : CapId) (k : ℕ) → either_of t c ≡ Opens k → (opening_of t c send_right ≡ Opens k) ⊎ (opening_of t c receive_right ≡ Opens k)
unfolding opened
either_cases t c k h = by (opening_of t c send_right) (sym (either_is t c) ∙ h)
  where
    by : (o : Opening) → opened o (opening_of t c receive_right) Opens ≡ Opens k → (o ≡ Opens k) ⊎ (opening_of t c receive_right ≡ Opens k)
    by Shut e = inr e
    by (Opens j) e = inl e

-- a hold is of a present id that opens for send
pub hold_opens : (t : Table) (x : Slot) (k : ℕ) → hold_of t x ≡ Opens k → (x.present ≡ true) × (opening_of t x.id send_right ≡ Opens k)
unfolding hold_of
hold_opens t x k =
    all_pick (λ o. o ≡ Opens k → (x.present ≡ true) × (opening_of t x.id send_right ≡ Opens k)) x.present _ _
    (λ p e. (p, e)) (λ _ e. let z : ◌≡◌ {A = ℕ} 0 1 = cc in absurd (omega arith))

-- a revocation's endpoint is live, of the id's generation, and names the mailbox
pub record AnyRight (t : Table) (c : CapId) (k : ℕ) : Type 0 where
  pub below : index_of c < t.sizes.endpoints
  pub live : endpoint_live t (index_of c) ≡ true
  pub generation : (endpoint_at t (index_of c)).generation ≡ generation_of c
  pub names : (endpoint_at t (index_of c)).mailbox ≡ k

pub any_right_of_lem : (t : Table) (c : CapId) (k : ℕ) → any_right_of t c ≡ Opens k → AnyRight t c k
unfolding any_right_of open_any attempt_of
any_right_of_lem t c k e =
    let p = tests (ltb (index_of c) t.sizes.endpoints) (endpoint_live t (index_of c)) (eqb (endpoint_at t (index_of c)).generation (generation_of c)) true _ k e in
    record { below = ltb-true _ _ p.0.0; live = p.0.1; generation = eqb-true _ _ p.1.0; names = p.2 }

-- ---- whatever an id opens in a sound table is a live mailbox below m; a call that opened one reads and writes within the arrays by this
pub opens_live_below : SoundOpensLive
opens_live_below t s =
    record {
      right = λ c need k e. lives t k s (opens_live t c need k s e);
      either = λ c k e. ⊎_elim (λ h. lives t k s (opens_live t c send_right k s h)) (λ h. lives t k s (opens_live t c receive_right k s h)) (either_cases t c k e);
      revoked = λ c k e. let o = any_right_of_lem t c k e in lives t k s (rw (← o.names) (s.names (index_of c) o.live).live);
      held = λ x k e. lives t k s (opens_live t x.id send_right k s (hold_opens t x k e).1);
    }

pub opens_within : (t : Table) (c : CapId) (need : CapRights) (k : ℕ) → Sound t → opening_of t c need ≡ Opens k → Within t k
opens_within t c need k s e = within t k s ((opens_live_below t s).right c need k e)

pub either_within : (t : Table) (c : CapId) (k : ℕ) → Sound t → either_of t c ≡ Opens k → Within t k
either_within t c k s e = within t k s ((opens_live_below t s).either c k e)

pub hold_within : (t : Table) (x : Slot) (k : ℕ) → Sound t → hold_of t x ≡ Opens k → Within t k
hold_within t x k s e = within t k s ((opens_live_below t s).held x k e)

pub any_within : (t : Table) (c : CapId) (k : ℕ) → Sound t → any_right_of t c ≡ Opens k → Within t k
any_within t c k s e = within t k s ((opens_live_below t s).revoked c k e)

-- so the mailbox that the code opened is one of the 32
module _ (t : Table) (i k : ℕ) {q : Opening} (s : Sound t) where
  pub open_box : (c : CapId) (need : CapRights) → i ≡ index_of c → q ≡ open_of (ltb i t.sizes.endpoints) (end_in t.endpoints (i % 64)) c need → q ≡ Opens k → k < 32
  open_box c need h g e = (opens_within t c need k s (sym (open_gave t i q s c need h g) ∙ e)).box

  pub any_box : (c : CapId) → i ≡ index_of c → q ≡ open_any (ltb i t.sizes.endpoints) (end_in t.endpoints (i % 64)) c → q ≡ Opens k → k < 32
  any_box c h g e = (any_within t c k s (sym (any_gave t i q s c h g) ∙ e)).box
