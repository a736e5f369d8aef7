-- The channel table after a closing: the job's channel is gone, its waiter is the answer, and every other channel is as it was. Assumes
-- nothing.
use Rattle.std.specs.Prelude.{Ok}
use mathlib.Core.Path.{◌≡◌, refl, sym, ap, ◌∙◌}
use Prim.Native.Nat.{ℕ}
use Rattle.cap.specs.Rights.{send_right}
use Rattle.cap.specs.declared.CapId.{CapId}
use Rattle.cap.specs.declared.CapRights.{CapRights}
use Rattle.ipc_rules.specs.Sound.{Sound}
use Rattle.ipc_rules.specs.Opening.{opening_of, any_right_of, opened}
use Rattle.ipc_rules.specs.Revoke.{revoke_of}
use Rattle.ipc_rules.specs.Views.{waiter_of}
use Rattle.ipc_rules.specs.declared.opening.Opening.{Opening}
use Rattle.ipc_rules.specs.declared.opening.Opening.TheVariants.{Opens, Shut}
use Rattle.ipc_rules.specs.declared.state.Table.{Table as Channels}
use Rattle.ipc_rules.proofs.AfterRevoke.{Revokes, RevokeWays, bad_cap, revoked, revoke_ways}
use Rattle.ipc_rules.proofs.Openings.{either_is}
use Rattle.ipc_rules.proofs.OtherOpenings.{any_is}
use Rattle.dispatcher_rules.specs.Close.{woken_by, end_of}
use Rattle.dispatcher_rules.specs.declared.answers.Ending.{Ending}
use Rattle.isolation.proofs.Ids.{never_opens}

-- what opens for send, a revocation opens
any_sends : (t : Channels) (c : CapId) (k : ℕ) → Sound t → opening_of t c send_right ≡ Opens k → any_right_of t c ≡ Opens k
unfolding opened
any_sends t c k s o = any_is t c s ∙ either_is t c ∙ rw o

pub record Ends (t : Channels) (c : CapId) (k : ℕ) : Type 0 where
  pub answer : (revoke_of t c).answer ≡ Ok (waiter_of t k)
  pub waiter : (end_of t c).waiter ≡ waiter_of t k
  pub gone : Revokes t k (end_of t c).channels

pub end_is : (t : Channels) (c : CapId) (k : ℕ) → opening_of t c send_right ≡ Opens k →
    end_of t c ≡ record { waiter = woken_by (revoke_of t c).answer; channels = (revoke_of t c).table }
unfolding end_of opened
end_is t c k o = rw o

pub channel_ended : (t : Channels) (c : CapId) (k : ℕ) → Sound t → opening_of t c send_right ≡ Opens k → Ends t c k
channel_ended t c k s o = by (revoke_ways t c s)
  where
    by : RevokeWays t c (revoke_of t c) → Ends t c k
    by (bad_cap h _) = never_opens (sym h ∙ any_sends t c k s o)
    by (revoked j h _ a r) =
        let e = sym h ∙ any_sends t c k s o in
        let q : j ≡ k = cc in
        record { answer = a ∙ ap (λ (i : ℕ). Ok (waiter_of t i)) q; waiter = ap (λ (x : Ending). x.waiter) (end_is t c k o) ∙ ap woken_by a ∙ ap (waiter_of t) q; gone = rw (end_is t c k o, ← q) r }

-- what did not open does not
pub shut_stays : (t u : Channels) (k : ℕ) → Revokes t k u → (c : CapId) (need : CapRights) → opening_of t c need ≡ Shut → opening_of u c need ≡ Shut
shut_stays t u k r c need e = by (opening_of u c need) refl
  where
    by : (o : Opening) → opening_of u c need ≡ o → o ≡ Shut
    by Shut h = refl
    by (Opens j) h = never_opens (sym e ∙ r.only c need j h)
