-- When an opening leads to a channel. Assumes nothing.
use mathlib.Core.Path.{◌≡◌, refl}
use mathlib.Core.Bool.{true, false}
use Prim.Native.Nat.{ℕ}
use borrow.Author.Tests.{eqb-true, eq-eqb}
use Rattle.laws.proofs.Cases.{not_both}
use Rattle.ipc_rules.specs.Opening.{opened}
use Rattle.ipc_rules.specs.declared.opening.Opening.{Opening}
use Rattle.ipc_rules.specs.declared.opening.Opening.TheVariants.{Opens, Shut}
use Rattle.history.specs.World.{World}
use Rattle.history.specs.Channels.{leads}

-- it opens a mailbox that channel n was last made in
pub record LeadsTo (w : World) (n : ℕ) (o : Opening) : Type 0 where
  pub box : ℕ
  pub opens : o ≡ Opens box
  pub tenant : w.tenant box ≡ n

pub leads_to : (w : World) (n : ℕ) (o : Opening) → leads w n o ≡ true → LeadsTo w n o
unfolding leads opened
leads_to w n Shut e = absurd (not_both false e refl)
leads_to w n (Opens k) e = record { box = k; opens = refl; tenant = eqb-true _ _ e }

-- and what opens a mailbox leads to the channel in it
pub leads_own : (w : World) (k : ℕ) (o : Opening) → o ≡ Opens k → leads w (w.tenant k) o ≡ true
unfolding leads opened
leads_own w k o e = rw e (eq-eqb (w.tenant k) (w.tenant k) refl)
