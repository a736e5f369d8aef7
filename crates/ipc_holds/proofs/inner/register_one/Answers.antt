-- `ipc_holds::inner::register_one` meets its contract: what the slot opens in a sound table is a live mailbox, which gets one hold. Assumes nothing.
use mathlib.Core.Path.{◌≡◌, refl}
use Prim.Native.Nat.{ℕ}
use borrow.Author.Tests.{not-true, not-false}
use Rattle.cap.specs.declared.slot.Slot.{Slot}
use Rattle.ipc_rules.specs.State.{mailbox_at, with_mailbox}
use Rattle.ipc_rules.specs.Opening.{hold_of}
use Rattle.ipc_rules.specs.Holds.{more, registered}
use Rattle.ipc_rules.specs.declared.state.Mailbox.{Mailbox}
use Rattle.ipc_rules.specs.declared.state.Table.{Table}
use Rattle.ipc_rules.specs.declared.opening.Opening.{Opening}
use Rattle.ipc_rules.specs.declared.opening.Opening.TheVariants.{Opens, Shut}
use Rattle.ipc_rules.proofs.Openings.{shut, opens, hold_gave, hold_vacant}
use Rattle.ipc_holds.proofs.inner.register_one.Goals as goal
use Rattle.ipc_holds.proofs.inner.register_one.Goals.{After-open, In-Opens}

-- what `open` gave is what the rule asks of a slot that is not vacant
gave : (c : After-open) → c.open.result ≡ hold_of c.args.t c.args.slot
gave c = hold_gave _ _ _ c.requires _ (not-false _ c.if-not-slot.false) c.index-i.ensures c.open.ensures

-- a slot that holds no send end, and one that holds that of mailbox k
skipped : (t : Table) (x : Slot) {q : Opening} → q ≡ hold_of t x → q ≡ Shut → t ≡ registered t x
unfolding registered
skipped t x g e = shut _ g e refl

added : (t : Table) (x : Slot) (k : ℕ) (b : Mailbox) {q : Opening} → q ≡ hold_of t x → q ≡ Opens k → b ≡ more (mailbox_at t k) → with_mailbox t k b ≡ registered t x
unfolding registered
added t x k b g e h = opens _ _ k g e (rw h)

pub returns-then-not-slot : goal.returns-then-not-slot
returns-then-not-slot c = skipped _ _ (hold_vacant _ _ (not-true _ c.if-not-slot.true)) refl

pub returns-in_default : goal.returns-in_default
returns-in_default c = skipped _ _ (gave (goal.at.returns-in_default c).After-open) c.in_default.is

pub returns : goal.returns
returns c = added _ _ _ _ (gave (goal.at.returns c).After-open) c.in-Opens.is c.more.ensures
