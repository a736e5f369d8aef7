-- `ipc_life::inner::revocation::revoke_channel` meets its contract: a turn of `Through` for each endpoint, and the mailbox's eight messages
-- filled. Assumes nothing.
use mathlib.Core.Path.{◌≡◌, refl, sym, ◌∙◌}
use mathlib.Core.List.{List, []}
use Prim.Native.Nat.{ℕ, zero, suc, ◌+◌, ◌-◌, ◌*◌, ◌≤◌, ◌<◌}
use native.Mathlib.Numerals.{add-one}
use native.Mathlib.Omega.{arith}
use borrow.Rule.Slice.PartMut.{put_mid}
use lib.ListN.{length, replicate, take, drop, length-take, length-drop}
use lib.Seq.{paste, paste-zero}
use Rattle.std.proofs.lemmas.List.Edits.{fill_from_more}
use Rattle.std.proofs.lemmas.Slice.{put_mid-paste}
use Rattle.laws.proofs.Cases.{cases}
use Rattle.laws.proofs.Through.{through_done}
use Rattle.ipc_rules.specs.State.{fresh_message}
use Rattle.ipc_rules.specs.Opening.{any_right_of}
use Rattle.ipc_rules.specs.Revoke.{wiped, revoke_of}
use Rattle.ipc_rules.specs.declared.state.Message.{Message}
use Rattle.ipc_rules.proofs.Openings.{openings, opens, any_gave, any_box}
use Rattle.ipc_life.proofs.inner.revocation.revoke_channel.Goals as goal
use Rattle.ipc_life.proofs.inner.revocation.revoke_channel.Goals.{After-open_for}

-- what `open_for` gave is what the rule asks
gave : (c : After-open_for) → c.open_for.result ≡ any_right_of c.args.t c.args.cap
gave c = any_gave _ _ _ c.requires _ c.index-i.ensures c.open_for.ensures

-- the first n places of mailbox k's ring, wiped one by one, are as many fresh messages pasted over them
pasted : (ms : List Message) (k n : ℕ) → k * 8 + n ≤ length ms → wiped ms k n ≡ paste ms (k * 8) (replicate n fresh_message) n
unfolding wiped
pasted ms k zero h = paste-zero ms (k * 8) []
pasted ms k (suc n) h = rw (pasted ms k n (omega arith)) (rw add-one at (fill_from_more ms (k * 8) n fresh_message (omega arith)))

-- a part of eight places that is filled
filled : (ms ys : List Message) (k : ℕ) → k * 8 + 8 ≤ length ms → ys ≡ replicate (length (take (k * 8 + 8 - k * 8) (drop (k * 8) ms))) fresh_message → put_mid (k * 8) (k * 8 + 8 - k * 8) ms ys ≡ wiped ms k 8
filled ms ys k h e =
    let n : length (take (k * 8 + 8 - k * 8) (drop (k * 8) ms)) ≡ 8 = simp (length-take, length-drop) (omega arith) in
    put_mid-paste (k * 8) (k * 8 + 8 - k * 8) ms ys (replicate 8 fresh_message) 8 (rw n at e) (omega arith) refl ∙ sym (pasted ms k 8 h)

pub returns-in_default : goal.returns-in_default
unfolding revoke_of
returns-in_default c = rw c.raised-t.ensures (search (cases, openings, gave (goal.at.returns-in_default c).After-open_for))

pub returns : goal.returns
unfolding revoke_of
returns c =
    let within : c.in-Opens.k < 32 = any_box _ _ _ c.requires _ c.index-i.ensures c.open_for.ensures c.in-Opens.is in
    let ends = through_done _ _ _ 64 c.requires.shape.endpoints c.loop-ep.auto.ep-index-end c.loop-ep-test.false c.loop-ep.invariant in
    let wipes = filled c.args.t.messages _ c.in-Opens.k (omega (arith, c.requires.shape.messages)) (c.fill.ensures.after (λ y e. e)) in
    opens _ _ _ (gave (goal.at.returns c).After-open_for) c.in-Opens.is (rw (ends, wipes))
