-- What the type [T; n] says of a table that a function was given: the lengths of its lists. Assumes nothing.
use mathlib.Core.Path.{◌≡◌, ap}
use mathlib.Core.List.{List}
use mathlib.Core.Bool.{true, false}
use mathlib.Core.Logic.{⊎_elim}
use Prim.Native.Nat.{ℕ, ◌≤◌, ◌<◌}
use native.Mathlib.Omega.{arith}
use lib.ListN.{length, get_or, get_or-eq_default}
use Rattle.laws.proofs.Cases.{not_both}
use Rattle.ipc_rules.specs.State.{Shape, fresh_endpoint, fresh_mailbox, box_live, endpoint_live, mailbox_live}
use Rattle.ipc_rules.specs.declared.state.Endpoint.{Endpoint}
use Rattle.ipc_rules.specs.declared.state.Mailbox.{Mailbox}
use Rattle.ipc_rules.specs.declared.state.Table.{Table}
use Rattle.laws.proofs.Bools.{below?}

-- past a list's end stands what is read by default, so what a table has of a kind is below its length
pub past : {A : Type 0} (l : List A) (d : A) (n i : ℕ) → length l ≡ n → n ≤ i → get_or l i d ≡ d
past l d n i e h = get_or-eq_default l d (omega arith)

-- a number past the 32 names no live mailbox
pub no_box : (bs : List Mailbox) → length bs ≡ 32 → (k : ℕ) → 32 ≤ k → box_live bs k ≡ false
no_box bs e k l = ap (λ (b : Mailbox). b.live) (past bs fresh_mailbox 32 k e l)

module _ (t : Table) (shape : Shape t) where
  pub end_below : (i : ℕ) → endpoint_live t i ≡ true → i < 64
  end_below i v =
      ⊎_elim (λ l. l) (λ g. absurd (not_both _ v (ap (λ (e : Endpoint). e.live) (past t.endpoints fresh_endpoint 64 i shape.endpoints g))))
      (below? i 64)

  pub box_below : (k : ℕ) → mailbox_live t k ≡ true → k < 32
  box_below k v =
      ⊎_elim (λ l. l) (λ g. absurd (not_both _ v (ap (λ (b : Mailbox). b.live) (past t.mailboxes fresh_mailbox 32 k shape.mailboxes g))))
      (below? k 32)
