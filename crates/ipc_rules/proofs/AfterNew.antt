-- A fresh table: nothing opens, and every mailbox is as when fresh. Assumes nothing.
use mathlib.Core.Path.{◌≡◌, refl, ap}
use mathlib.Core.Bool.{false}
use mathlib.Core.List.{[]}
use Prim.Native.Nat.{ℕ}
use Rattle.laws.proofs.Lists.{all_replicate}
use Rattle.cap.specs.Id.{index_of}
use Rattle.cap.specs.declared.CapId.{CapId}
use Rattle.cap.specs.declared.CapRights.{CapRights}
use Rattle.ipc_rules.specs.State.{fresh_mailbox, fresh_endpoint, mailbox_at}
use Rattle.ipc_rules.specs.Make.{fresh_of}
use Rattle.ipc_rules.specs.Opening.{opening_of}
use Rattle.ipc_rules.specs.Views.{queue_of}
use Rattle.ipc_rules.specs.declared.state.Endpoint.{Endpoint}
use Rattle.ipc_rules.specs.declared.state.Mailbox.{Mailbox}
use Rattle.ipc_rules.specs.declared.state.Sizes.{Sizes}
use Rattle.ipc_rules.specs.declared.opening.Opening.TheVariants.{Shut}
use Rattle.ipc_rules.proofs.Changes.{queue_none}
use Rattle.ipc_rules.proofs.NewChannel.{dead_shut}

module _ (z : Sizes) where
  pub fresh_shut : (c : CapId) (need : CapRights) → opening_of (fresh_of z) c need ≡ Shut
  fresh_shut c need = dead_shut (fresh_of z) c need (all_replicate (λ (e : Endpoint). e.live ≡ false) 64 fresh_endpoint refl (index_of c))

  pub fresh_box : (k : ℕ) → mailbox_at (fresh_of z) k ≡ fresh_mailbox
  fresh_box k = all_replicate (λ b. b ≡ fresh_mailbox) 32 fresh_mailbox refl k

  pub fresh_queue : (k : ℕ) → queue_of (fresh_of z) k ≡ []
  fresh_queue k = queue_none (fresh_of z) k (ap (λ (b : Mailbox). b.ring.len) (fresh_box k))
