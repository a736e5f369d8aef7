-- Channels by their numbers: where one lives, and when an id opens it.
use Rattle.std.specs.Prelude.{◌≡◌, Bool, true, false, ℕ, eqb}
use Rattle.cap.specs.declared.CapId.{CapId}
use Rattle.cap.specs.declared.CapRights.{CapRights}
use Rattle.ipc_rules.specs.State.{mailbox_live}
use Rattle.ipc_rules.specs.Opening.{opening_of, any_right_of, opened}
use Rattle.ipc_rules.specs.declared.opening.Opening.{Opening}
use Rattle.history.specs.World.{World}

-- channel n lives in mailbox k
pub record LivesIn (w : World) (n k : ℕ) : Type 0 where
  pub live : mailbox_live w.table k ≡ true
  pub tenant : w.tenant k ≡ n

-- an opening leads to channel n
unfoldable pub leads : World → ℕ → Opening → Bool
leads w n o = opened o false (λ k. eqb (w.tenant k) n)

-- the id c opens channel n: by the right `need`, and as a revocation asks
abbrev pub on : World → ℕ → CapId → CapRights → Bool
on w n c need = leads w n (opening_of w.table c need)

abbrev pub on_any : World → ℕ → CapId → Bool
on_any w n c = leads w n (any_right_of w.table c)
