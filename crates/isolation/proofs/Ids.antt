-- Ids told apart by what they open. Assumes nothing.
use mathlib.Core.Path.{◌≡◌, sym, ap, ◌∙◌}
use Prim.Native.Nat.{ℕ}
use native.Mathlib.Omega.{arith}
use Rattle.cap.specs.declared.CapId.{CapId}
use Rattle.cap.specs.declared.CapRights.{CapRights}
use Rattle.ipc_rules.specs.Opening.{opening_of}
use Rattle.ipc_rules.specs.declared.opening.Opening.TheVariants.{Opens, Shut}
use Rattle.ipc_rules.specs.declared.state.Table.{Table as Channels}

pub never_opens : {A : Type 0} {k : ℕ} → Shut ≡ Opens k → A
never_opens e = let z : ◌≡◌ {A = ℕ} 0 1 = cc in absurd (omega arith)

module _ (t : Channels) (c d : CapId) (need : CapRights) (j : ℕ) where
  -- one id opens one mailbox
  pub one_box : (k : ℕ) → c ≡ d → opening_of t c need ≡ Opens j → opening_of t d need ≡ Opens k → j ≡ k
  one_box k e a b = let q = sym a ∙ ap (λ (x : CapId). opening_of t x need) e ∙ b in cc

  -- an id that opens is none that does not
  pub unlike : opening_of t c need ≡ Opens j → opening_of t d need ≡ Shut → c ≡ d → ⊥
  unlike a b e = never_opens (sym b ∙ ap (λ (x : CapId). opening_of t x need) (sym e) ∙ a)
