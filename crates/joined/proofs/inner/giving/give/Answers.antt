-- `joined::inner::giving::give` meets its contract: the list of one word that it registers reads as the id. Assumes nothing.
use Rattle.std.specs.Prelude.{Err, Ok, Result, ⊤}
use mathlib.Core.Path.{◌≡◌, refl, ap, ◌∙◌}
use mathlib.Core.List.{[], ◌∷◌}
use Prim.Native.Nat.{ℕ, ◌<◌}
use borrow.Author.Rules.{rules}
use Rattle.cap.specs.Slot.{holding}
use Rattle.cap.specs.Word.{read_word, word_of}
use Rattle.cap.specs.declared.CapId.{CapId}
use Rattle.cap.proofs.Words.{holding_back}
use Rattle.capslots.specs.Rows.{install_of}
use Rattle.capslots.specs.declared.Table.{Table as Rows}
use Rattle.ipc_rules.specs.Holds.{register_of}
use Rattle.ipc_rules.specs.declared.state.Table.{Table as Channels}
use Rattle.joined.specs.Steps.{give_refused, give_of}
use Rattle.joined.specs.declared.answers.Giving.{Giving}
use Rattle.joined.specs.declared.answers.GiveError.TheVariants.{BadSlot}
use Rattle.joined.proofs.Register.{word_registered, refuses, succeeds}
use Rattle.joined.proofs.inner.giving.give.Goals as goal
use Rattle.capslots.specs.declared.answers.InstallError.{InstallError}
use Rattle.shown.specs.declared.Answered.{Answered}
use Rattle.ipc_rules.specs.declared.answers.RegisterError.{RegisterError}

module _ (channels : Channels) (rows : Rows) (r s : ℕ) (c : CapId) {i : Answered (Result ⊤ InstallError) Rows} (e : i ≡ install_of rows r s c) where
  neither : {x : InstallError} → i.answer ≡ Err x → give_refused (Err BadSlot) channels rows ≡ give_of channels rows r s c
  unfolding give_of
  neither n = refuses (ap (λ (x : Answered (Result ⊤ InstallError) Rows). x.answer) e) _ n refl

  -- with a free slot, what the two calls leave is what the rule gives
  both : {w : ℕ} {g : Answered (Result ⊤ RegisterError) Channels} → i.answer ≡ Ok tt → c.raw < 4294967296 → w ≡ word_of (holding c) → g ≡ register_of channels (w ∷ [])
      → ◌≡◌ {A = Giving} (record { answer = Ok tt; channels = g.table; rows = i.table }) (give_of channels rows r s c)
  unfolding give_of
  both {w} y l p g =
      succeeds (ap (λ (x : Answered (Result ⊤ InstallError) Rows). x.answer) e) _ y
      (rw (g, e, word_registered channels w (holding c) (ap read_word p ∙ holding_back c l)))

pub returns-in_default : goal.returns-in_default
returns-in_default c = neither _ _ _ _ _ c.install-installed.ensures c.in_default.is

pub returns : goal.returns
returns c =
    let id-fits : c.args.id.raw < 4294967296 = search rules in
    both _ _ _ _ _ c.install-installed.ensures c.in-Ok.is id-fits (c.word_of.ensures ∙ ap word_of c.holding.ensures) c.register_holds-registered.ensures
