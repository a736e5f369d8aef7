-- The ways that a joined step can go: what holds of each way holds of the step. Assumes nothing.
use Rattle.std.specs.Prelude.{Err, Ok, Result, ⊤}
use mathlib.Core.Path.{◌≡◌, ap}
use mathlib.Core.Bool.{true}
use mathlib.Core.List.{List}
use Prim.Native.Nat.{ℕ, ◌<◌}
use native.Mathlib.Omega.{arith}
use borrow.Author.Tests.{leb-false}
use Rattle.laws.proofs.Cases.{all_pick}
use Rattle.cap.specs.Word.{words_read}
use Rattle.cap.specs.declared.CapId.{CapId}
use Rattle.capslots.specs.Rows.{install_of}
use Rattle.capslots.specs.declared.Table.{Table as Rows}
use Rattle.ipc_sound.specs.Border.{guarded}
use Rattle.ipc_rules.specs.declared.state.Table.{Table as Channels}
use Rattle.joined.specs.Answers.{spawn_number, leave_number, give_number}
use Rattle.joined.specs.Steps.{spawn_refused, spawned, spawn_of, leave_refused, leaves, leave_of, give_refused, gives, give_of}
use Rattle.joined.specs.declared.answers.Spawning.{Spawning}
use Rattle.joined.specs.declared.answers.SpawnError.TheVariants.{BadWord, BadRow}
use Rattle.joined.specs.declared.answers.Leaving.{Leaving}
use Rattle.joined.specs.declared.answers.LeaveError.TheVariants as leave
use Rattle.joined.specs.declared.answers.Giving.{Giving}
use Rattle.joined.specs.declared.answers.GiveError.TheVariants as give
use Rattle.joined.proofs.Register.{all_installs}
use Rattle.joined.specs.declared.answers.SpawnError.{SpawnError}
use Rattle.joined.specs.declared.answers.LeaveError.{LeaveError}
use Rattle.joined.specs.declared.answers.GiveError.{GiveError}

module _ (channels : Channels) (rows : Rows) where
  pub spawn_ways : (P : Spawning → Type 0) (r : ℕ) (words : List ℕ)
      → ((a : Result ⊤ SpawnError) → (a ≡ Ok tt → ⊥) → P (spawn_refused a channels rows))
      → (words_read words ≡ true → r < 54 → P (spawned channels rows r words)) → P (spawn_of channels rows r words)
  unfolding spawn_of
  spawn_ways P r words bad done =
      all_pick P (words_read words) _ _
      (λ w. all_pick P _ _ _ (λ _. bad (Err BadRow) (λ e. omega (arith, ap spawn_number e))) (λ l. done w (leb-false 54 r l)))
      (λ _. bad (Err BadWord) (λ e. omega (arith, ap spawn_number e)))

  pub leave_ways : (P : Leaving → Type 0) (r : ℕ)
      → ((a : Result ⊤ LeaveError) → (a ≡ Ok tt → ⊥) → P (leave_refused a channels rows))
      → (r < 54 → P (leaves channels rows r)) → P (leave_of channels rows r)
  unfolding leave_of
  leave_ways P r bad done =
      all_pick P _ _ _ (λ _. bad (Err leave.BadRow) (λ e. omega (arith, ap leave_number e))) (λ l. done (leb-false 54 r l))

  pub give_ways : (P : Giving → Type 0) (r s : ℕ) (c : CapId)
      → ((a : Result ⊤ GiveError) → (a ≡ Ok tt → ⊥) → P (give_refused a channels rows))
      → ((install_of rows r s c).answer ≡ Ok tt → P (gives channels rows r s c)) → P (give_of channels rows r s c)
  unfolding give_of
  give_ways P r s c bad done =
      all_installs P (install_of rows r s c).answer _ _
      (λ _. bad (Err give.BadSlot) (λ e. omega (arith, ap give_number e))) done

-- at the border: the refusal (27), or the step
pub guarded_ways : {A : Type 0} (P : A → Type 0) (channels : Channels) (refusal rule : A) → P refusal → P rule → P (guarded channels refusal rule)
unfolding guarded
guarded_ways P channels refusal rule bad done = all_pick P _ _ _ (λ _. done) (λ _. bad)
