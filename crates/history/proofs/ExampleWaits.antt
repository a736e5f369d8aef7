-- Runs in which a task is parked and each call that can end its wait ends it, computed: the premises of the theorem of waits are met, and
-- what it says of them is what the rules answer. Assumes nothing.
use Rattle.std.specs.Prelude.{Err, None, Ok}
use mathlib.Core.Path.{◌≡◌, refl}
use mathlib.Core.Bool.{Bool, true, false}
use mathlib.Core.List.{List, [], ◌∷◌}
use Prim.Native.Nat.{ℕ, ◌+◌}
use Rattle.laws.specs.Pick.{pick}
use Rattle.laws.specs.Search.{found, lowest, lowest_free}
use Rattle.laws.specs.Every.{every, count}
use Rattle.cap.specs.Slot.{vacant_slot, holding}
use Rattle.cap.specs.Id.{id_of}
use Rattle.cap.specs.Word.{or_vacant, read_word, slots_of}
use Rattle.cap.specs.declared.CapId.{CapId}
use Rattle.mint.specs.Generation.{next_generation}
use Rattle.ipc_rules.specs.Counts.{raised}
use Rattle.ipc_rules.specs.Create.{create_of}
use Rattle.ipc_rules.specs.Send.{send_of}
use Rattle.ipc_rules.specs.State.{waiting, sizes_of}
use Rattle.ipc_rules.specs.Receive.{recv_of, park_of}
use Rattle.ipc_rules.specs.Holds.{four_of, registered, registered_all, register_of, released, released_all, release_of}
use Rattle.ipc_rules.specs.Revoke.{killed, wiped, revoke_of}
use Rattle.ipc_rules.specs.Waiters.{without_waiter, clear_of}
use Rattle.ipc_rules.specs.Opening.{attempt_of, told, open_of, open_any, opened, opening_of, any_right_of, hold_of}
use Rattle.ipc_rules.specs.Views.{held_by, held_in}
use Rattle.ipc_rules.specs.declared.state.Payload.{Payload}
use Rattle.ipc_rules.specs.declared.state.TaskId.{TaskId}
use Rattle.ipc_rules.specs.declared.state.Waiter.{Waiter}
use Rattle.ipc_rules.specs.declared.answers.SendError.TheVariants as send
use Rattle.history.specs.Calls as call
use Rattle.history.specs.Calls.{Call, Answer, releasing, answer, after}
use Rattle.history.specs.World.{World, but, if_created, on_creation, step, run, start, fresh}
use Rattle.history.specs.Channels.{leads}
use Rattle.history.specs.Waits.{ends, takes_last, waits_ended, turn_of, Quiet, none, more, ParkedOn}
use Rattle.history.proofs.Kept.{reached_run}
use Rattle.history.proofs.Waits.{parked_named}

-- ---- the ids of the first and the second channel, made in a fresh table: the endpoints in order, with generations 1 and 2
abbrev sender₁ : CapId
sender₁ = id_of 0 1

abbrev receiver₁ : CapId
receiver₁ = id_of 1 1

abbrev sender₂ : CapId
sender₂ = id_of 2 2

abbrev receiver₂ : CapId
receiver₂ = id_of 3 2

-- a present id as a word
abbrev word : CapId → ℕ
word c = 4294967296 + c.raw

abbrev task₁ : TaskId
task₁ = record { slot = 2; epoch = 0 }

abbrev task₂ : TaskId
task₂ = record { slot = 3; epoch = 7 }

abbrev hello : Payload
hello = record { tag = 7; a = 1; b = 2 }

-- ---- the runs
-- one channel, ephemeral or not, with its send end held by the words, and the task parked on it
abbrev before : Bool → List ℕ → World
before ephemeral words = run (start (sizes_of 1 2 1)) (call.create ephemeral ∷ call.register words ∷ [])

abbrev parked : Bool → List ℕ → World
parked ephemeral words = step (before ephemeral words) (call.park receiver₁ task₁)

abbrev once : List ℕ
once = word sender₁ ∷ []

abbrev twice : List ℕ
twice = word sender₁ ∷ word sender₁ ∷ []

-- two ephemeral channels, each held once, with a task parked on the first, and with another on the second
abbrev first : World
first =
    run (start (sizes_of 2 4 1)) (call.create true ∷ call.create true ∷ call.register (word sender₁ ∷ word sender₂ ∷ []) ∷ call.park receiver₁ task₁ ∷ [])

abbrev both : World
both = step first (call.park receiver₂ task₂)

-- ---- what is computed
-- what a call answers, and whether it ends the first task's wait on channel 1, in mailbox 0
abbrev says : World → Call → Answer
says w c = answer w.table c

abbrev ending : World → Call → Bool
ending w c = ends w 1 0 task₁ c

abbrev naming : List Waiter → Answer
naming ws = call.released (Ok tt) (four_of ws)

record Computed : Type 0 where
  -- the park is answered Parked, and calls may follow that end no wait
  pub parks : says (before true once) (call.park receiver₁ task₁) ≡ call.parked (Ok None)
  pub quiet :
      Quiet (parked true once) 1 0 task₁
      (call.park receiver₁ task₁ ∷ call.park receiver₁ task₂ ∷ call.receive receiver₁ ∷ call.queued receiver₁ ∷ call.clear task₂ ∷ call.register once ∷ releasing (holding sender₁ ∷ []) ∷ [])
  -- a send that is accepted, one by the receive id and one of a row from 54 up, which are refused
  pub send_ends : ending (parked true once) (call.send sender₁ hello 5) ≡ true
  pub send_names : says (parked true once) (call.send sender₁ hello 5) ≡ call.sent (Ok (waiting task₁))
  pub refused_ends : ending (parked true once) (call.send receiver₁ hello 5) ≡ false
  pub refused_names : says (parked true once) (call.send receiver₁ hello 5) ≡ call.sent (Err send.BadCap)
  pub no_row_ends : ending (parked true once) (call.send sender₁ hello 54) ≡ false
  pub no_row_names : says (parked true once) (call.send receiver₁ hello 54) ≡ call.sent (Err send.BadRow)
  -- a revocation by either id
  pub revocation_ends : ending (parked true once) (call.revoke sender₁) ≡ true
  pub revocation_names : says (parked true once) (call.revoke sender₁) ≡ call.revoked (Ok (waiting task₁))
  pub either_id_ends : ending (parked true once) (call.revoke receiver₁) ≡ true
  pub either_id_names : says (parked true once) (call.revoke receiver₁) ≡ call.revoked (Ok (waiting task₁))
  -- a release of the last hold, of one hold in two, of two in two, and of the last hold where the channel is not ephemeral
  pub release_ends : ending (parked true once) (releasing (vacant_slot ∷ holding sender₁ ∷ [])) ≡ true
  pub release_names : says (parked true once) (releasing (vacant_slot ∷ holding sender₁ ∷ [])) ≡ naming (waiting task₁ ∷ [])
  pub one_left_ends : ending (parked true twice) (releasing (holding sender₁ ∷ [])) ≡ false
  pub one_left_names : says (parked true twice) (releasing (holding sender₁ ∷ [])) ≡ naming []
  pub none_left_ends : ending (parked true twice) (releasing (holding sender₁ ∷ vacant_slot ∷ holding sender₁ ∷ [])) ≡ true
  pub none_left_names : says (parked true twice) (releasing (holding sender₁ ∷ vacant_slot ∷ holding sender₁ ∷ [])) ≡ naming (waiting task₁ ∷ [])
  pub lasting_ends : ending (parked false once) (releasing (holding sender₁ ∷ [])) ≡ false
  pub lasting_names : says (parked false once) (releasing (holding sender₁ ∷ [])) ≡ naming []
  -- a clearing
  pub clearing_ends : ending (parked true once) (call.clear task₁) ≡ true
  pub clearing_counts : says (parked true once) (call.clear task₁) ≡ call.cleared (Ok 1)
  -- waiters in list order: the second channel's slot stands first, so that the first channel's waiter has the second turn
  pub order_ends : ending both (releasing (vacant_slot ∷ holding sender₂ ∷ holding sender₁ ∷ [])) ≡ true
  pub order_names : says both (releasing (vacant_slot ∷ holding sender₂ ∷ holding sender₁ ∷ [])) ≡ naming (waiting task₂ ∷ waiting task₁ ∷ [])
  pub order_turn : turn_of both.table 0 [] (vacant_slot ∷ holding sender₂ ∷ holding sender₁ ∷ vacant_slot ∷ []) ≡ 1
  -- where nobody waits on the second channel, it is named at the first place
  pub alone_names : says first (releasing (vacant_slot ∷ holding sender₂ ∷ holding sender₁ ∷ [])) ≡ naming (waiting task₁ ∷ [])
  pub alone_turn : turn_of first.table 0 [] (vacant_slot ∷ holding sender₂ ∷ holding sender₁ ∷ vacant_slot ∷ []) ≡ 0
  -- an accepted send on the other channel is none on this one
  pub other_ends : ending both (call.send sender₂ hello 5) ≡ false
  pub other_names : says both (call.send sender₂ hello 5) ≡ call.sent (Ok (waiting task₂))

computed : Computed
unfolding answer after step run on_creation if_created but create_of send_of recv_of park_of register_of registered_all registered release_of released_all released revoke_of killed wiped clear_of without_waiter opening_of open_of open_any hold_of any_right_of opened pick found lowest lowest_free every count slots_of or_vacant read_word next_generation raised held_by held_in leads ends takes_last waits_ended turn_of attempt_of told
computed =
    record {
      parks = refl;
      quiet = more refl (more refl (more refl (more refl (more refl (more refl (more refl none))))));
      send_ends = refl;
      send_names = refl;
      refused_ends = refl;
      refused_names = refl;
      no_row_ends = refl;
      no_row_names = refl;
      revocation_ends = refl;
      revocation_names = refl;
      either_id_ends = refl;
      either_id_names = refl;
      release_ends = refl;
      release_names = refl;
      one_left_ends = refl;
      one_left_names = refl;
      none_left_ends = refl;
      none_left_names = refl;
      lasting_ends = refl;
      lasting_names = refl;
      clearing_ends = refl;
      clearing_counts = refl;
      order_ends = refl;
      order_names = refl;
      order_turn = refl;
      alone_names = refl;
      alone_turn = refl;
      other_ends = refl;
      other_names = refl;
    }

-- ---- the theorem, of this run
pub example : ParkedOn (before true once) receiver₁ task₁
example = parked_named (before true once) (reached_run (fresh (sizes_of 1 2 1) refl) (call.create true ∷ call.register once ∷ [])) receiver₁ task₁ computed.parks
