-- That the promises on ids are not empty, by runs that are computed. Assumes nothing.
use Rattle.std.specs.Prelude.{Err, Ok}
use mathlib.Core.Path.{◌≡◌, refl}
use mathlib.Core.Bool.{Bool, false}
use mathlib.Core.List.{[], ◌∷◌}
use Prim.Native.Nat.{ℕ}
use Rattle.laws.specs.Pick as picks
use Rattle.laws.specs.Search as places
use Rattle.cap.specs.Id.{id_of}
use Rattle.mint.specs.Generation as generations
use Rattle.ipc_rules.specs.State.{nobody, sizes_of}
use Rattle.ipc_rules.specs.Make.{fresh_of}
use Rattle.ipc_rules.specs.Create.{create_of}
use Rattle.ipc_rules.specs.Send.{send_of}
use Rattle.ipc_rules.specs.Observe.{queued_of}
use Rattle.ipc_rules.specs.Opening as openings
use Rattle.ipc_rules.specs.Counts as raises
use Rattle.ipc_rules.specs.Revoke as revocations
use Rattle.ipc_rules.specs.declared.state.Payload.{Payload}
use Rattle.ipc_rules.specs.declared.answers.SendError.TheVariants.{BadCap}
use Rattle.history.specs.Calls.{create, send, queued, revoke, created, sent, measured, revoked, answer, after}
use Rattle.history.specs.World.{if_created, on_creation, step, answers, start}

-- a fresh table with m 1 and e 2 creates, at every depth, and the two ids differ
pub fresh_creates : (d : ℕ) (ephemeral : Bool) → answer (fresh_of (sizes_of 1 2 d)) (create ephemeral) ≡ created (Ok (record { send = id_of 0 1; recv = id_of 1 1 }))
unfolding answer create_of places.found places.lowest_free places.lowest picks.pick
fresh_creates d ephemeral = refl

-- channel 1 is made and written to, both its ids open it; it is revoked, and they open nothing, also when channel 2 stands in its places
abbrev p : Payload
p = record { tag = 7; a = 1; b = 2 }

pub told :
    answers (start (sizes_of 1 2 1))
    (create false ∷ send (id_of 0 1) p 0 ∷ queued (id_of 1 1) ∷ revoke (id_of 0 1) ∷ send (id_of 0 1) p 0 ∷ create false ∷ send (id_of 0 1) p 0 ∷ queued (id_of 0 2) ∷ [])
    ≡ (created (Ok (record { send = id_of 0 1; recv = id_of 1 1 })) ∷ sent (Ok nobody) ∷ measured (Ok 1) ∷ revoked (Ok nobody) ∷ sent (Err BadCap)
    ∷ created (Ok (record { send = id_of 0 2; recv = id_of 1 2 })) ∷ sent (Err BadCap) ∷ measured (Ok 0) ∷ [])
unfolding answers step answer after on_creation if_created create_of send_of queued_of revocations.revoke_of revocations.killed revocations.wiped places.found places.lowest_free places.lowest picks.pick openings.opened openings.opening_of openings.open_of openings.either_of openings.open_either openings.any_right_of openings.open_any generations.next_generation raises.raised openings.attempt_of openings.told
told = refl
