-- Request No. 10: "A filter cannot tell which row wrote a sentence. Messages get a fourth part, the sending row, one byte, set by the kernel.
-- .. demand 3's "unchanged" includes the stamp."
--
--   "Messages get a fourth part"             `stamped p row`: the three parts p that were handed in, and the row
--   "the sending row"                        the row that the call names, `row` in `send c p row`, one of the 54
--   "set by the kernel"                      what a sender hands in has no fourth part; and no call but an accepted send makes a message, and
--                                            so a stamp: what waits after a call waited before it, or the call is that send (`OnlySends`)
--   ""unchanged" includes the stamp"         what is given out is what an accepted send made: the parts that were handed in to that send and
--                                            the row that it named (`EachWasSent`); and what an accepted send made is given out in its turn,
--                                            once, `GivenOnce` in Messages
use Rattle.std.specs.Prelude.{◌≡◌, true, ◌⊎◌, ℕ, ◌<◌}
use mathlib.Core.List.{List, [], ◌∷◌, ◌++◌, Memᴰ}
use Rattle.cap.specs.declared.CapId.{CapId}
use Rattle.ipc_rules.specs.State.{stamped}
use Rattle.ipc_rules.specs.Make.{in_range}
use Rattle.ipc_rules.specs.Views.{queue_of}
use Rattle.ipc_rules.specs.declared.state.Message.{Message}
use Rattle.ipc_rules.specs.declared.state.Payload.{Payload}
use Rattle.ipc_rules.specs.declared.state.Sizes.{Sizes}
use Rattle.history.specs.Calls.{Call, send}
use Rattle.history.specs.World.{World, step, run, start, Reached}
use Rattle.history.specs.Channels.{LivesIn}
use Rattle.history.specs.Traffic.{accepted, given}

-- ---- by call
-- in the world w the call is a send that is accepted on channel n, and m is what was handed in with the row that it names
pub data Stamps (w : World) (n : ℕ) (m : Message) : Call → Type 0 where
  by_send : {c : CapId} {p : Payload} {row : ℕ} → row < 54 → accepted w n (send c p row) ≡ stamped p row ∷ [] → m ≡ stamped p row → Stamps w n m (send c p row)

-- whatever the call, a message that waits on channel n after it waited there before it, or the call is the accepted send that made it; that
-- none waits twice or out of its turn is `InOrder` in Messages
abbrev pub OnlySends : Type 0
OnlySends =
    (w : World) → Reached w → (c : Call) (n k : ℕ) → LivesIn (step w c) n k → (m : Message) → Memᴰ m (queue_of (step w c).table k) →
    (LivesIn w n k × Memᴰ m (queue_of w.table k)) ⊎ Stamps w n m c

-- ---- over runs
-- among the calls cs from a fresh table, the accepted send on channel n by which m was made
pub record WasSent (z : Sizes) (cs : List Call) (n : ℕ) (m : Message) : Type 0 where
  pub earlier : List Call
  pub call : Call
  pub later : List Call
  pub split : cs ≡ earlier ++ (call ∷ later)
  pub makes : Stamps (run (start z) earlier) n m call

-- each message that a call gives from channel n after them has one
abbrev pub EachWasSent : Type 0
EachWasSent =
    (z : Sizes) → in_range z ≡ true → (cs : List Call) (n : ℕ) (d : Call) (m : Message) → given (run (start z) cs) n d ≡ m ∷ [] → WasSent z cs n m
