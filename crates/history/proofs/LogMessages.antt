-- Demand 3's second sentence in a log, `log_messages_given`. Assumes nothing.
use Rattle.std.specs.Prelude.{Err, Ok, Result}
use mathlib.Core.Path.{◌≡◌, refl, sym, ap, subst, ◌∙◌}
use mathlib.Core.Bool.{true, false}
use mathlib.Core.List.{List, [], ◌∷◌, ◌++◌, append-nil}
use Prim.Native.Nat.{ℕ, zero, suc}
use native.Mathlib.Omega.{arith}
use lib.ListN.{length}
use Rattle.cap.specs.declared.CapId.{CapId}
use Rattle.ipc_rules.specs.Answers.{send_number}
use Rattle.ipc_rules.specs.Send.{send_of}
use Rattle.ipc_rules.specs.Views.{queue_of}
use Rattle.ipc_rules.specs.declared.state.Message.{Message}
use Rattle.ipc_rules.specs.declared.state.Payload.{Payload}
use Rattle.ipc_rules.specs.declared.answers.SendError.TheVariants.{BadRow, BadCap, Full, BadTable}
use Rattle.operations.specs.Apply.{apply_of}
use Rattle.operations.specs.Channels.{send_done}
use Rattle.logread.specs.Little.{byte_at}
use Rattle.operations.specs.Operands.{id_at, payload_at}
use Rattle.operations.specs.declared.Tables.{Tables}
use Rattle.history.specs.Calls.{Call, send}
use Rattle.history.specs.World.{World, run, step}
use Rattle.history.specs.Traffic.{all_accepted, all_given, Spares}
use Rattle.history.specs.Messages.{SomeAccepts}
use Rattle.history.specs.Operations.{Operation, done_by, calls_of, renews, Logged, operate, operated, beginning, Follows, lasting, calls_over}
use Rattle.history.specs.LogMessages.{sending, sent_by, put_by, given_by, SparedBy, ShownOnce, GivenInLog, LogMessagesGiven}
use Rattle.history.proofs.Flows.{each_sent}
use Rattle.history.proofs.Messages.{OnceOver, once_over}
use Rattle.history.proofs.Operations.{goes_on, other_number, operations_follow, operated_follow, operations_run, logs_follow}
use Rattle.history.proofs.LinesShow.{gives}
use Rattle.ipc_rules.specs.declared.state.Waiter.{Waiter}
use Rattle.ipc_rules.specs.declared.answers.SendError.{SendError}

-- the send of a log is the call
sends : (s : Logged) (log : List ℕ) → (operate s (sending log)).world ≡ step s.world (send (id_at log 3) (payload_at log 7) (byte_at log 27))
unfolding calls_of run
sends s log = goes_on s (sending log) (other_number 1 log)

-- an operation that gives a message is no `new`
gives_on : (w : World) (n : ℕ) (x : Message) (log : List ℕ) (t : Tables) (number : ℕ) → all_given w n (calls_of (record { number = number; bytes = log }) t) ≡ x ∷ [] → renews (record { number = number; bytes = log }) ≡ false
unfolding calls_of all_given
gives_on w n x log t zero g = let z : ◌≡◌ {A = ℕ} 0 1 = cc in absurd (omega arith)
gives_on w n x log t (suc i) g = other_number i log

send_shows : (log : List ℕ) (t : Tables) → (done_by (sending log) t).number ≡ send_number (send_of t.channels (id_at log 3) (payload_at log 7) (byte_at log 27)).answer
unfolding apply_of send_done
send_shows log t = refl

module _ (s : Logged) (f : Follows s) (log : List ℕ) where
  abbrev c : CapId
  c = id_at log 3

  abbrev p : Payload
  p = payload_at log 7

  abbrev row : ℕ
  row = byte_at log 27

  abbrev m : Message
  m = sent_by log

  -- on a channel of the world
  accepts : (a : Result Waiter SendError) → (send_of s.world.table c p row).answer ≡ a → send_number a ≡ 0 → SomeAccepts s.world c p row
  accepts (Ok x) e z = each_sent s.world f.reached c p row x e
  accepts (Err BadRow) e z = absurd (omega arith)
  accepts (Err BadCap) e z = absurd (omega arith)
  accepts (Err Full) e z = absurd (omega arith)
  accepts (Err BadTable) e z = absurd (omega arith)

  module _ (a : SomeAccepts s.world c p row) (between : List Operation) (lasts : lasting between ≡ true) (o : Operation) where
    abbrev v : Logged
    v = operate s (sending log)

    abbrev calls : List Call
    calls = calls_over v between

    abbrev u : Logged
    u = operated v between

    abbrev ds : List Call
    ds = calls_of o u.tables

    follows : Follows u
    follows = operated_follow v between (operations_follow s (sending log) f)

    -- from the world after the send on
    once_from : (y : World) → y ≡ step s.world (send c p row) → Spares y a.number calls → length (all_given y a.number calls) ≡ a.ahead →
        (z : World) → z ≡ run y calls → Spares z a.number ds → all_accepted z a.number ds ≡ [] → (x : Message) → all_given z a.number ds ≡ x ∷ [] →
        OnceOver s.world y a.number a.box m calls z ds x
    once_from y e spared few z q = rw (q, e) (λ free takes x g.
        once_over s.world f.reached a.number a.box a.ahead c p row a.is calls (rw e at spared) (rw e at few) ds free takes x g)

    -- what is said of calls that follow is said of operations
    later_in : (w : World) (x : Message) → OnceOver s.world v.world a.number a.box m calls w ds x → (operate u o).world ≡ run w ds → (rest : List Operation) → lasting rest ≡ true →
        SparedBy (operate u o) a.number rest →
        given_by (operate u o) a.number rest ++ queue_of (operated (operate u o) rest).world.table a.box ≡ put_by v a.number between ++ put_by (operate u o) a.number rest
    later_in w x y p rest h =
        let cs = calls_over (operate u o) rest in
        rw (operations_run (operate u o) rest h)
        (subst (λ e. Spares e a.number cs → all_given e a.number cs ++ queue_of (run e cs).table a.box ≡ put_by v a.number between ++ all_accepted e a.number cs) (sym p) (y.later cs))

    once : SparedBy v a.number between → length (given_by v a.number between) ≡ a.ahead →
        (x : Message) → given_by u a.number (o ∷ []) ≡ x ∷ [] → ShownOnce s v a.number a.box m between o
    unfolding calls_over
    once spared few x g =
        let g' : all_given u.world a.number ds ≡ x ∷ [] = ap (all_given u.world a.number) (sym (append-nil _)) ∙ g in
        let h = gives u follows.channels o a.number x g' in
        let y = once_from v.world (sends s log) spared few u.world (operations_run v between lasts) h.spares h.accepts_none x g' in
        record {
          earlier = y.earlier;
          now = rw (← y.now) h.shows;
          later = later_in u.world x y (goes_on u o (gives_on u.world a.number x o.bytes u.tables o.number g'));
        }

  given_in_log : SomeAccepts s.world c p row → GivenInLog s log
  given_in_log a = record { number = a.number; box = a.box; ahead = a.ahead; accepted = a.is; once = λ between lasts spared few o x g. once a between lasts o spared few x g }

pub log_messages_given : LogMessagesGiven
log_messages_given before log z =
    let s = operated beginning before in
    let f = logs_follow before in
    given_in_log s f log (accepts s f log _ refl (rw f.channels (sym (send_shows log s.tables) ∙ z)))
