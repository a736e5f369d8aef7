-- Request No. 6 in a log: "Task-facing answers stay BadCap with the same counts; the reason, 1 to 4, only ends the replay lines on which send,
-- receive, park or `queued` prints BadCap." At any place of a log, the line of such an operation is BadCap with a reason exactly where that
-- reason is so of the channel table then; and what stands behind any operation's BadCap is that and nothing else. Every other line of an
-- operation that makes calls shows their answers alone (`OperationsTell`). In a log that is read no send has a row from 54 up: its record is
-- refused before (25, `logread` `operands_ok`).
use Rattle.std.specs.Prelude.{◌≡◌, List, [], ◌∷◌, ℕ, ◌<◌}
use Rattle.laws.specs.Refusals as no
use Rattle.ipc_rules.specs.Why.{reason_number, Because}
use Rattle.ipc_rules.specs.declared.opening.Asked.{Asked}
use Rattle.ipc_rules.specs.declared.opening.Asked.TheVariants.{Send, Receive, Either}
use Rattle.ipc_rules.specs.declared.opening.Reason.{Reason}
use Rattle.logread.specs.Little.{byte_at}
use Rattle.operations.specs.Operands.{id_at}
use Rattle.history.specs.Operations.{Operation, done_by, Logged, operated, beginning}
use Rattle.history.specs.Lines.{line_in, reason_of}

-- the line of an operation: BadCap, and reason r
abbrev pub EndsWith : Logged → Operation → Reason → Type 0
EndsWith s o r = line_in s o ≡ o.number ∷ no.bad_cap ∷ reason_number r ∷ []

-- a reason that is so of the id that stands first in the record
abbrev pub IsSo : Logged → Operation → Asked → Reason → Type 0
IsSo s o asked r = Because s.tables.channels (id_at o.bytes 3) asked r

pub record ShowsReason (s : Logged) (o : Operation) (asked : Asked) : Type 0 where
  pub reason : Reason
  pub so : IsSo s o asked reason
  pub line : EndsWith s o reason

-- where it prints BadCap it shows one that is so; and where one is so, that is the line
pub record LineReasons (s : Logged) (o : Operation) (asked : Asked) : Type 0 where
  pub shows : (done_by o s.tables).number ≡ no.bad_cap → ShowsReason s o asked
  pub where_so : (r : Reason) → IsSo s o asked r → EndsWith s o r

-- of each of the four operations, by its number
pub record ReasonsShown (s : Logged) : Type 0 where
  pub send : (log : List ℕ) → byte_at log 27 < 54 → LineReasons s (record { number = 2; bytes = log }) Send
  pub receive : (log : List ℕ) → LineReasons s (record { number = 3; bytes = log }) Receive
  pub park : (log : List ℕ) → LineReasons s (record { number = 4; bytes = log }) Receive
  pub queued : (log : List ℕ) → LineReasons s (record { number = 5; bytes = log }) Either
  -- and of all: behind BadCap stands what `reason_of` has, which is nothing but for these four
  pub only : (o : Operation) → (done_by o s.tables).number ≡ no.bad_cap → line_in s o ≡ o.number ∷ no.bad_cap ∷ reason_of o s.tables

abbrev pub LogReasonsShown : Type 0
LogReasonsShown = (before : List Operation) → ReasonsShown (operated beginning before)
