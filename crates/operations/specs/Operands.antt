-- Document 01, "The operation log": operands, at places counted from the record's start (the mark is at 0 and 1, the operation at 2).
use Rattle.std.specs.Prelude.{List, ℕ, ◌+◌}
use Rattle.cap.specs.declared.CapId.{CapId}
use Rattle.ipc_rules.specs.State.{sizes_of}
use Rattle.ipc_rules.specs.declared.state.Payload.{Payload}
use Rattle.ipc_rules.specs.declared.state.Sizes.{Sizes}
use Rattle.ipc_rules.specs.declared.state.TaskId.{TaskId}
use Rattle.logread.specs.Little.{byte_at, little_at}

-- the id at a place
abbrev pub id_at : List ℕ → ℕ → CapId
id_at log at = record { raw = little_at log at 4 }

-- the task at a place, slot and epoch
abbrev pub task_at : List ℕ → ℕ → TaskId
task_at log at = record { slot = little_at log at 2; epoch = little_at log (at + 2) 2 }

-- what a sender hands in at a place, tag, a and b
abbrev pub payload_at : List ℕ → ℕ → Payload
payload_at log at = record { tag = little_at log at 4; a = little_at log (at + 4) 8; b = little_at log (at + 12) 8 }

-- the sizes at a place, of mailboxes, endpoints and depth
abbrev pub sizes_at : List ℕ → ℕ → Sizes
sizes_at log at = sizes_of (byte_at log at) (byte_at log (at + 1)) (byte_at log (at + 2))
