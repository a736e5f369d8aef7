-- The job script: operands, at places counted from the record's start (the mark is at 0 and 1, the operation at 2). Numbers are
-- little-endian; rows, slots, places, sizes and the count of variants are one byte.
use Rattle.std.specs.Prelude.{List, [], ◌∷◌, ◌++◌, ℕ, zero, suc, ◌+◌, ◌*◌}
use Rattle.logread.specs.Little.{byte_at, little_at}
use Rattle.ipc_rules.specs.State.{sizes_of}
use Rattle.ipc_rules.specs.declared.state.Payload.{Payload}
use Rattle.ipc_rules.specs.declared.state.Sizes.{Sizes}
use Rattle.ipc_rules.specs.declared.state.TaskId.{TaskId}
use Rattle.dispatcher_rules.specs.declared.state.Tag.{Tag}
use Rattle.dispatcher_rules.specs.declared.state.Variant.{Variant}

-- the tag at a place, five bytes
abbrev pub tag_at : List ℕ → ℕ → Tag
tag_at script at =
    record { bytes = byte_at script at ∷ byte_at script (at + 1) ∷ byte_at script (at + 2) ∷ byte_at script (at + 3) ∷ byte_at script (at + 4) ∷ [] }

-- ---- new: m, e, d, count, then 16 times tag and row
abbrev pub sizes_at : List ℕ → Sizes
sizes_at script = sizes_of (byte_at script 3) (byte_at script 4) (byte_at script 5)

abbrev pub count_at : List ℕ → ℕ
count_at script = byte_at script 6

-- variant i
abbrev pub variant_at : List ℕ → ℕ → Variant
variant_at script i = record { tag = tag_at script (7 + 6 * i); row = byte_at script (7 + 6 * i + 5) }

-- what f gives for the n numbers from 0 on
unfoldable pub firsts : {A : Type 0} → (ℕ → A) → ℕ → List A
firsts f zero = []
firsts f (suc n) = firsts f n ++ (f n ∷ [])

abbrev pub variants_at : List ℕ → List Variant
variants_at script = firsts (variant_at script) 16

-- ---- send and park, after row and slot
abbrev pub payload_at : List ℕ → Payload
payload_at script = record { tag = little_at script 5 4; a = little_at script 9 8; b = little_at script 17 8 }

abbrev pub task_at : List ℕ → TaskId
task_at script = record { slot = little_at script 5 2; epoch = little_at script 7 2 }
