-- Document 01, "What the box carries over" and refusal 20: a fresh table, made within the sizes.
use Rattle.std.specs.Prelude.{Bool, ◌&&◌, ℕ, leb, replicate, Err, Ok, Result, ⊤}
use Rattle.laws.specs.Pick.{pick}
use Rattle.ipc_rules.specs.State.{fresh_endpoint, fresh_mailbox, fresh_message, fresh_table, sizes_of}
use Rattle.ipc_rules.specs.declared.state.Sizes.{Sizes}
use Rattle.ipc_rules.specs.declared.state.Table.{Table}
use Rattle.ipc_rules.specs.declared.answers.NewError.TheVariants.{BadSizes}
use Rattle.ipc_rules.specs.declared.answers.NewError.{NewError}
use Rattle.shown.specs.declared.Answered.{Answered}

-- nothing lives, the present generation is 1, nothing was refused
abbrev pub fresh_of : Sizes → Table
fresh_of z = fresh_table z (replicate 64 fresh_endpoint) (replicate 32 fresh_mailbox) (replicate 256 fresh_message)

-- m mailboxes 0 to 32, e endpoints 0 to 64, depth d 1 to 8
abbrev pub in_range : Sizes → Bool
in_range z = leb z.mailboxes 32 && leb z.endpoints 64 && leb 1 z.depth && leb z.depth 8

-- outside the sizes: 20, and with it a fresh table of sizes 0, 0, 1
unfoldable pub new_of : ℕ → ℕ → ℕ → Answered (Result ⊤ NewError) Table
new_of m e d =
    pick (in_range (sizes_of m e d))
    (record { answer = Ok tt; table = fresh_of (sizes_of m e d) })
    (record { answer = Err BadSizes; table = fresh_of (sizes_of 0 0 1) })
