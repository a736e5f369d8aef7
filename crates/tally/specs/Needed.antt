-- Request No. 7: what the equation comes to where the premises are kept, and where one of them is not: a table of runs. A row has what the
-- channel with the send id 65536 has after its run, holds and then slots that hold the id: equal where the premises are kept, and unequal in
-- each breach, which keeps every premise but the one named above it.
use Rattle.std.specs.Prelude.{◌≡◌, true, false, List, [], ◌∷◌, ◌++◌, ℕ, length, replicate}
use Rattle.cap.specs.Id.{id_of}
use Rattle.cap.specs.Rights.{send_right}
use Rattle.cap.specs.Slot.{holding, vacant_slot}
use Rattle.cap.specs.Word.{word_of}
use Rattle.cap.specs.declared.CapId.{CapId}
use Rattle.capslots.specs.Rows.{seed_of, install_of, drain_of}
use Rattle.capslots.specs.declared.Table.{Table as Rows}
use Rattle.ipc_rules.specs.Holds.{register_of, release_of}
use Rattle.ipc_rules.specs.Opening.{opening_of, opened}
use Rattle.ipc_rules.specs.State.{mailbox_live, sizes_of}
use Rattle.ipc_rules.specs.Views.{hold_count}
use Rattle.ipc_rules.specs.declared.opening.Opening.TheVariants.{Opens}
use Rattle.ipc_rules.specs.declared.state.Sizes.{Sizes}
use Rattle.ipc_rules.specs.declared.state.Table.{Table as Channels}
use Rattle.dispatcher_rules.specs.State.{no_variant}
use Rattle.dispatcher_rules.specs.declared.state.Tag.{Tag}
use Rattle.dispatcher_rules.specs.declared.state.Variant.{Variant}
use Rattle.history.specs.Edges.{Edge, edge, Agree}
use Rattle.tally.specs.Count.{slots_with}
use Rattle.tally.specs.Runs.{Books, Step, spawn, leave, give, create, transfer, make, open_for, close, after, start, Reached}

-- the send id of the first channel, index 0 and generation 1, and its word
abbrev pub first : CapId
first = id_of 0 1

abbrev pub word : ℕ
word = word_of (holding first)

-- the steps of a list, one after another
unfoldable pub steps_from : Books → List Step → Books
steps_from b [] = b
steps_from b (s ∷ ss) = steps_from (after b s) ss

-- from fresh tables with two mailboxes
abbrev pub small : Sizes
small = sizes_of 2 4 1

abbrev pub played : List Step → Books
played steps = steps_from (start small) steps

-- the holds of the channel that the id opens, and the slots that hold the id; nothing where it opens none
abbrev pub seen : Channels → Rows → List ℕ
seen t rows = opened (opening_of t first send_right) [] (λ k. hold_count t k ∷ slots_with rows first ∷ [])

abbrev pub seen_in : Books → List ℕ
seen_in b = seen b.channels b.rows

-- pt-PT, bound to row 3
abbrev pub tag : Tag
tag = record { bytes = 112 ∷ 116 ∷ 45 ∷ 80 ∷ 84 ∷ [] }

abbrev pub one_variant : List Variant
one_variant = record { tag = tag; row = 3 } ∷ replicate 15 no_variant

abbrev pub one_created : Books
one_created = played (create false ∷ [])

abbrev pub one_given : Books
one_given = played (create false ∷ give 0 0 first ∷ [])

abbrev pub kept_runs : List Edge
kept_runs =
    edge (seen_in one_created) (0 ∷ 0 ∷ [])
    ∷ edge (seen_in one_given) (1 ∷ 1 ∷ [])
    -- "The same id in two slots counts twice"
    ∷ edge (seen_in (played (create false ∷ give 0 0 first ∷ give 9 3 first ∷ []))) (2 ∷ 2 ∷ [])
    -- a transfer keeps the total
    ∷ edge (seen_in (played (create false ∷ give 0 0 first ∷ transfer 0 0 53 3 ∷ []))) (1 ∷ 1 ∷ [])
    -- of five ids of a list four land; a spawn lets go of what stood in its row, and a leave of all
    ∷ edge (seen_in (played (create false ∷ spawn 5 (word ∷ word ∷ word ∷ word ∷ word ∷ []) ∷ []))) (4 ∷ 4 ∷ [])
    ∷ edge (seen_in (played (create false ∷ spawn 5 (word ∷ word ∷ word ∷ word ∷ []) ∷ spawn 5 (0 ∷ word ∷ []) ∷ []))) (1 ∷ 1 ∷ [])
    ∷ edge (seen_in (played (create false ∷ spawn 5 (word ∷ word ∷ word ∷ word ∷ []) ∷ leave 5 ∷ []))) (0 ∷ 0 ∷ [])
    -- a receive id and one of a task count for nothing, and a give that is refused may have any id
    ∷ edge (seen_in (played (create false ∷ give 0 0 first ∷ give 0 1 (id_of 1 1) ∷ give 0 2 (id_of 16384 1) ∷ give 0 0 (id_of 2 1) ∷ create false ∷ []))) (1 ∷ 1 ∷ [])
    -- a dispatcher's opening puts the send id in the extractor's row; another job's opening and closing leave the channel alone
    ∷ edge (seen_in (played (make 1 one_variant ∷ open_for tag 1 ∷ give 9 0 first ∷ []))) (2 ∷ 2 ∷ [])
    ∷ edge (seen_in (played (create false ∷ give 1 0 first ∷ make 1 one_variant ∷ open_for tag 1 ∷ close 0 ∷ []))) (1 ∷ 1 ∷ [])
    ∷ []

abbrev pub broken_runs : List Edge
broken_runs =
    -- "From fresh tables": rows of another run
    edge (seen one_created.channels one_given.rows) (0 ∷ 1 ∷ [])
    -- "only the joined steps, ..": a register and a release alone, not within a joined step
    ∷ edge (seen (register_of one_created.channels (word ∷ [])).table one_created.rows) (1 ∷ 0 ∷ [])
    ∷ edge (seen (release_of one_given.channels (holding first ∷ vacant_slot ∷ vacant_slot ∷ vacant_slot ∷ [])).table one_given.rows) (0 ∷ 1 ∷ [])
    -- and a seed, an install and a drain alone
    ∷ edge (seen one_created.channels (seed_of one_created.rows 0 (word ∷ [])).table) (0 ∷ 1 ∷ [])
    ∷ edge (seen one_created.channels (install_of one_created.rows 0 0 first).table) (0 ∷ 1 ∷ [])
    ∷ edge (seen one_given.channels (drain_of one_given.rows 0).table) (1 ∷ 0 ∷ [])
    -- "each endpoint id put in a slot came from an earlier creation": given, and spawned with, before the creation
    ∷ edge (seen_in (played (give 0 0 first ∷ create false ∷ []))) (0 ∷ 1 ∷ [])
    ∷ edge (seen_in (played (spawn 0 (word ∷ []) ∷ create false ∷ []))) (0 ∷ 1 ∷ [])
    ∷ []

abbrev pub PremisesNeeded : Type 0
PremisesNeeded = Agree (kept_runs ++ broken_runs)

-- "at most 65,535 successful creations": with one more, and the other premises kept, no hold and one slot. The run is too long to be computed.
-- It is that of `history` Ids `IdsReturn`, where channels are made and revoked until the first one's ids open again, with its send id given
-- to a row before the last creation
pub record BoundNeeded : Type 0 where
  pub books : Books
  pub reached : Reached books
  pub creations : length books.created ≡ 65536
  pub live : mailbox_live books.channels 0 ≡ true
  pub opens : opening_of books.channels first send_right ≡ Opens 0
  pub holds : hold_count books.channels 0 ≡ 0
  pub slots : slots_with books.rows first ≡ 1
