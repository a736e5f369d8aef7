-- A dispatcher's parts as when fresh, what stands at a place of it, and how a place is written anew.
use Rattle.std.specs.Prelude.{true, false, List, [], ◌∷◌, ℕ, get_or, set, replicate}
use Rattle.ipc_rules.specs.declared.state.Channel.{Channel}
use Rattle.dispatcher_rules.specs.declared.state.Tag.{Tag}
use Rattle.dispatcher_rules.specs.declared.state.Variant.{Variant}
use Rattle.dispatcher_rules.specs.declared.state.Job.{Job}
use Rattle.dispatcher_rules.specs.declared.state.Dispatcher.{Dispatcher}

-- ---- as when fresh
abbrev pub no_tag : Tag
no_tag = record { bytes = 0 ∷ 0 ∷ 0 ∷ 0 ∷ 0 ∷ [] }

abbrev pub no_variant : Variant
no_variant = record { tag = no_tag; row = 0 }

-- two ids that open nothing in a sound table: no generation is 0
abbrev pub no_ends : Channel
no_ends = record { send = record { raw = 0 }; recv = record { raw = 0 } }

-- a place that is not open
abbrev pub no_job : Job
no_job = record { «open» = false; ends = no_ends; tag = no_tag }

-- a dispatcher with variants, and no place open
abbrev pub fresh_dispatcher : ℕ → List Variant → Dispatcher
fresh_dispatcher n vs = record { count = n; variants = vs; jobs = replicate 16 no_job }

-- ---- what stands at a place: past the end nothing, a tag of no bytes
abbrev pub variant_in : List Variant → ℕ → Variant
variant_in vs i = get_or vs i (record { tag = record { bytes = [] }; row = 0 })

abbrev pub job_at : Dispatcher → ℕ → Job
job_at d p = get_or d.jobs p (record { «open» = false; ends = no_ends; tag = record { bytes = [] } })

-- the row that variant i is bound to
abbrev pub row_of : Dispatcher → ℕ → ℕ
row_of d i = (variant_in d.variants i).row

-- ---- a job as an opening makes it, and a place with another
abbrev pub open_job : Channel → Tag → Job
open_job ends tag = record { «open» = true; ends = ends; tag = tag }

abbrev pub with_job : Dispatcher → ℕ → Job → Dispatcher
with_job d p j = record { count = d.count; variants = d.variants; jobs = set d.jobs p j }
