-- The table of runs that keep the premises and that break one, `premises_needed`, by one test that is computed over the whole table. Assumes nothing.
use mathlib.Core.Path.{◌≡◌, refl}
use mathlib.Core.Bool.{true}
use mathlib.Core.List.{◌++◌}
use Rattle.laws.specs.Pick.{pick}
use Rattle.laws.specs.Every.{every}
use Rattle.laws.specs.Search.{found, lowest, lowest_free}
use Rattle.cap.specs.Id.{class_of}
use Rattle.cap.specs.Word.{read_word, or_vacant, word_of, slots_of}
use Rattle.capslots.specs.Rows.{seed_of, install_of, drain_of, empty_slot_of, forget_in, forgotten_of}
use Rattle.capslots.specs.Transfer.{transfer_of}
use Rattle.mint.specs.Generation.{next_generation}
use Rattle.ipc_rules.specs.Counts.{raised}
use Rattle.ipc_rules.specs.Create.{create_of}
use Rattle.ipc_rules.specs.Holds.{registered, registered_all, register_of, released, released_all, release_of}
use Rattle.ipc_rules.specs.Opening.{attempt_of, told, open_of, open_any, opening_of, any_right_of, hold_of, opened}
use Rattle.joined.specs.Steps.{spawn_of, leave_of, give_of, installs}
use Rattle.ipc_rules.specs.Revoke.{killed, wiped, revoke_of}
use Rattle.dispatcher_rules.specs.Bound.{bound_test}
use Rattle.dispatcher_rules.specs.Make.{make_of}
use Rattle.dispatcher_rules.specs.Open.{creates, gives_both, open_job_of}
use Rattle.dispatcher_rules.specs.Close.{end_of, close_job_of}
use Rattle.history.proofs.Edges.{same, all_agree, agree_by}
use Rattle.tally.specs.Count.{sum_over, over_slots}
use Rattle.tally.specs.Runs.{after, if_created, if_opened}
use Rattle.tally.specs.Needed.{steps_from, kept_runs, broken_runs, PremisesNeeded}

computed : all_agree (kept_runs ++ broken_runs) ≡ true
unfolding all_agree same steps_from after if_created sum_over over_slots pick every found lowest lowest_free read_word or_vacant word_of slots_of seed_of install_of drain_of next_generation raised create_of registered registered_all register_of released released_all release_of open_of opening_of hold_of opened spawn_of leave_of give_of installs transfer_of class_of make_of bound_test open_job_of creates gives_both close_job_of end_of revoke_of killed wiped any_right_of open_any empty_slot_of forget_in forgotten_of if_opened attempt_of told
computed = refl

pub premises_needed : PremisesNeeded
premises_needed = agree_by (kept_runs ++ broken_runs) computed
