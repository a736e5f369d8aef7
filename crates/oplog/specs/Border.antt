-- Document 01, refusal 27: a step that is lent an unsound channel table refuses it first of all, writes nothing and keeps the tables.
use Rattle.std.specs.Prelude.{List, ℕ, Err}
use Rattle.ipc_sound.specs.Border.{guarded}
use Rattle.operations.specs.declared.Tables.{Tables}
use Rattle.oplog.specs.Step.{refused_step, step_of, step_out}
use Rattle.oplog.specs.declared.StepError.TheVariants.{BadTable}
use Rattle.oplog.specs.declared.Stepped.{Stepped}

abbrev pub step_call : List ℕ → ℕ → List ℕ → ℕ → Tables → Stepped
step_call log number out at t = guarded t.channels (refused_step at t (Err BadTable)) (step_of log number out at t)

abbrev pub step_leaves : List ℕ → ℕ → List ℕ → ℕ → Tables → List ℕ
step_leaves log number out at t = guarded t.channels out (step_out log number out at t)
