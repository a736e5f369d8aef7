-- Document 01, "What must change shape": `register_holds` takes the held list also as a lent slice of slot records, without 21.
use Rattle.std.specs.Prelude.{List, Err, Ok, Result, ⊤}
use Rattle.cap.specs.declared.slot.Slot.{Slot}
use Rattle.ipc_rules.specs.Holds.{registered_all}
use Rattle.ipc_sound.specs.Border.{guarded}
use Rattle.ipc_rules.specs.declared.state.Table.{Table}
use Rattle.ipc_rules.specs.declared.answers.RegisterError.TheVariants.{BadTable}
use Rattle.ipc_rules.specs.declared.answers.RegisterError.{RegisterError}
use Rattle.shown.specs.declared.Answered.{Answered}

-- the rule: BadTable first of all (27), and then a hold for each present id that opens for send
abbrev pub register_slots : Table → List Slot → Answered (Result ⊤ RegisterError) Table
register_slots t slots = guarded t (record { answer = Err BadTable; table = t }) (record { answer = Ok tt; table = registered_all t slots })
