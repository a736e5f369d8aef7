-- Document 01, "The operation log", operations 13 to 18: the calls on the rows. Rows and slots are one byte.
use Rattle.std.specs.Prelude.{Bool, List, ℕ, Result, ⊤}
use Rattle.laws.specs.Refusals as no
use Rattle.cap.specs.Slot.{slot_number, slot_values}
use Rattle.capslots.specs.Answers.{seed_number, seed_values, install_number, install_values, transfer_number, transfer_values, drain_values, holds_values}
use Rattle.capslots.specs.Rows.{get_of, holds_of, seed_of, install_of, drain_of}
use Rattle.capslots.specs.Transfer.{transfer_of}
use Rattle.capslots.specs.declared.Drained.{Drained}
use Rattle.logread.specs.Little.{byte_at}
use Rattle.logread.specs.Lists.{list_words}
use Rattle.operations.specs.Done.{Done, done, with_rows}
use Rattle.operations.specs.Operands.{id_at}
use Rattle.operations.specs.declared.Tables.{Tables}
use Rattle.cap.specs.declared.CapId.{CapId}
use Rattle.cap.specs.declared.slot.SlotError.{SlotError}
use Rattle.cap.specs.declared.word.WordError.{WordError}
use Rattle.shown.specs.declared.Answered.{Answered}
use Rattle.capslots.specs.declared.Table.{Table as Rows}
use Rattle.capslots.specs.declared.answers.InstallError.{InstallError}
use Rattle.capslots.specs.declared.answers.TransferError.{TransferError}

-- ---- what a call's answer and table come to
abbrev pub after_get : Tables → Result CapId SlotError → Done
after_get t a = done (slot_number a) (slot_values a) t

abbrev pub after_seed : Tables → Answered (Result ⊤ WordError) Rows → Done
after_seed t r = done (seed_number r.answer) (seed_values r.answer) (with_rows t r.table)

abbrev pub after_install : Tables → Answered (Result ⊤ InstallError) Rows → Done
after_install t r = done (install_number r.answer) (install_values r.answer) (with_rows t r.table)

abbrev pub after_transfer : Tables → Answered (Result ⊤ TransferError) Rows → Done
after_transfer t r = done (transfer_number r.answer) (transfer_values r.answer) (with_rows t r.table)

-- nothing refuses a drain, nor the question whether a row holds an id
abbrev pub after_drain : Tables → Drained → Done
after_drain t r = done no.none (drain_values r.slots) (with_rows t r.table)

abbrev pub after_holds : Tables → Bool → Done
after_holds t b = done no.none (holds_values b) t

-- ---- the operations
-- 13, get (row, slot)
unfoldable pub get_done : List ℕ → Tables → Done
get_done log t = after_get t (get_of t.rows (byte_at log 3) (byte_at log 4))

-- 14, holds (row, id)
unfoldable pub holds_done : List ℕ → Tables → Done
holds_done log t = after_holds t (holds_of t.rows (byte_at log 3) (id_at log 4))

-- 15, seed (row, list)
unfoldable pub seed_done : List ℕ → Tables → Done
seed_done log t = after_seed t (seed_of t.rows (byte_at log 3) (list_words log 4))

-- 16, install (row, slot, id)
unfoldable pub install_done : List ℕ → Tables → Done
install_done log t = after_install t (install_of t.rows (byte_at log 3) (byte_at log 4) (id_at log 5))

-- 17, transfer (from row, from slot, to row, to slot)
unfoldable pub transfer_done : List ℕ → Tables → Done
transfer_done log t = after_transfer t (transfer_of t.rows (byte_at log 3) (byte_at log 4) (byte_at log 5) (byte_at log 6))

-- 18, drain (row)
unfoldable pub drain_done : List ℕ → Tables → Done
drain_done log t = after_drain t (drain_of t.rows (byte_at log 3))
