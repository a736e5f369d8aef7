-- Document 01, "Ids and the two mint tables": an id's parts and its class.
use Rattle.std.specs.Prelude.{ℕ, ◌+◌, ◌*◌, ◌/◌, ◌%◌, ◌^◌, eqb}
use Rattle.laws.specs.Pick.{pick}
use Rattle.cap.specs.declared.CapId.{CapId}
use Rattle.cap.specs.declared.CapClass.{CapClass}
use Rattle.cap.specs.declared.CapClass.TheVariants.{Endpoint, Task, Irq, Invalid}

-- an id is index + 65,536 × generation
abbrev pub id_of : ℕ → ℕ → CapId
id_of index generation = record { raw = index + 65536 * generation }

abbrev pub index_of : CapId → ℕ
index_of c = c.raw % 65536

abbrev pub generation_of : CapId → ℕ
generation_of c = c.raw / 65536

-- bit k of a number, 0 or 1
abbrev pub bit : ℕ → ℕ → ℕ
bit k n = n / 2 ^ k % 2

-- the payload is the low 14 bits of the index
abbrev pub payload_of : CapId → ℕ
payload_of c = index_of c % 2 ^ 14

-- class by index bits 14 and 15: neither gives endpoint, 14 alone task, 15 alone IRQ, both Invalid
unfoldable pub class_of : CapId → CapClass
class_of c =
    pick (eqb (bit 15 (index_of c)) 1)
    (pick (eqb (bit 14 (index_of c)) 1) Invalid (Irq (payload_of c)))
    (pick (eqb (bit 14 (index_of c)) 1) (Task (payload_of c)) (Endpoint (payload_of c)))
