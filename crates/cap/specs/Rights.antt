-- Document 01, "Ids and the two mint tables": rights, send 1, receive 2, IRQ 4, as flags in one number.
use Rattle.std.specs.Prelude.{Bool, eqb}
use Rattle.std.specs.Int.Bits.{bit_and, bit_or}
use Rattle.cap.specs.declared.CapRights.{CapRights}

abbrev pub no_rights : CapRights
no_rights = record { bits = 0 }

abbrev pub send_right : CapRights
send_right = record { bits = 1 }

abbrev pub receive_right : CapRights
receive_right = record { bits = 2 }

abbrev pub irq_right : CapRights
irq_right = record { bits = 4 }

-- every right of b is one of a
abbrev pub contains_all : CapRights → CapRights → Bool
contains_all a b = eqb (bit_and a.bits b.bits) b.bits

-- the rights of either
abbrev pub union_of : CapRights → CapRights → CapRights
union_of a b = record { bits = bit_or a.bits b.bits }
