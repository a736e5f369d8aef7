-- What a read of all that comes answers.
use Rattle.std.specs.Prelude.{ℕ}
use Rattle.std.specs.Prelude.{Result, Ok, Err}
use Rattle.standard.specs.declared.Broken.{Broken}

-- how many bytes came, whether a read failed after them or not
abbrev pub got_of : Result ℕ Broken → ℕ
got_of (Ok n) = n
got_of (Err e) = e.got
