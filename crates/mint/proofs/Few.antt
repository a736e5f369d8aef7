-- What a line shows of a mint table's answers is at most twelve values. Assumes nothing.
use Rattle.std.specs.Prelude.{Err, Ok, Result, ℕ}
use lib.Dec.{lit≤}
use Rattle.shown.proofs.Few.{Few}
use Rattle.mint.specs.Answer.{mint_values, lookup_values}
use Rattle.mint.specs.declared.MintError.TheVariants.{NoFreeEntry}
use Rattle.mint.specs.declared.LookupError.TheVariants.{BadCap}
use Rattle.cap.specs.declared.CapId.{CapId}
use Rattle.mint.specs.declared.MintError.{MintError}
use Rattle.mint.specs.declared.LookupError.{LookupError}

pub mint_few : (a : Result CapId MintError) → Few (mint_values a)
mint_few (Ok c) = lit≤ tt
mint_few (Err NoFreeEntry) = lit≤ tt

pub lookup_few : (a : Result ℕ LookupError) → Few (lookup_values a)
lookup_few (Ok n) = lit≤ tt
lookup_few (Err BadCap) = lit≤ tt
