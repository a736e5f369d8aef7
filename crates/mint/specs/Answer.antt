-- Document 01, "Every no, by number": the numbers of what both mint tables answer, and the values shown.
use Rattle.std.specs.Prelude.{List, [], ◌∷◌, ℕ, Result}
use Rattle.laws.specs.Refusals as no
use Rattle.shown.specs.Shown.{of_either}
use Rattle.cap.specs.Slot.{id_values}
use Rattle.cap.specs.declared.CapId.{CapId}
use Rattle.mint.specs.declared.MintError.{MintError}
use Rattle.mint.specs.declared.MintError.TheVariants.{NoFreeEntry}
use Rattle.mint.specs.declared.LookupError.{LookupError}
use Rattle.mint.specs.declared.LookupError.TheVariants.{BadCap}

abbrev pub mint_error_number : MintError → ℕ
mint_error_number NoFreeEntry = no.no_free_entry

abbrev pub lookup_error_number : LookupError → ℕ
lookup_error_number BadCap = no.bad_cap

abbrev pub mint_number : Result CapId MintError → ℕ
mint_number = of_either (λ _. no.none) mint_error_number

-- a mint shows the id
abbrev pub mint_values : Result CapId MintError → List ℕ
mint_values = of_either id_values (λ _. [])

abbrev pub lookup_number : Result ℕ LookupError → ℕ
lookup_number = of_either (λ _. no.none) lookup_error_number

-- a lookup shows the stored number
abbrev pub lookup_values : Result ℕ LookupError → List ℕ
lookup_values = of_either (λ n. n ∷ []) (λ _. [])
