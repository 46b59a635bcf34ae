-- Why policies are not compared.
use Rattle.std.specs.Prelude.{◌≡◌, Bool, true, ⊤}
use Rattle.sb_compare.specs.declared.faults.ChangesFault.{ChangesFault}
use Rattle.sb_compare.specs.declared.faults.ChangesFault.TheVariants as changes
use Rattle.sb_compare.specs.declared.faults.CompareFault.{CompareFault}
use Rattle.sb_compare.specs.declared.faults.CompareFault.TheVariants as compare

-- calls are too complex only if the budget is exceeded
abbrev pub IsExceeded : Bool → ChangesFault → Type 0
IsExceeded exceeded changes.NoMemory = ⊤
IsExceeded exceeded (changes.TooComplex tag) = exceeded ≡ true

abbrev pub WasExceeded : Bool → CompareFault → Type 0
WasExceeded exceeded compare.NoMemory = ⊤
WasExceeded exceeded (compare.TooComplex policy tag) = exceeded ≡ true
