-- The cells at which a pattern is cut into runs.
use Rattle.std.specs.Prelude.{Bool, true, false}
use Rattle.sb_rule.specs.declared.cells.Cell.{Cell}
use Rattle.sb_rule.specs.declared.cells.Cell.TheVariants.{Lit, One, Any}

-- a `*`
abbrev pub is_any : Cell → Bool
is_any Any = true
is_any One = false
is_any (Lit u) = false
