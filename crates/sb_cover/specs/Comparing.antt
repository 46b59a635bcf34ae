-- What was collected from conditions.
use Rattle.std.specs.Prelude.{◌≡◌, List, ◌++◌}
use Rattle.sb_cover.specs.declared.bits.Comparison.{Comparison}

-- a list has some more at its end
abbrev pub HasMore : List Comparison → List Comparison → Type 0
HasMore old new = (more : List Comparison) × (new ≡ old ++ more)
