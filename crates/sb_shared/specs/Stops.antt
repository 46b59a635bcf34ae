-- The stop word.
use Rattle.std.specs.Prelude.{ℕ, Option, None, Some}
use Rattle.sb_shared.specs.declared.stops.Stop.{Stop}
use Rattle.sb_shared.specs.declared.stops.Stop.TheVariants.{Finished, OutOfMemory}

-- the number of a stop in the stop word; a run that is not to stop has 0 there
abbrev pub stop_number : Option Stop → ℕ
stop_number None = 0
stop_number (Some Finished) = 1
stop_number (Some OutOfMemory) = 2
