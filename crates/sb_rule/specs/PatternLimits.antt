-- How long a pattern may be.
use Rattle.std.specs.Prelude.{ℕ}

-- the most units of a pattern's text, and of a string with which a policy compares
abbrev pub most_units : ℕ
most_units = 256
