-- How long a schedule may be.
use Rattle.std.specs.Prelude.{ℕ}

-- the most steps
abbrev pub most_steps : ℕ
most_steps = 100000

-- the most rounds
abbrev pub most_rounds : ℕ
most_rounds = 20000000

-- the most bytes of a text that is read from a file
abbrev pub most_bytes : ℕ
most_bytes = 4194304
