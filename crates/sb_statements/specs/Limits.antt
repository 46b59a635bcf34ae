-- How large a script may be.
use Rattle.std.specs.Prelude.{ℕ}

-- the most objects that there are at the start
abbrev pub most_start_lines : ℕ
most_start_lines = 4096

-- the most targets of a script
abbrev pub most_targets : ℕ
most_targets = 8

-- the most channels of a target
abbrev pub most_channels : ℕ
most_channels = 8

-- the most threads of a target
abbrev pub most_threads : ℕ
most_threads = 4

-- the most statements of a thread
abbrev pub most_statements : ℕ
most_statements = 4096

-- the most loads of a wait statement, and the greatest patience of a script
abbrev pub most_patience : ℕ
most_patience = 1000000

-- the last place of a word in its channel: the state is at 0, and the 64 words of a block follow
abbrev pub last_place : ℕ
last_place = 64
