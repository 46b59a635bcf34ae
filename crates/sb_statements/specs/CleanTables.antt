-- Which channels of a script are clean, as a table: for each target a list that says it of each channel.
use Rattle.std.specs.Prelude.{◌≡◌, ◌<◌, ℕ, Bool, true, not, ◌&&◌, List, [], slice_index_or}
use Rattle.sb_statements.specs.Limits.{most_targets, most_channels}
use Rattle.std.specs.List.{list_any}
use Rattle.sb_statements.specs.PlacedStatements.{Placed}
use Rattle.sb_statements.specs.Scripts.{is_clean, writes_channel}
use Rattle.sb_statements.specs.declared.scripts.Script.{Script}

-- whether a channel is clean; one that is not there is
abbrev pub clean_at : List (List Bool) → ℕ → ℕ → Bool
clean_at table target channel = slice_index_or (slice_index_or table target []) channel true

-- channels that are written to are no longer clean, and the others stay
abbrev pub ClearsWritten : (ℕ → ℕ → Bool) → List (List Bool) → List (List Bool) → Type 0
ClearsWritten writes old new = (target channel : ℕ) → target < most_targets → channel < most_channels
    → clean_at new target channel ≡ (clean_at old target channel && not (writes target channel))

-- some of these statements is a store or an exchange that names a word of this channel
abbrev pub some_writes : List Placed → ℕ → ℕ → Bool
some_writes statements target channel = list_any (λ p. writes_channel target channel p.statement) statements

-- the table says clean of exactly the clean channels
abbrev pub IsCleanTable : Script → List (List Bool) → Type 0
IsCleanTable script table = (target channel : ℕ) → target < most_targets → channel < most_channels
    → clean_at table target channel ≡ is_clean script target channel
