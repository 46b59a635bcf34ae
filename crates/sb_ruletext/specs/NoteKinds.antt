-- What is noted of a pattern on names.
use Rattle.std.specs.Prelude.{ℕ, ◌&&◌, ◌||◌, ◌==◌, Bool, false, List, [], ◌∷◌, Option, None, Some, if◌then◌else◌}
use Rattle.sb_ruletext.specs.declared.note_kinds.NoteKind.{NoteKind}
use Rattle.sb_ruletext.specs.declared.note_kinds.NoteKind.TheVariants.{UnescapedPrefix, MatchesNoName}

-- the units begin with `\??\`
abbrev pub begins_with_prefix : List ℕ → Bool
begins_with_prefix (a ∷ b ∷ c ∷ d ∷ us) = a == 92 && (b == 63 && (c == 63 && d == 92))
begins_with_prefix _ = false

-- the first unit is `\`, `*` or `?`, which match the `\` with which each name begins
abbrev pub may_begin_name : List ℕ → Bool
may_begin_name [] = false
may_begin_name (u ∷ us) = u == 92 || (u == 42 || u == 63)

-- what is noted of the pattern of these units
abbrev pub kind_of : List ℕ → Option NoteKind
kind_of units = if begins_with_prefix units then Some UnescapedPrefix else (if may_begin_name units then None else Some MatchesNoName)
