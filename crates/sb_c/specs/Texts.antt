-- The texts of literals for C.
use Rattle.std.specs.Prelude.{◌≡◌, ◌<◌, ℕ, true, false, not, List, length, Option, Some}
use Rattle.sb_host.specs.Literals.{IsPatternLiteral, IsStringLiteral, has_pattern_literal, has_star, has_string_literal}
use Rattle.sb_c.specs.declared.statuses.Status.{Status}
use Rattle.sb_c.specs.declared.statuses.Status.TheVariants as status

-- the text of a literal needs more room than this
pub record NeedsRoom (Is : List ℕ → Type 0) (room : ℕ) : Type 0 where
  pub text : List ℕ
  pub is : Is text
  pub longer : room < length text

-- the status of a text that means exactly this string: it is at the front of the room and has this many
-- bytes, it needs more room, there is none, or there was no memory for it
abbrev pub IsStringWritten : List ℕ → ℕ → ℕ → List ℕ → Option Status → Type 0
IsStringWritten us room count front (Some status.Ok) = IsStringLiteral us front × (length front ≡ count)
IsStringWritten us room count front (Some status.NoRoom) = NeedsRoom (IsStringLiteral us) room
IsStringWritten us room count front (Some status.NoLiteral) = has_string_literal us ≡ false
IsStringWritten us room count front (Some status.NoMemory) = has_string_literal us ≡ true
IsStringWritten us room count front _ = ⊥

-- the same of a pattern; a string without a `*` may need memory before it is known whether it has a literal
abbrev pub IsPatternWritten : List ℕ → ℕ → ℕ → List ℕ → Option Status → Type 0
IsPatternWritten us room count front (Some status.Ok) = IsPatternLiteral us front × (length front ≡ count)
IsPatternWritten us room count front (Some status.NoRoom) = NeedsRoom (IsPatternLiteral us) room
IsPatternWritten us room count front (Some status.NoLiteral) = has_pattern_literal us ≡ false
IsPatternWritten us room count front (Some status.NoMemory) = not (has_star us) ≡ true
IsPatternWritten us room count front _ = ⊥
