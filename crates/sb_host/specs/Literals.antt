-- The texts of literals: what is written between quotes in a policy so that it means exactly a given string.
use Rattle.std.specs.Prelude.{◌≡◌, ℕ, Bool, true, false, ◌==◌, List, map, Ok}
use Rattle.std.specs.List.{flat_map, list_all, list_any}
use Rattle.std.specs.Str.{IsUtf8}
use Rattle.sb_base.specs.Wide.{is_same}
use Rattle.sb_base.specs.declared.refusals.Refused.{Refused}
use Rattle.sb_base.specs.declared.refusals.Refused.TheVariants.{Fault, NoMemory}
use Rattle.sb_text.specs.TokenLaws.{is_quoted_byte}
use Rattle.sb_text.specs.Tokens.{string_of}
use Rattle.sb_rule.specs.Matching.{matches}
use Rattle.sb_rule.specs.PatternReading.{cell_text, reading}
use Rattle.sb_rule.specs.WellMade.{is_like_text, is_policy_text}
use Rattle.sb_rule.specs.declared.cells.Cell.{Cell}
use Rattle.sb_rule.specs.declared.cells.Cell.TheVariants.{Lit}
use Rattle.sb_host.specs.declared.literals.NoLiteral.{NoLiteral}

-- the string can be written after `is`
abbrev pub has_string_literal : List ℕ → Bool
has_string_literal us = is_policy_text us

-- the cells of a string, each a literal
abbrev pub literal_cells : List ℕ → List Cell
literal_cells us = map Lit us

-- what is written of these cells: a question mark as `/?`, and any other unit as it is
abbrev pub literal_text : List ℕ → List ℕ
literal_text us = flat_map (λ u. cell_text (Lit u)) us

-- the string can be written as a pattern without wildcards: it has no `*`, and its text can be written between quotes
abbrev pub has_pattern_literal : List ℕ → Bool
has_pattern_literal us = is_like_text (literal_cells us)

-- the bytes are UTF-8 that can be written between quotes
pub record CanBeQuoted (text : List ℕ) : Type 0 where
  pub utf8 : IsUtf8 text
  pub quoted : list_all is_quoted_byte text ≡ true

-- after `is` the text means this string
pub record IsStringLiteral (us text : List ℕ) : Type 0 where
  pub can_be_quoted : CanBeQuoted text
  pub means : string_of text ≡ us

-- as a pattern the text is read, and matches exactly what is the same as this string
pub record IsPatternLiteral (us text : List ℕ) : Type 0 where
  pub can_be_quoted : CanBeQuoted text
  pub read : reading (string_of text) ≡ Ok (literal_cells us)
  pub matches_the_same : (other : List ℕ) → matches (literal_cells us) other ≡ is_same other us

-- there is no literal, or none was written though there was one, or might have been, since there was no memory
abbrev pub IsNoLiteral : Bool → Bool → Refused NoLiteral → Type 0
IsNoLiteral might has (Fault fault) = has ≡ false
IsNoLiteral might has NoMemory = might ≡ true

-- a string without a `*` may have a literal as a pattern
abbrev pub has_star : List ℕ → Bool
has_star us = list_any (λ u. u == 42) us
