-- Where bytes are not UTF-8.
use Rattle.std.specs.Prelude.{ℕ, ◌+◌, ◌==◌, nat_lt, List, [], ◌∷◌, length, take, Option, None, Some, if◌then◌else◌}
use Rattle.std.specs.Str.Lossy.{utf8_valid_len}
use Rattle.sb_text.specs.Columns.{is_character}
use Rattle.sb_text.specs.Tokens.{by_tokens}

-- a place of a text: its line and its column, each from 1
pub record Place : Type 0 where
  pub line : ℕ
  pub column : ℕ

-- the place of the first character
abbrev pub first_place : Place
first_place = record { line = 1; column = 1 }

-- the place after one more byte: LF ends a line, and each character takes one column
abbrev pub place_past : Place → ℕ → Place
place_past place b =
    if b == 10 then record { line = place.line + 1; column = 1 }
    else (if is_character by_tokens b then record { line = place.line; column = place.column + 1 } else place)

-- the place after these bytes
abbrev pub place_after : Place → List ℕ → Place
place_after place [] = place
place_after place (b ∷ bs) = place_after (place_past place b) bs

-- where the bytes are not UTF-8: right after their longest front that is
abbrev pub not_utf8_place : List ℕ → Option Place
not_utf8_place bs =
    if nat_lt (utf8_valid_len bs) (length bs) then Some (place_after first_place (take (utf8_valid_len bs) bs)) else None
