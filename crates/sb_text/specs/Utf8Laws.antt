-- What is true of the place where bytes stop being UTF-8.
use Rattle.std.specs.Prelude.{◌≡◌, ℕ, ◌+◌, ◌==◌, List, ◌++◌, ◌∷◌, take, count_by, None, Some, true}
use Rattle.std.specs.Str.{IsUtf8, IsValidUpTo}
use Rattle.sb_text.specs.LineLaws.{is_line}
use Rattle.sb_text.specs.Columns.{characters}
use Rattle.sb_text.specs.Tokens.{by_tokens}
use Rattle.sb_text.specs.Utf8.{first_place, not_utf8_place, place_after}

-- there is no such place if all bytes are UTF-8; else it is right after their longest front that is
abbrev pub NotUtf8PlaceTells : Type 0
NotUtf8PlaceTells =
    ((bs : List ℕ) → IsUtf8 bs → not_utf8_place bs ≡ None)
    × ((bs : List ℕ) (n : ℕ) → IsValidUpTo bs n → not_utf8_place bs ≡ Some (place_after first_place (take n bs)))

-- the place after bytes: its line is one more than the number of LF in them, and its column one more than the number of characters after the last LF
abbrev pub PlacesAreCounted : Type 0
PlacesAreCounted =
    ((bs : List ℕ) → (place_after first_place bs).line ≡ 1 + count_by (λ b. b == 10) bs)
    × ((line : List ℕ) → is_line line ≡ true → (place_after first_place line).column ≡ 1 + characters by_tokens line)
    × ((front line : List ℕ) → is_line line ≡ true
    → (place_after first_place (front ++ 10 ∷ line)).column ≡ 1 + characters by_tokens line)
