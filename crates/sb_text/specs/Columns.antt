-- Where on a line a fault is, and in which column that is.
use Rattle.std.specs.Prelude.{ℕ, ◌+◌, ◌-◌, Bool, true, not, ◌&&◌, nat_le, nat_lt, List, [], ◌∷◌, length, take, count_by, Result, Err, if◌then◌else◌}
use Rattle.sb_text.specs.Tokens.{Lexemes, Next, End, Quoted, place_due}
use Rattle.sb_text.specs.declared.columns.Layout.{Layout}
use Rattle.sb_text.specs.declared.columns.Layout.TheVariants.{Text, Bytes}
use Rattle.sb_text.specs.declared.refusals.TokenFault.{TokenFault}

-- ---- the places of faults

-- a fault at this place
abbrev pub fails_at : {A K : Type 0} → ℕ → K → Result A (TokenFault K)
fails_at place kind = Err (record { place = place; kind = kind })

-- a fault at the token that is due, or, if there is none, where the last token of the line ends
abbrev pub fails : {A K : Type 0} → Lexemes → K → Result A (TokenFault K)
fails tokens kind = fails_at (place_due tokens) kind

-- how many UTF-16 units the character has whose UTF-8 begins with this byte
abbrev pub units_of : ℕ → ℕ
units_of b = if nat_lt b 240 then 1 else 2

-- ---- columns

-- whether a character begins with this byte: in UTF-8 each but the continuation bytes 128 to 191, in bytes each
abbrev pub is_character : Layout → ℕ → Bool
is_character Text b = not (nat_le 128 b && nat_lt b 192)
is_character Bytes b = true

-- how many characters there are
abbrev pub characters : Layout → List ℕ → ℕ
characters layout bytes = count_by (is_character layout) bytes

-- how many bytes are before the character of this UTF-16 unit
abbrev pub bytes_before : ℕ → List ℕ → ℕ
bytes_before unit [] = 0
bytes_before unit (b ∷ bs) =
    if is_character Text b
    then (if nat_le (units_of b) unit then 1 + bytes_before (unit - units_of b) bs else 0)
    else 1 + bytes_before unit bs

-- the place of the character of this UTF-16 unit between the quotes of the token that is due
abbrev pub place_within : ℕ → Lexemes → ℕ
place_within unit (Next place (Quoted q) tokens) = place - (1 + bytes_before unit q)
place_within unit tokens = place_due tokens

-- a fault at the character of this unit in the quoted token that is due
abbrev pub fails_within : {A K : Type 0} → Lexemes → ℕ → K → Result A (TokenFault K)
fails_within tokens unit kind = fails_at (place_within unit tokens) kind

-- what is before a place of a line
abbrev pub before : List ℕ → ℕ → List ℕ
before line place = take (length line - place) line

-- the column of a place of a line, from 1: one more than the number of characters before it
abbrev pub column_at : Layout → List ℕ → ℕ → ℕ
column_at layout line place = 1 + characters layout (before line place)
