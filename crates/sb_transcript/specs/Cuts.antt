-- Bytes cut at separators, but not at those between quotes.
use Rattle.std.specs.Prelude.{ℕ, Bool, false, List, [], ◌∷◌, ◌++◌, ◌==◌, if◌then◌else◌}
use Rattle.sb_transcript.specs.declared.cuts.Place.{Place}
use Rattle.sb_transcript.specs.declared.cuts.Place.TheVariants.{Plain, InQuotes, AfterBackslash}

-- a separator outside of quotes
abbrev pub is_separator : ℕ → Place → ℕ → Bool
is_separator separator Plain b = b == separator
is_separator separator InQuotes b = false
is_separator separator AfterBackslash b = false

-- the place of the byte after this one
abbrev pub place_after : Place → ℕ → Place
place_after Plain b = if b == 34 then InQuotes else Plain
place_after InQuotes b = if b == 34 then Plain else (if b == 92 then AfterBackslash else InQuotes)
place_after AfterBackslash b = InQuotes

-- the fields of bytes, the first of which has these bytes so far
abbrev pub cut : ℕ → Place → List ℕ → List ℕ → List (List ℕ)
cut separator place field [] = field ∷ []
cut separator place field (b ∷ bs) =
    if is_separator separator place b then field ∷ cut separator Plain [] bs
    else cut separator (place_after place b) (field ++ b ∷ []) bs

-- the fields after a separator, none if there is no separator
abbrev pub fields_after : ℕ → List ℕ → List (List ℕ)
fields_after separator [] = []
fields_after separator (b ∷ bs) = cut separator Plain [] bs
