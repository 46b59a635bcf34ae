-- Lines that are put one after another, up to a limit.
use Rattle.std.specs.Prelude.{ℕ, zero, suc, ◌+◌, Bool, true, false, nat_lt, List, [], ◌∷◌, ◌++◌, codes, if◌then◌else◌}
use Rattle.sb_outside.specs.Outside.{joined}

-- the most lines of a listing
abbrev pub most_lines : ℕ
most_lines = 4000000

-- the last line, if some were left out
abbrev pub more_line : List ℕ
more_line = codes "more\n"

-- lines, and after the first `most` of them a last one in place of the others
abbrev pub capped : ℕ → List (List ℕ) → List (List ℕ)
capped most [] = []
capped zero (line ∷ lines) = more_line ∷ []
capped (suc most) (line ∷ lines) = line ∷ capped most lines

-- the text of a listing of these lines
abbrev pub listed : List (List ℕ) → List ℕ
listed lines = joined (capped most_lines lines)

-- what is listed so far: the text of the lines, how many they are, and whether some were left out
pub record Listed : Type 0 where
  pub text : List ℕ
  pub count : ℕ
  pub more : Bool

-- no line
abbrev pub nothing_listed : Listed
nothing_listed = record { text = []; count = 0; more = false }

-- one more line, which is left out if there are `most` already
abbrev pub with_line : ℕ → Listed → List ℕ → Listed
with_line most l line =
    if nat_lt l.count most then record { text = l.text ++ line; count = l.count + 1; more = l.more } else record l { more = true }

-- with these lines, one after another
abbrev pub with_lines : ℕ → Listed → List (List ℕ) → Listed
with_lines most l [] = l
with_lines most l (line ∷ lines) = with_lines most (with_line most l line) lines

-- the text of what is listed
abbrev pub text_of : Listed → List ℕ
text_of l = if l.more then l.text ++ more_line else l.text
