-- The text of a pattern.
use Rattle.std.specs.Prelude.{◌≡◌, ◌↔◌, ◌+◌, ◌&&◌, ◌||◌, ◌==◌, ◌≤◌, ◌<◌, ℕ, Bool, true, false, not, nat_le, nat_lt, List, [], ◌∷◌, length, drop, Option, None, Some, Result, Ok, Err, if◌then◌else◌}
use Rattle.std.specs.List.{flat_map}
use Rattle.sb_rule.specs.PatternLimits.{most_units}
use Rattle.sb_rule.specs.declared.cells.Cell.{Cell}
use Rattle.sb_rule.specs.declared.cells.Cell.TheVariants.{Lit, One, Any}
use Rattle.sb_rule.specs.declared.pattern_faults.PatternFault.{PatternFault}
use Rattle.sb_rule.specs.declared.pattern_faults.PatternFault.TheVariants.{DoubleStar, StarQuestion, TooLong}

-- `*`, `?`, or a unit that means itself
abbrev pub cell_of : ℕ → Cell
cell_of u = if u == 42 then Any else (if u == 63 then One else Lit u)

-- the cells of a text, in which `/?` is a question mark
abbrev pub cells_of : List ℕ → List Cell
cells_of [] = []
cells_of (u ∷ []) = cell_of u ∷ []
cells_of (u ∷ v ∷ us) = if u == 47 && v == 63 then Lit 63 ∷ cells_of us else cell_of u ∷ cells_of (v ∷ us)

-- the units begin with this one
abbrev pub begins : ℕ → List ℕ → Bool
begins v [] = false
begins v (u ∷ us) = u == v

-- the leftmost `*` before `*` or `?`, with its index, counted from n
abbrev pub star_fault : ℕ → List ℕ → Option PatternFault
star_fault n [] = None
star_fault n (u ∷ us) =
    if u == 42 && begins 42 us then Some (DoubleStar n)
    else (if u == 42 && begins 63 us then Some (StarQuestion n)
    else star_fault (n + 1) us)

-- what makes a text no pattern
abbrev pub fault_of : List ℕ → Option PatternFault
fault_of text = if nat_lt most_units (length text) then Some TooLong else star_fault 0 text

-- the fault, if there is one
abbrev pub unless : Option PatternFault → List Cell → Result (List Cell) PatternFault
unless None cells = Ok cells
unless (Some fault) cells = Err fault

-- the cells of a text, or its fault
abbrev pub reading : List ℕ → Result (List Cell) PatternFault
reading text = unless (fault_of text) (cells_of text)

-- how a cell is written
abbrev pub cell_text : Cell → List ℕ
cell_text (Lit u) = if u == 63 then 47 ∷ 63 ∷ [] else u ∷ []
cell_text One = 63 ∷ []
cell_text Any = 42 ∷ []

-- how cells are written
abbrev pub text_of : List Cell → List ℕ
text_of cells = flat_map cell_text cells

-- `?` comes first
abbrev pub begins_with_one : List Cell → Bool
begins_with_one [] = false
begins_with_one (One ∷ cells) = true
begins_with_one (Any ∷ cells) = false
begins_with_one (Lit u ∷ cells) = false

-- `*` or `?` comes first
abbrev pub begins_wild : List Cell → Bool
begins_wild [] = false
begins_wild (One ∷ cells) = true
begins_wild (Any ∷ cells) = true
begins_wild (Lit u ∷ cells) = false

-- no literal is `*`, no literal `/` comes before `?`, and no `*` before `*` or `?`
abbrev pub may_precede : Cell → List Cell → Bool
may_precede (Lit u) later = not (u == 42) && not (u == 47 && begins_with_one later)
may_precede One later = true
may_precede Any later = not (begins_wild later)

-- each cell may come before those after it
abbrev pub is_spellable : List Cell → Bool
is_spellable [] = true
is_spellable (cell ∷ later) = may_precede cell later && is_spellable later

-- cells are a pattern if each may come before those after it and their text has at most 256 units
abbrev pub is_pattern : List Cell → Bool
is_pattern cells = nat_le (length (text_of cells)) most_units && is_spellable cells

-- cells are a pattern exactly if their text is read as they are
abbrev pub PatternsAreRead : Type 0
PatternsAreRead = (cells : List Cell) → (is_pattern cells ≡ true) ↔ (reading (text_of cells) ≡ Ok cells)

-- the text of what was read is the text that was read
abbrev pub TextsComeBack : Type 0
TextsComeBack = (text : List ℕ) (cells : List Cell) → reading text ≡ Ok cells → text_of cells ≡ text

-- what was read is a pattern
abbrev pub ReadingGivesPatterns : Type 0
ReadingGivesPatterns = (text : List ℕ) (cells : List Cell) → reading text ≡ Ok cells → is_pattern cells ≡ true

-- the units begin with a `*` that is followed by this unit
abbrev pub begins_with_star_before : ℕ → List ℕ → Bool
begins_with_star_before unit [] = false
begins_with_star_before unit (u ∷ us) = u == 42 && begins unit us

-- a `*` is at this place, and this unit is after it
abbrev pub is_star_before : ℕ → List ℕ → ℕ → Bool
is_star_before unit text place = begins_with_star_before unit (drop place text)

-- a `*` is at this place, and `*` or `?` is after it
abbrev pub is_bad_star : List ℕ → ℕ → Bool
is_bad_star text place = is_star_before 42 text place || is_star_before 63 text place

-- no bad star is before this place
abbrev pub HasNoneBefore : List ℕ → ℕ → Type 0
HasNoneBefore text place = (before : ℕ) → before < place → is_bad_star text before ≡ false

-- a text is too long; or it is not, this star is the leftmost bad one, and `*` or `?` is after it
abbrev pub IsFaultOf : List ℕ → PatternFault → Type 0
IsFaultOf text TooLong = most_units < length text
IsFaultOf text (DoubleStar place) = (length text ≤ most_units) × (is_star_before 42 text place ≡ true) × HasNoneBefore text place
IsFaultOf text (StarQuestion place) = (length text ≤ most_units) × (is_star_before 63 text place ≡ true) × HasNoneBefore text place

-- the fault of a text is too many units, and else its leftmost bad star
abbrev pub FaultsAreLeftmost : Type 0
FaultsAreLeftmost = (text : List ℕ) (fault : PatternFault) → (reading text ≡ Err fault) ↔ IsFaultOf text fault

-- a text is a pattern exactly if it has at most 256 units and no bad star
abbrev pub FaultlessTextsAreRead : Type 0
FaultlessTextsAreRead = (text : List ℕ)
    → (reading text ≡ Ok (cells_of text)) ↔ ((length text ≤ most_units) × ((place : ℕ) → is_bad_star text place ≡ false))
