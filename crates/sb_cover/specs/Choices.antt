-- Values of a parameter that stand for all its values.
use Rattle.std.specs.Prelude.{◌≡◌, ◌⊎◌, ◌≤◌, ◌<◌, ◌^◌, ℕ, Bool, true, false, nat_lt, List, [], ◌∷◌, ◌++◌, map, length, slice_index}
use Rattle.sb_call.specs.Arguments.{arg_at, fits_kind}
use Rattle.sb_call.specs.declared.arguments.Arg.{Arg}
use Rattle.sb_call.specs.declared.arguments.Arg.TheVariants as arg
use Rattle.sb_call.specs.declared.tags.ParamKind.{ParamKind}
use Rattle.sb_cover.specs.AskedConds.{met}
use Rattle.sb_cover.specs.Modes.{accepts, is_accepting}
use Rattle.sb_cover.specs.Pruning.{IsLabel}
use Rattle.sb_cover.specs.Shown.{is_shown}
use Rattle.sb_cover.specs.TextMachines.{mode_in, positions_in, told}
use Rattle.sb_cover.specs.declared.asked_conds.AskedCond.{AskedCond}
use Rattle.sb_cover.specs.declared.open_rules.OpenQuestion.{OpenQuestion}
use Rattle.sb_explore.specs.Exploring.{list_at}
use Rattle.sb_rule.specs.declared.cells.Cell.{Cell}

-- a number has 64 bits
abbrev pub is_passable : Arg → Bool
is_passable (arg.Num number) = nat_lt number (2 ^ 64)
is_passable (arg.Str units) = true

-- a string that a script can have; it can have each number
abbrev pub is_shown_arg : Arg → Bool
is_shown_arg (arg.Num number) = true
is_shown_arg (arg.Str units) = is_shown units

-- how many units a string has; a number has none
abbrev pub units_in : Arg → ℕ
units_in (arg.Num number) = 0
units_in (arg.Str units) = length units

-- the label decides as the argument does
abbrev pub Decides : List AskedCond → List OpenQuestion → Arg → List ℕ → Type 0
Decides conds questions value label = IsLabel (met conds value) questions label

-- values of a kind, each with its label; each other value of the kind has one of these labels, with a value that is not longer
pub record AreChoices (conds : List AskedCond) (kind : ParamKind) (questions : List OpenQuestion) (values : List Arg) (labels : List (List ℕ)) : Type 0 where
  pub as_many : length values ≡ length labels
  pub fit : (k : ℕ) → k < length labels → fits_kind kind (arg_at values k) ≡ true
  pub each : (k : ℕ) → k < length labels → Decides conds questions (arg_at values k) (list_at labels k)
  pub all : (other : Arg) → is_passable other ≡ true → fits_kind kind other ≡ true
      → (k : ℕ) × (k < length labels) × Decides conds questions other (list_at labels k) × (units_in (arg_at values k) ≤ units_in other)

-- the same of strings that are accepted
pub record AreTexts (conds : List AskedCond) (first : ℕ) (questions : List OpenQuestion) (values labels : List (List ℕ)) : Type 0 where
  pub as_many : length values ≡ length labels
  pub fit : (k : ℕ) → k < length labels → accepts first (list_at values k) ≡ true
  pub each : (k : ℕ) → k < length labels → Decides conds questions (arg.Str (list_at values k)) (list_at labels k)
  pub all : (units : List ℕ) → accepts first units ≡ true
      → (k : ℕ) × (k < length labels) × Decides conds questions (arg.Str units) (list_at labels k) × (length (list_at values k) ≤ length units)

-- the same of numbers of a width
pub record AreNumberChoices (conds : List AskedCond) (width : ℕ) (questions : List OpenQuestion) (values : List ℕ) (labels : List (List ℕ)) : Type 0 where
  pub as_many : length values ≡ length labels
  pub fit : (k : ℕ) → k < length labels → slice_index values k < 2 ^ width
  pub each : (k : ℕ) → k < length labels → Decides conds questions (arg.Num (slice_index values k)) (list_at labels k)
  pub all : (n : ℕ) → n < 2 ^ width → (k : ℕ) × (k < length labels) × Decides conds questions (arg.Num n) (list_at labels k)

-- the label is put, or was there
abbrev pub IsNoted : Bool → List ℕ → List (List ℕ) → List (List ℕ) → Type 0
IsNoted is_new label old new =
    ((is_new ≡ true) × (new ≡ old ++ label ∷ [])) ⊎ ((is_new ≡ false) × (new ≡ old) × (k : ℕ) × (k < length old) × (list_at old k ≡ label))

-- of the first states those that accept have their labels, with values that are not longer than their words
pub record ArePicked (conds : List AskedCond) (patterns : List (List Cell)) (questions : List OpenQuestion) (first : ℕ) (words states : List (List ℕ)) (count : ℕ) (values labels : List (List ℕ)) : Type 0 where
  pub as_many : length values ≡ length labels
  pub fit : (k : ℕ) → k < length labels → accepts first (list_at values k) ≡ true
  pub each : (k : ℕ) → k < length labels → Decides conds questions (arg.Str (list_at values k)) (list_at labels k)
  pub short : (k m : ℕ) → k < length labels → count ≤ m → m < length words → length (list_at values k) ≤ length (list_at words m)
  pub seen : (j : ℕ) → j < count → is_accepting (mode_in (list_at states j)) ≡ true
      → (k : ℕ) × (k < length labels) × IsLabel (told conds patterns (positions_in (list_at states j)) []) questions (list_at labels k)
      × (length (list_at values k) ≤ length (list_at words j))

-- a string is as long as a word, is accepted where it is, and the same conditions hold of it
pub record IsInPlace (conds : List AskedCond) (word value : List ℕ) : Type 0 where
  pub long : length value ≡ length word
  pub accepted : (first : ℕ) → accepts first word ≡ true → accepts first value ≡ true
  pub same : (n : ℕ) → met conds (arg.Str value) n ≡ met conds (arg.Str word) n

-- if the state accepts, a string in place of its word is put with a label that the positions of the state have, or such a label was there
pub record IsPicked (conds : List AskedCond) (patterns : List (List Cell)) (questions : List OpenQuestion) (word state : List ℕ) (values labels new_values new_labels : List (List ℕ)) : Type 0 where
  pub unchanged : is_accepting (mode_in state) ≡ false → (new_values ≡ values) × (new_labels ≡ labels)
  pub picked : is_accepting (mode_in state) ≡ true → (label : List ℕ) × IsLabel (told conds patterns (positions_in state) []) questions label
      × (((value : List ℕ) × IsInPlace conds word value × (new_values ≡ values ++ value ∷ []) × (new_labels ≡ labels ++ label ∷ []))
      ⊎ ((new_values ≡ values) × (new_labels ≡ labels) × (k : ℕ) × (k < length labels) × (list_at labels k ≡ label)))

-- a number is put with its label, or its label was there
pub record IsNumberPicked (conds : List AskedCond) (questions : List OpenQuestion) (number : ℕ) (values : List ℕ) (labels : List (List ℕ)) (new_values : List ℕ) (new_labels : List (List ℕ)) : Type 0 where
  pub label : List ℕ
  pub decides : Decides conds questions (arg.Num number) label
  pub put : ((new_values ≡ values ++ number ∷ []) × (new_labels ≡ labels ++ label ∷ []))
      ⊎ ((new_values ≡ values) × (new_labels ≡ labels) × (k : ℕ) × (k < length labels) × (list_at labels k ≡ label))

-- each of the first numbers has its label among those of the numbers that were kept
pub record AreNumbersPicked (conds : List AskedCond) (questions : List OpenQuestion) (numbers : List ℕ) (count : ℕ) (values : List ℕ) (labels : List (List ℕ)) : Type 0 where
  pub as_many : length values ≡ length labels
  pub among : (k : ℕ) → k < length labels → (j : ℕ) × (j < length numbers) × (slice_index values k ≡ slice_index numbers j)
  pub each : (k : ℕ) → k < length labels → Decides conds questions (arg.Num (slice_index values k)) (list_at labels k)
  pub seen : (j : ℕ) → j < count → (k : ℕ) × (k < length labels) × Decides conds questions (arg.Num (slice_index numbers j)) (list_at labels k)

-- strings as arguments
abbrev pub AreTextArgs : List AskedCond → ℕ → List OpenQuestion → List Arg → List (List ℕ) → Type 0
AreTextArgs conds first questions args labels = (values : List (List ℕ)) × (args ≡ map arg.Str values) × AreTexts conds first questions values labels

-- numbers as arguments
abbrev pub AreNumberArgs : List AskedCond → ℕ → List OpenQuestion → List Arg → List (List ℕ) → Type 0
AreNumberArgs conds width questions args labels = (values : List ℕ) × (args ≡ map arg.Num values) × AreNumberChoices conds width questions values labels
