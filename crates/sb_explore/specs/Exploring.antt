-- What was found of the states of a machine.
use Rattle.std.specs.Prelude.{◌≡◌, ◌<◌, ◌≤◌, ◌+◌, ◌==◌, ℕ, nat_eq, Bool, true, List, [], ◌∷◌, ◌++◌, length, slice_index_or}
use Rattle.std.specs.List.{list_any, IsDistinct}
use Rattle.std.specs.Cmp.Lexicographic.{pointwise}

-- the unit is one of the letters
abbrev pub is_letter : List ℕ → ℕ → Bool
is_letter letters u = list_any (λ v. v == u) letters

-- the list at a place
abbrev pub list_at : List (List ℕ) → ℕ → List ℕ
list_at lists k = slice_index_or lists k []

-- a list is another with more lists at its end
abbrev pub IsLonger : List (List ℕ) → List (List ℕ) → Type 0
IsLonger short long = (more : List (List ℕ)) × (long ≡ short ++ more)

-- each state has its word, which leads to it
pub record AreFound (after : List ℕ → List ℕ → Type 0) (words states : List (List ℕ)) : Type 0 where
  pub as_many : length words ≡ length states
  pub each : (k : ℕ) → k < length states → after (list_at words k) (list_at states k)

-- no word is longer than one after it
abbrev pub AreByLength : List (List ℕ) → Type 0
AreByLength words = (i j : ℕ) → i ≤ j → j < length words → length (list_at words i) ≤ length (list_at words j)

-- no word is longer than one after it, and none has more units than one unit more than this number
pub record AreInOrder (words : List (List ℕ)) (units : ℕ) : Type 0 where
  pub by_length : AreByLength words
  pub near : (k : ℕ) → k < length words → length (list_at words k) ≤ units + 1

-- some state stands for each word for which this one stands, with a unit more, and its own word has at most one unit more than the given number
abbrev pub Leads : (List ℕ → List ℕ → Type 0) → List (List ℕ) → List (List ℕ) → ℕ → List ℕ → ℕ → Type 0
Leads stands words states units state unit =
    (k : ℕ) × (k < length states) × (length (list_at words k) ≤ units + 1)
    × ((word : List ℕ) → stands word state → stands (word ++ unit ∷ []) (list_at states k))

-- each unit leads from the state at a place to one of the states
abbrev pub AllLead : (List ℕ → List ℕ → Type 0) → List (List ℕ) → List (List ℕ) → ℕ → List ℕ → Type 0
AllLead stands words states units state = (unit : ℕ) → Leads stands words states units state unit

-- each unit leads from each of the first states to one of the states
abbrev pub AreFollowed : (List ℕ → List ℕ → Type 0) → List (List ℕ) → List (List ℕ) → ℕ → Type 0
AreFollowed stands words states count =
    (k : ℕ) → k < count → AllLead stands words states (length (list_at words k)) (list_at states k)

-- some state stands for the word, and its own word is not longer
abbrev pub IsReached : (List ℕ → List ℕ → Type 0) → List (List ℕ) → List (List ℕ) → List ℕ → Type 0
IsReached stands words states word =
    (k : ℕ) × (k < length states) × (length (list_at words k) ≤ length word) × stands word (list_at states k)

-- for each word some state stands, with a word that is not longer
abbrev pub AllReached : (List ℕ → List ℕ → Type 0) → List (List ℕ) → List (List ℕ) → Type 0
AllReached stands words states = (word : List ℕ) → IsReached stands words states word

-- there are more than this many states, no two alike, each with its word
pub record HasMore (after : List ℕ → List ℕ → Type 0) (most : ℕ) : Type 0 where
  pub words : List (List ℕ)
  pub states : List (List ℕ)
  pub found : AreFound after words states
  pub distinct : IsDistinct (pointwise nat_eq) states
  pub many : most < length states
