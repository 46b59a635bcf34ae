-- The shortest call of each class.
use Rattle.std.specs.Prelude.{◌≡◌, ◌⊎◌, ◌<◌, ℕ, true, false, nat_eq, List, [], ◌∷◌, ◌++◌, Option, None, Some, length, slice_index_or, slice_set, if◌then◌else◌}
use Rattle.std.specs.List.{list_any}
use Rattle.std.specs.Cmp.Lexicographic.{pointwise}
use Rattle.sb_call.specs.Arguments.{fits}
use Rattle.sb_call.specs.declared.arguments.Arg.{Arg}
use Rattle.sb_call.specs.declared.tags.CallTag.{CallTag}
use Rattle.sb_cover.specs.Lengths.{is_shorter}
use Rattle.sb_cover.specs.PolicyCovers.{is_call}
use Rattle.sb_explore.specs.Exploring.{list_at}
use Rattle.sb_rule.specs.declared.policies.Policy.{Policy}
use Rattle.sb_compare.specs.Classes.{class_of}

-- the call at a place
abbrev pub call_at : List (List Arg) → ℕ → List Arg
call_at calls k = slice_index_or calls k []

-- each class that a call of the tag has is one of these, with one of its calls; no call of the class is shorter
pub record AreShortest (tag : CallTag) (policies : List Policy) (classes : List (List ℕ)) (calls : List (List Arg)) : Type 0 where
  pub as_many : length calls ≡ length classes
  pub fit : (k : ℕ) → k < length classes → fits tag (call_at calls k) ≡ true
  pub each : (k : ℕ) → k < length classes → class_of tag policies (call_at calls k) ≡ list_at classes k
  pub shortest : (k : ℕ) → k < length classes → (other : List Arg) → is_call tag other ≡ true → class_of tag policies other ≡ list_at classes k
      → is_shorter other (call_at calls k) ≡ false
  pub all : (other : List Arg) → is_call tag other ≡ true → (k : ℕ) × (k < length classes) × (class_of tag policies other ≡ list_at classes k)

-- the same of the first calls of a list, of which each is one
pub record AreShortestSoFar (class : List Arg → List ℕ) (seen : List (List Arg)) (count : ℕ) (classes : List (List ℕ)) (calls : List (List Arg)) : Type 0 where
  pub as_many : length calls ≡ length classes
  pub once : (i j : ℕ) → i < length classes → j < length classes → list_at classes i ≡ list_at classes j → i ≡ j
  pub among : (k : ℕ) → k < length classes → (j : ℕ) × (j < length seen) × (call_at calls k ≡ call_at seen j)
  pub each : (k : ℕ) → k < length classes → class (call_at calls k) ≡ list_at classes k
  pub shortest : (k j : ℕ) → k < length classes → j < count → class (call_at seen j) ≡ list_at classes k → is_shorter (call_at seen j) (call_at calls k) ≡ false
  pub all : (j : ℕ) → j < count → (k : ℕ) × (k < length classes) × (class (call_at seen j) ≡ list_at classes k)

-- a call is put with its class, or its class was there and the shorter one of its two calls is kept
abbrev pub IsCallNoted : List ℕ → List Arg → List (List ℕ) → List (List Arg) → List (List ℕ) → List (List Arg) → Type 0
IsCallNoted class call classes calls new_classes new_calls =
    ((list_any (pointwise nat_eq class) classes ≡ false) × (new_classes ≡ classes ++ class ∷ []) × (new_calls ≡ calls ++ call ∷ []))
    ⊎ ((new_classes ≡ classes) × (k : ℕ) × (k < length classes) × (list_at classes k ≡ class)
    × (new_calls ≡ (if is_shorter call (call_at calls k) then slice_set calls k call else calls)))

-- the call of a class, if the class is among these
abbrev pub IsFoundIn : List (List ℕ) → List (List Arg) → List ℕ → Option (List Arg) → Type 0
IsFoundIn classes calls class None = (k : ℕ) → k < length classes → list_at classes k ≡ class → ⊥
IsFoundIn classes calls class (Some call) = (k : ℕ) × (k < length classes) × (list_at classes k ≡ class) × (call ≡ call_at calls k)
