-- Which rules hold, by what is known of their conditions; and which conditions need not be known any more.
use Rattle.std.specs.Prelude.{◌≡◌, ◌⊎◌, ◌==◌, ℕ, zero, suc, Bool, true, false, not, ◌&&◌, List, [], ◌∷◌, ◌++◌, map, length, take, drop, slice_index_or, if◌then◌else◌}
use Rattle.std.specs.List.{list_all}
use Rattle.sb_cover.specs.declared.open_rules.OpenRule.{OpenRule}
use Rattle.sb_cover.specs.declared.open_rules.OpenQuestion.{OpenQuestion}

-- the places of the rules that hold: the list says of which the conditions here hold, and the test which later conditions hold
abbrev pub places : List Bool → (ℕ → Bool) → List OpenRule → List ℕ
places marks other [] = []
places [] other (rule ∷ rules) = []
places (mark ∷ marks) other (rule ∷ rules) =
    if mark && list_all other rule.later then rule.place ∷ places marks other rules else places marks other rules

-- of which rules the conditions here hold
abbrev pub marks_by : (ℕ → Bool) → List OpenRule → List Bool
marks_by holds rules = map (λ rule. list_all holds rule.here) rules

-- whatever the later conditions are, the same rules are the first that hold
abbrev pub DecideAlike : ℕ → List OpenRule → List Bool → List Bool → Type 0
DecideAlike depth rules a b = (other : ℕ → Bool) → take depth (places a other rules) ≡ take depth (places b other rules)

-- the same of each question, if the conditions here hold by one test or by the other
abbrev pub AllDecideAlike : (ℕ → Bool) → (ℕ → Bool) → List OpenQuestion → Type 0
AllDecideAlike f g [] = Unit {0}
AllDecideAlike f g (question ∷ questions) =
    DecideAlike question.depth question.rules (marks_by f question.rules) (marks_by g question.rules) × AllDecideAlike f g questions

-- the condition is one of those that hold
abbrev pub is_true : List Bool → ℕ → Bool
is_true truths n = slice_index_or truths n false

-- what is 1 is marked
abbrev pub marks_in : List ℕ → List Bool
marks_in label = map (λ n. n == 1) label

-- a label has a mark for each rule of each question, in order, and decides as the test does
abbrev pub IsLabel : (ℕ → Bool) → List OpenQuestion → List ℕ → Type 0
IsLabel f [] label = Unit {0}
IsLabel f (question ∷ questions) label =
    DecideAlike question.depth question.rules (marks_by f question.rules) (marks_in label) × IsLabel f questions (drop (length question.rules) label)

-- if all of the second conditions hold, all of the first do
abbrev pub IsImplied : List ℕ → List ℕ → Type 0
IsImplied few many = (other : ℕ → Bool) → list_all other many ≡ true → list_all other few ≡ true

-- that many of the lists of conditions are implied by these conditions
abbrev pub IsCovered : ℕ → List (List ℕ) → List ℕ → Type 0
IsCovered zero decided later = Unit {0}
IsCovered (suc n) [] later = ⊥
IsCovered (suc n) (d ∷ decided) later = (IsImplied d later × IsCovered n decided later) ⊎ IsCovered (suc n) decided later

-- each rule is covered by as many rules before it as are asked for, which hold here for sure; or it holds here alike, or it holds here for sure
abbrev pub ArePruned : ℕ → List (List ℕ) → List Bool → List Bool → List OpenRule → Type 0
ArePruned depth decided a b [] = Unit {0}
ArePruned depth decided [] b (rule ∷ rules) = ⊥
ArePruned depth decided (x ∷ a) [] (rule ∷ rules) = ⊥
ArePruned depth decided (x ∷ a) (y ∷ b) (rule ∷ rules) =
    (IsCovered depth decided rule.later × ArePruned depth decided a b rules)
    ⊎ (((x ≡ y) × ArePruned depth decided a b rules) ⊎ ((x ≡ true) × (y ≡ true) × ArePruned depth (decided ++ rule.later ∷ []) a b rules))

-- then the same rules are the first that hold
abbrev pub PrunedDecideAlike : Type 0
PrunedDecideAlike = (depth : ℕ) (a b : List Bool) (rules : List OpenRule) → ArePruned depth [] a b rules → DecideAlike depth rules a b

-- the condition is one of which has to be known whether it holds; so is each that the list does not have
abbrev pub is_needed : List Bool → ℕ → Bool
is_needed needed n = slice_index_or needed n true

-- needed conditions stay needed
abbrev pub StayNeeded : List Bool → List Bool → Type 0
StayNeeded old new = (n : ℕ) → is_needed old n ≡ true → is_needed new n ≡ true

-- two tests agree on the needed conditions
abbrev pub AgreeWhereNeeded : List Bool → (ℕ → Bool) → (ℕ → Bool) → Type 0
AgreeWhereNeeded needed f g = (n : ℕ) → is_needed needed n ≡ true → f n ≡ g n

-- the conditions of the first list fail for sure, those of the second hold for sure
pub record AreSure (fails holds : List Bool) (f : ℕ → Bool) : Type 0 where
  pub failing : (n : ℕ) → slice_index_or fails n false ≡ true → f n ≡ false
  pub holding : (n : ℕ) → slice_index_or holds n false ≡ true → f n ≡ true
