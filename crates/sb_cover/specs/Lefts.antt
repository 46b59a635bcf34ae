-- The questions that are left after each choice, each list once.
use Rattle.std.specs.Prelude.{◌≡◌, ◌⊎◌, ◌<◌, ◌++◌, ℕ, List, [], length, slice_index, slice_index_or}
use Rattle.sb_cover.specs.Calls.{AllSplit, AreLeft}
use Rattle.sb_cover.specs.declared.asked_conds.AskedCond.{AskedCond}
use Rattle.sb_cover.specs.declared.open_rules.OpenQuestion.{OpenQuestion}
use Rattle.sb_explore.specs.Exploring.{list_at}

-- the questions at a place
abbrev pub left_at : List (List OpenQuestion) → ℕ → List OpenQuestion
left_at lists k = slice_index_or lists k []

-- for each of the first labels the list at its place has the questions that are left
pub record AreLefts (conds : List AskedCond) (param : ℕ) (questions : List OpenQuestion) (labels : List (List ℕ)) (count : ℕ) (lists : List (List OpenQuestion)) (places : List ℕ) : Type 0 where
  pub as_many : length places ≡ count
  pub within : (k : ℕ) → k < count → slice_index places k < length lists
  pub left : (k : ℕ) → k < count → AreLeft questions (list_at labels k) (left_at lists (slice_index places k))
  pub split : (j : ℕ) → j < length lists → AllSplit conds param (left_at lists j)

-- the list is put, or was there
pub record IsPlaced (left : List OpenQuestion) (place : ℕ) (old new : List (List OpenQuestion)) : Type 0 where
  pub more : (rest : List (List OpenQuestion)) × (new ≡ old ++ rest)
  pub within : place < length new
  pub there : left_at new place ≡ left
  pub others : (j : ℕ) → j < length new → (left_at new j ≡ left) ⊎ ((j < length old) × (left_at new j ≡ left_at old j))
