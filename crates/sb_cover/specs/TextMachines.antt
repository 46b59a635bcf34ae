-- The states of the machine of strings: a mode, and then positions in the patterns.
use Rattle.std.specs.Prelude.{◌≡◌, ◌&&◌, ℕ, Bool, true, nat_lt, List, [], ◌∷◌, ◌++◌, length}
use Rattle.sb_call.specs.declared.arguments.Arg.TheVariants as arg
use Rattle.sb_cover.specs.AskedConds.{by_negation, cond_at, met}
use Rattle.sb_cover.specs.Modes.{accepts, mode_after, mode_of_word}
use Rattle.sb_cover.specs.Positions.{tells}
use Rattle.sb_cover.specs.Pruning.{AllDecideAlike}
use Rattle.sb_cover.specs.declared.asked_conds.AskedCond.{AskedCond}
use Rattle.sb_cover.specs.declared.open_rules.OpenQuestion.{OpenQuestion}
use Rattle.sb_rule.specs.declared.cells.Cell.{Cell}

-- the mode of a state
abbrev pub mode_in : List ℕ → ℕ
mode_in [] = 0
mode_in (mode ∷ positions) = mode

-- the positions of a state
abbrev pub positions_in : List ℕ → List ℕ
positions_in [] = []
positions_in (mode ∷ positions) = positions

-- the conditions that hold by the positions, if the given units follow
abbrev pub told : List AskedCond → List (List Cell) → List ℕ → List ℕ → ℕ → Bool
told conds patterns positions later n =
    by_negation (cond_at conds n).cond.negated (nat_lt n (length conds) && tells patterns positions n later)

-- the positions decide alike with a string, if the given units follow
abbrev pub Tells : List AskedCond → List (List Cell) → List OpenQuestion → List ℕ → List ℕ → List ℕ → Type 0
Tells conds patterns questions units positions later =
    AllDecideAlike (met conds (arg.Str units)) (told conds patterns positions later) questions

-- the state has the mode of the word, and decides alike with each accepted string that begins with the word
pub record LeadsTo (conds : List AskedCond) (patterns : List (List Cell)) (questions : List OpenQuestion) (first : ℕ) (word state : List ℕ) : Type 0 where
  pub mode : mode_in state ≡ mode_of_word first word
  pub tells : (later : List ℕ) → accepts (mode_in state) later ≡ true → Tells conds patterns questions (word ++ later) (positions_in state) later

-- for each accepted string that begins with the word, the state accepts what follows and decides alike
abbrev pub StandsFor : List AskedCond → List (List Cell) → List OpenQuestion → ℕ → List ℕ → List ℕ → Type 0
StandsFor conds patterns questions first word state =
    (later : List ℕ) → accepts first (word ++ later) ≡ true
    → (accepts (mode_in state) later ≡ true) × Tells conds patterns questions (word ++ later) (positions_in state) later

-- the positions tell the same after both units, and what may follow the first may follow the second
pub record IsLike (patterns : List (List Cell)) (state : List ℕ) (unit letter : ℕ) : Type 0 where
  pub mode : (later : List ℕ) → accepts (mode_after (mode_in state) unit) later ≡ true → accepts (mode_after (mode_in state) letter) later ≡ true
  pub tells : (k : ℕ) (later : List ℕ) → tells patterns (positions_in state) k (unit ∷ later) ≡ tells patterns (positions_in state) k (letter ∷ later)
