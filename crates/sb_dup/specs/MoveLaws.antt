-- What is true of files of moves.
use Rattle.std.specs.Prelude.{◌≡◌, ◌≤◌, ℕ, true, List, length, Ok}
use Rattle.std.specs.List.{list_all}
use Rattle.sb_dup.specs.Lines.{is_between, most_moves}
use Rattle.sb_dup.specs.MovePrinting.{is_of_values, written}
use Rattle.sb_dup.specs.MoveTexts.{reading}
use Rattle.sb_dup.specs.declared.moves.Move.{Move}

-- both targets of each move that is read are there
abbrev pub MovesAreBetween : Type 0
MovesAreBetween = (targets : ℕ) (text : List ℕ) (moves : List Move) → reading targets text ≡ Ok moves → list_all (is_between targets) moves ≡ true

-- and there are at most 4,096
abbrev pub MovesAreFew : Type 0
MovesAreFew = (targets : ℕ) (text : List ℕ) (moves : List Move) → reading targets text ≡ Ok moves → length moves ≤ most_moves

-- moves are read back from what is written of them
abbrev pub WrittenMovesAreRead : Type 0
WrittenMovesAreRead = (targets : ℕ) (moves : List Move) → list_all (is_between targets) moves ≡ true → list_all is_of_values moves ≡ true
    → length moves ≤ most_moves → reading targets (written moves) ≡ Ok moves
