-- The lines that tell how moves went.
use Rattle.std.specs.Prelude.{ℕ, ◌+◌, Bool, true, false, List, [], ◌∷◌, ◌++◌, length, count_by, codes}
use Rattle.std.specs.Fmt.{decimal}
use Rattle.sb_dup.specs.declared.moves.Move.{Move}
use Rattle.sb_dup.specs.declared.moves.MoveAnswer.{MoveAnswer}
use Rattle.sb_dup.specs.declared.moves.MoveAnswer.TheVariants.{Given, NotHeld, MoreAccess, NoOpening, Denied}
use Rattle.sb_statements.specs.Scripts.{target_name}
use Rattle.sb_statements.specs.declared.scripts.Script.{Script}
use Rattle.sb_base.specs.Numbers.{hexadecimal}
use Rattle.sb_transcript.specs.Fields.{verdict_text}

-- the answer to a move: the handle and its access, or why there is none
abbrev pub answer_text : Script → MoveAnswer → List ℕ
answer_text script (Given handle access) = codes "given " ++ decimal handle ++ codes " 0x" ++ hexadecimal access
answer_text script NotHeld = codes "not-held"
answer_text script (MoreAccess held) = codes "more-access 0x" ++ hexadecimal held
answer_text script NoOpening = codes "no-opening"
answer_text script (Denied target verdict) = codes "denied " ++ target_name script target ++ verdict_text verdict

-- the giver and its handle
abbrev pub giver_text : Script → Move → List ℕ
giver_text script m = target_name script m.from ++ codes " " ++ decimal m.handle

-- move n, without its answer
abbrev pub move_text : Script → ℕ → Move → List ℕ
move_text script n m = codes "move " ++ decimal n ++ codes " " ++ giver_text script m ++ codes " " ++ target_name script m.to

-- the line of move n
abbrev pub move_line : Script → ℕ → Move → MoveAnswer → List ℕ
move_line script n m answer =
    move_text script n m ++ codes " " ++ answer_text script answer ++ codes "\n"

-- the lines of moves with their answers, the first of which has the number n
abbrev pub move_lines : Script → ℕ → List (Move × MoveAnswer) → List ℕ
move_lines script n [] = []
move_lines script n (m ∷ ms) = move_line script n m.0 m.1 ++ move_lines script (n + 1) ms

-- a handle was given
abbrev pub is_given : Move × MoveAnswer → Bool
is_given (m, Given handle access) = true
is_given (m, NotHeld) = false
is_given (m, MoreAccess held) = false
is_given (m, NoOpening) = false
is_given (m, Denied target verdict) = false

-- the last line: how many moves, and how many of them gave a handle
abbrev pub totals_line : List (Move × MoveAnswer) → List ℕ
totals_line ms = codes "moves " ++ decimal (length ms) ++ codes " given " ++ decimal (count_by is_given ms) ++ codes "\n"

-- all lines, one after another
abbrev pub lines_of_moves : Script → List (Move × MoveAnswer) → List ℕ
lines_of_moves script ms = move_lines script 0 ms ++ totals_line ms
