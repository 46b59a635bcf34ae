-- What a file of moves means: the moves, or the first fault. Its lines are taken as bytes; a column counts characters, as in policies and scripts.
use Rattle.std.specs.Prelude.{ℕ, List, [], Result, codes}
use Rattle.sb_dup.specs.Lines.{line_of}
use Rattle.sb_dup.specs.declared.faults.MoveKind.{MoveKind}
use Rattle.sb_dup.specs.declared.faults.MoveKind.TheVariants.{UnknownWord}
use Rattle.sb_dup.specs.declared.moves.Move.{Move}
use Rattle.sb_text.specs.Lines.{NumberedLine, lines_of}
use Rattle.sb_text.specs.Readings.{Grammar, read_by}
use Rattle.sb_text.specs.Steps.{version_at}
use Rattle.sb_text.specs.Tokens.{by_tokens, words_of}
use Rattle.sb_text.specs.declared.refusals.LineFault.{LineFault}
use Rattle.sb_text.specs.declared.refusals.TokenFault.{TokenFault}
use Rattle.sb_text.specs.declared.refusals.WordFault.TheVariants.{NoVersion}

-- the first fault of a file of moves
abbrev pub MoveFault : Type 0
MoveFault = LineFault MoveKind

-- the version line is `sandbox-moves 1`
abbrev pub moves_version : List ℕ → Result ℕ (TokenFault MoveKind)
moves_version line = version_at (UnknownWord NoVersion) (codes "sandbox-moves") 1 (words_of line)

-- what a line adds to the moves so far
abbrev pub add_line : ℕ → List Move → NumberedLine → Result (List Move) (TokenFault MoveKind)
add_line targets moves line = line_of targets moves (words_of line.text)

-- files of moves between this number of targets
abbrev pub grammar : ℕ → Grammar (List Move) MoveKind
grammar targets =
    record { layout = by_tokens; version = moves_version; no_version = UnknownWord NoVersion; start = []; add = λ version. add_line targets }

-- what a file means, for a script with this number of targets
abbrev pub reading : ℕ → List ℕ → Result (List Move) MoveFault
reading targets text = read_by (grammar targets) (lines_of text)
