-- The lines of the statements in the text of a script.
use Rattle.std.specs.Prelude.{ℕ, Bool, false, List, [], ◌∷◌, if◌then◌else◌}
use Rattle.sb_scripttext.specs.Lines.{is_statement_word}
use Rattle.sb_text.specs.Lines.{NumberedLine, lines_of}
use Rattle.sb_text.specs.Tokens.{Lexemes, Next, End, Word, Quoted, Bad, words_of}

-- the first of these words begins a statement
abbrev pub first_begins : Lexemes → Bool
first_begins (Next place (Word word) words) = is_statement_word word
first_begins (Next place (Quoted quoted) words) = false
first_begins (Next place Bad words) = false
first_begins (End place) = false

-- the line is a statement: its first word is `call`, `store`, `exchange`, `load` or `wait`
abbrev pub begins_statement : List ℕ → Bool
begins_statement line = first_begins (words_of line)

-- the numbers of those of these lines that are statements
abbrev pub statements_in : List NumberedLine → List ℕ
statements_in [] = []
statements_in (line ∷ lines) = if begins_statement line.text then line.number ∷ statements_in lines else statements_in lines

-- the numbers of the lines of a script that are statements, in the order of the text, which is that of its targets, threads and places
abbrev pub statement_lines : List ℕ → List ℕ
statement_lines text = statements_in (lines_of text)
