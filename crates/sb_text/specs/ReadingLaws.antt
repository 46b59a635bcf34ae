-- What is true of all texts that are read line by line.
use Rattle.std.specs.Prelude.{◌≡◌, ℕ, ◌≤◌, ◌<◌, true, List, ◌++◌, length, Ok, Err}
use Rattle.sb_text.specs.LineLaws.{ended, is_line}
use Rattle.sb_text.specs.Lines.{NumberedLine, raw_lines, lines_of, is_skipped, without_cr}
use Rattle.sb_text.specs.Readings.{Grammar, read_by, is_some_line, renumbered_line, renumbered, behind}
use Rattle.sb_text.specs.Steps.{on_value}
use Rattle.sb_text.specs.declared.refusals.LineFault.{LineFault}

-- a fault on one of the first lines of a text, some of which have tokens, is that of each text that begins with these lines
abbrev pub FirstFaultsStay : Type 0 → Type 0 → Type 0
FirstFaultsStay D K = (grammar : Grammar D K) (front rest other : List ℕ) (fault : LineFault K)
    → is_some_line (lines_of (ended front)) ≡ true → fault.line ≤ length (raw_lines (ended front))
    → read_by grammar (lines_of (ended front ++ rest)) ≡ Err fault → read_by grammar (lines_of (ended front ++ other)) ≡ Err fault

-- the lines before a fault, some of which have tokens, are read
abbrev pub LinesBeforeAreRead : Type 0 → Type 0 → Type 0
LinesBeforeAreRead D K = (grammar : Grammar D K) (front rest : List ℕ) (fault : LineFault K)
    → is_some_line (lines_of (ended front)) ≡ true → length (raw_lines (ended front)) < fault.line
    → read_by grammar (lines_of (ended front ++ rest)) ≡ Err fault → (read : D) × (read_by grammar (lines_of (ended front)) ≡ Ok read)

-- a line with another number adds the same, with numbers of lines changed in what was read
abbrev pub MovesWith : {D K : Type 0} → Grammar D K → (ℕ → ℕ) → (D → D) → Type 0
MovesWith grammar f moved =
    (moved grammar.start ≡ grammar.start)
    × ((version : ℕ) (sofar : _) (line : NumberedLine)
    → on_value moved (grammar.add version sofar line) ≡ grammar.add version (moved sofar) (renumbered_line f line))

-- a line that is skipped may be put in anywhere below the first with tokens, and changes nothing but numbers of lines
abbrev pub SkippedLinesCountAlone : Type 0 → Type 0 → Type 0
SkippedLinesCountAlone D K = (grammar : Grammar D K) (moved : D → D) (front line rest : List ℕ)
    → MovesWith grammar (behind (length (raw_lines (ended front)))) moved
    → is_line line ≡ true → is_skipped (without_cr line) ≡ true → is_some_line (lines_of (ended front)) ≡ true
    → read_by grammar (lines_of (ended front ++ (ended line ++ rest)))
    ≡ renumbered (behind (length (raw_lines (ended front)))) moved (read_by grammar (lines_of (ended front ++ rest)))
