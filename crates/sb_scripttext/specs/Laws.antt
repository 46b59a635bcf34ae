-- What is true of all script texts: what one line can do to the lines after it.
use Rattle.std.specs.Prelude.{◌≡◌, ℕ, ◌≤◌, Bool, true, false, List, ◌++◌, length, None, Ok, Err}
use Rattle.sb_call.specs.declared.arguments.Arg.{Arg}
use Rattle.sb_call.specs.declared.tags.CallTag.{CallTag}
use Rattle.sb_call.specs.Arguments.{fits}
use Rattle.sb_call.specs.Tags.{shape_of}
use Rattle.sb_rule.specs.declared.policies.Policy.{Policy}
use Rattle.sb_scripttext.specs.Arguments.{args_at}
use Rattle.sb_scripttext.specs.ScriptTexts.{ScriptFault, reading}
use Rattle.sb_scripttext.specs.declared.faults.ScriptKind.{ScriptKind}
use Rattle.sb_scripttext.specs.declared.faults.ScriptKind.TheVariants.{NoSuchTarget, NoSuchChannel}
use Rattle.sb_text.specs.LineLaws.{ended, is_line}
use Rattle.sb_text.specs.Lines.{raw_lines, lines_of, is_skipped, without_cr}
use Rattle.sb_text.specs.Readings.{is_some_line, renumbered, behind}
use Rattle.sb_text.specs.Tokens.{Lexemes}
use Rattle.sb_text.specs.Utf8.{not_utf8_place}

-- a fault that is looked for when all else was read
abbrev pub is_looked_for_last : ScriptKind → Bool
is_looked_for_last (NoSuchTarget target targets) = true
is_looked_for_last (NoSuchChannel channel target channels) = true
is_looked_for_last other = false

-- a fault on one of the first lines of a text, not all of which are blank or comments, is that of each text that begins with these
-- lines, except those that are looked for last
abbrev pub FirstFaultsStay : Type 0
FirstFaultsStay = (policies : List Policy) (front rest other : List ℕ) (fault : ScriptFault)
    → not_utf8_place (ended front ++ rest) ≡ None → not_utf8_place (ended front ++ other) ≡ None
    → is_some_line (lines_of (ended front)) ≡ true → fault.line ≤ length (raw_lines (ended front)) → is_looked_for_last fault.kind ≡ false
    → reading policies (ended front ++ rest) ≡ Err fault → reading policies (ended front ++ other) ≡ Err fault

-- a blank or comment line may be put in anywhere below the first that is neither blank nor a comment, and changes nothing but numbers of lines
abbrev pub SkippedLinesCountAlone : Type 0
SkippedLinesCountAlone = (policies : List Policy) (front line rest : List ℕ) → is_line line ≡ true → is_skipped (without_cr line) ≡ true
    → is_some_line (lines_of (ended front)) ≡ true
    → not_utf8_place (ended front ++ rest) ≡ None → not_utf8_place (ended front ++ (ended line ++ rest)) ≡ None
    → reading policies (ended front ++ (ended line ++ rest)) ≡ renumbered (behind (length (raw_lines (ended front)))) (λ script. script) (reading policies (ended front ++ rest))

-- the arguments that are read for a call fit it
abbrev pub ReadArgumentsFit : Type 0
ReadArgumentsFit = (tag : CallTag) (tokens rest : Lexemes) (args : List Arg) → args_at (shape_of tag) tokens ≡ Ok (args, rest) → fits tag args ≡ true
