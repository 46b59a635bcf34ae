use Rattle.std.proofs.Common.{◌≡◌, ◌++◌, length, false}
use Rattle.sb_ruletext.specs.Notes.{notes_in}
use Rattle.sb_text.specs.Tokens.{lexemes}
use Rattle.sb_ruletext.proofs.notes.put_notes_in.Given as goal

-- the notes that were read and those that follow are those of the line
abbrev pub invariant-loop-token : goal.invariant-loop-token
invariant-loop-token l =
    l.notes.items ++ notes_in (record { number = l.line.number; text = l.line.text.now }) l.is_string l.tokens
    ≡ l.initial.notes.items ++ notes_in (record { number = l.line.number; text = l.line.text.now }) false l.initial.tokens

abbrev pub decreases-loop-token : goal.decreases-loop-token
decreases-loop-token l = length (lexemes l.tokens)
