-- The message of an audit that finds a line that refutes its transcript.
use Rattle.std.specs.Prelude.{ℕ, Option, None, Some, List, [], ◌∷◌, ◌++◌, codes}
use Rattle.sb_audit.specs.declared.answers.Refuted.{Refuted}
use Rattle.sb_message.specs.Causes.{two_text}
use Rattle.sb_message.specs.DueTexts.{clause_words, due_text}
use Rattle.sb_glyphs.specs.Excerpts.{excerpt}
use Rattle.sb_glyphs.specs.Glyphs.{glyphs_of}
use Rattle.sb_message.specs.Messages.{place_line}

-- `sandbox: audit line L clause N`
abbrev pub audit_headline : ℕ → ℕ → List ℕ
audit_headline line clause = two_text (codes "sandbox: audit line ") line (codes " clause ") clause

-- the first line
abbrev pub audit_first_line : Refuted → Option (List ℕ) → List ℕ
audit_first_line refuted shown =
    audit_headline refuted.line refuted.clause ++ codes ": " ++ clause_words refuted.due shown ++ codes ": " ++ due_text refuted.due ++ 10 ∷ []

-- what is shown of the line, if there is one
abbrev pub audit_line : Option (List ℕ) → List ℕ
audit_line None = []
audit_line (Some line) = excerpt 0 (glyphs_of line) ++ 10 ∷ []

-- the message of the line of a transcript file of this name at which a clause fails
abbrev pub audit_message : List ℕ → Refuted → Option (List ℕ) → List ℕ
audit_message file refuted shown = audit_first_line refuted shown ++ place_line file refuted.line 0 ++ audit_line shown
