-- The message of a fault of a text.
use Rattle.std.specs.Prelude.{◌≡◌, ℕ, suc, zero, Bool, true, List, [], ◌∷◌, ◌++◌, codes}
use Rattle.std.specs.Fmt.{decimal}
use Rattle.sb_message.specs.declared.messages.FaultyText.{FaultyText}
use Rattle.sb_message.specs.declared.messages.FaultyText.TheVariants.{Policy, Script, Schedule, Links, Moves}
use Rattle.sb_message.specs.declared.messages.NumberedFault.{NumberedFault}
use Rattle.sb_glyphs.specs.Glyphs.{shown_bytes}
use Rattle.sb_message.specs.Causes.{HasNumbers, are_words, cause_text}
use Rattle.sb_message.specs.Places.{named_at, shown_line}

-- the name of a text
abbrev pub text_word : FaultyText → List ℕ
text_word Policy = codes "policy"
text_word Script = codes "script"
text_word Schedule = codes "schedule"
text_word Links = codes "links"
text_word Moves = codes "moves"

-- `sandbox: policy line L fault N`
abbrev pub headline : NumberedFault → List ℕ
headline fault = codes "sandbox: " ++ text_word fault.text ++ codes " line " ++ decimal fault.line ++ codes " fault " ++ decimal fault.kind

-- `  --> FILE:LINE:COLUMN`, or `  --> FILE:LINE` if no column is meant
abbrev pub column_text : ℕ → List ℕ
column_text zero = []
column_text (suc column) = 58 ∷ decimal (suc column)

abbrev pub place_line : List ℕ → ℕ → ℕ → List ℕ
place_line file line column = codes "  --> " ++ shown_bytes file ++ 58 ∷ decimal line ++ column_text column ++ 10 ∷ []

-- the first line: the fault, and what is wrong in words
abbrev pub first_line : NumberedFault → List ℕ → List ℕ
first_line fault cause = headline fault ++ codes ": " ++ cause ++ 10 ∷ []

-- the same, the place, and these lines
abbrev pub message_with : NumberedFault → List ℕ → List ℕ → List ℕ → List ℕ
message_with fault cause file lines = first_line fault cause ++ place_line file fault.line fault.column ++ lines

-- the message of a fault of a text: what is wrong, the place, and the line with a caret
abbrev pub fault_message : NumberedFault → List ℕ → List ℕ → List ℕ → List ℕ
fault_message fault cause file line = message_with fault cause file (shown_line fault.text fault.column line)

-- A text is a message of this fault, with the line that has it: what is wrong, in words with these numbers between them; the token at the fault, if it is
-- named; what may stand there, in words; the place, and the line with a caret
pub record IsMessage (fault : NumberedFault) (numbers : List ℕ) (names_token : Bool) (file line text : List ℕ) : Type 0 where
  pub words : List ℕ
  pub hint : List ℕ
  pub numbered : HasNumbers numbers words
  pub plain : are_words hint ≡ true
  pub is : text ≡ fault_message fault (cause_text words names_token (named_at fault.text fault.column line) hint) file line
