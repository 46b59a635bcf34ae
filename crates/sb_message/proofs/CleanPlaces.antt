-- What a message shows of a line and of a place is clean.
use Rattle.std.proofs.Common.{ℕ, zero, suc, List, [], ◌∷◌, codes, refl}
use Rattle.std.specs.Fmt.{decimal}
use Rattle.sb_glyphs.proofs.CleanLaws.{Spelled, clean_of, both, three, four, five, six, nothing, plain, decimal_clean, bytes_clean, token_clean, lines_clean, feed}
use Rattle.sb_glyphs.specs.CleanTexts.{IsClean}
use Rattle.sb_glyphs.specs.Glyphs.{shown_bytes}
use Rattle.sb_message.specs.declared.messages.FaultyText.{FaultyText}
use Rattle.sb_message.specs.declared.messages.FaultyText.TheVariants.{Policy, Script, Schedule, Links, Moves}
use Rattle.sb_message.specs.declared.messages.NumberedFault.{NumberedFault}
use Rattle.sb_message.specs.Messages.{text_word, headline, first_line, column_text, place_line, fault_message}
use Rattle.sb_message.specs.Places.{place_of, named_at, shown_line}

pub named_clean : (text : FaultyText) (column : ℕ) (line : List ℕ) → Spelled (named_at text column line)
named_clean text column line = token_clean (place_of text column line) line

pub line_clean : (text : FaultyText) (column : ℕ) (line : List ℕ) → Spelled (shown_line text column line)
line_clean text zero line = nothing
line_clean text (suc column) line = lines_clean (place_of text (suc column) line) line

word_clean : (text : FaultyText) → Spelled (text_word text)
word_clean Policy = plain (codes "policy") refl
word_clean Script = plain (codes "script") refl
word_clean Schedule = plain (codes "schedule") refl
word_clean Links = plain (codes "links") refl
word_clean Moves = plain (codes "moves") refl

column_clean : (column : ℕ) → Spelled (column_text column)
column_clean zero = nothing
column_clean (suc column) = both (58 ∷ []) (decimal (suc column)) (plain (58 ∷ []) refl) (decimal_clean (suc column))

pub place_clean : (file : List ℕ) (line column : ℕ) → Spelled (place_line file line column)
place_clean file line column =
    five (codes "  --> ") (shown_bytes file) (58 ∷ decimal line) (column_text column) (10 ∷ []) (plain (codes "  --> ") refl) (bytes_clean file)
    (both (58 ∷ []) (decimal line) (plain (58 ∷ []) refl) (decimal_clean line)) (column_clean column) feed

headline_clean : (fault : NumberedFault) → Spelled (headline fault)
headline_clean fault =
    six (codes "sandbox: ") (text_word fault.text) (codes " line ") (decimal fault.line) (codes " fault ") (decimal fault.kind)
    (plain (codes "sandbox: ") refl) (word_clean fault.text) (plain (codes " line ") refl) (decimal_clean fault.line) (plain (codes " fault ") refl)
    (decimal_clean fault.kind)

first_clean : (fault : NumberedFault) (cause : List ℕ) → Spelled cause → Spelled (first_line fault cause)
first_clean fault cause h = four (headline fault) (codes ": ") cause (10 ∷ []) (headline_clean fault) (plain (codes ": ") refl) h feed

pub fault_clean : (fault : NumberedFault) (cause file line : List ℕ) → Spelled cause → IsClean (fault_message fault cause file line)
fault_clean fault cause file line h =
    clean_of (fault_message fault cause file line)
    (three (first_line fault cause) (place_line file fault.line fault.column) (shown_line fault.text fault.column line) (first_clean fault cause h)
    (place_clean file fault.line fault.column) (line_clean fault.text fault.column line))
