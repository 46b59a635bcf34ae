-- What is true of what is noted of patterns.
use Rattle.std.specs.Prelude.{◌≡◌, ℕ, true, false, List, ◌∷◌, Some}
use Rattle.sb_glyphs.specs.CleanTexts.{IsClean}
use Rattle.sb_ruletext.specs.NoteKinds.{kind_of}
use Rattle.sb_message.specs.NoteMessages.{notes_message}
use Rattle.sb_ruletext.specs.declared.note_kinds.NoteKind.TheVariants.{UnescapedPrefix, MatchesNoName}
use Rattle.sb_rule.specs.Matching.{matches}
use Rattle.sb_rule.specs.PatternReading.{cells_of}
use Rattle.sb_base.specs.Names.{is_name_of}

-- a pattern that is noted to match no name matches none; and one that is noted to begin with `\??\` matches a string with any units in the place of the two
-- question marks exactly if it matches it with them
abbrev pub NotesAreTrue : Type 0
NotesAreTrue =
    ((units us : List ℕ) → kind_of units ≡ Some MatchesNoName → is_name_of us ≡ true → matches (cells_of units) us ≡ false)
    × ((units us : List ℕ) (u v : ℕ) → kind_of units ≡ Some UnescapedPrefix
    → matches (cells_of units) (92 ∷ u ∷ v ∷ us) ≡ matches (cells_of units) (92 ∷ 63 ∷ 63 ∷ us))

-- what is written of the notes of a policy file is clean, whatever the bytes of its name and of its text are
abbrev pub NotesAreClean : Type 0
NotesAreClean = (file text : List ℕ) → IsClean (notes_message file text)
