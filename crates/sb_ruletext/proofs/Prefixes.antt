-- The first lines of a text.
use Rattle.std.proofs.Common.{◌≡◌, refl, sym, ap, ◌∙◌, List, [], ◌∷◌, ◌++◌, false, ℕ, None}
use Rattle.sb_rule.specs.declared.policies.Policy.{Policy}
use Rattle.sb_ruletext.specs.Laws.{FirstFaultsStay, LinesBeforeAreRead, SilentTextsLackAVersion}
use Rattle.sb_ruletext.specs.PolicyTexts.{grammar, reading}
use Rattle.sb_ruletext.specs.declared.faults.PolicyFaultKind.{PolicyFaultKind}
use Rattle.sb_ruletext.specs.declared.faults.PolicyFaultKind.TheVariants.{NotUtf8}
use Rattle.sb_text.specs.LineLaws.{ended}
use Rattle.sb_text.specs.Lines.{NumberedLine, lines_of}
use Rattle.sb_text.specs.ReadingLaws as laws
use Rattle.sb_text.specs.Readings.{read_by, where_utf8, is_some_line}
use Rattle.sb_text.specs.Utf8.{not_utf8_place}

-- a text that is UTF-8 is read by its lines
pub read_by_lines : (text : List ℕ) → not_utf8_place text ≡ None → reading text ≡ read_by grammar (lines_of text)
read_by_lines text h = ap (λ line. where_utf8 NotUtf8 line (read_by grammar (lines_of text))) h

pub first_faults_stay : laws.FirstFaultsStay (List Policy) PolicyFaultKind → FirstFaultsStay
first_faults_stay law front rest other fault u v s l e =
    read_by_lines (ended front ++ other) v ∙ law grammar front rest other fault s l (sym (read_by_lines (ended front ++ rest) u) ∙ e)

pub lines_before_are_read : laws.LinesBeforeAreRead (List Policy) PolicyFaultKind → LinesBeforeAreRead
lines_before_are_read law front rest fault u v s l e =
    let read = law grammar front rest fault s l (sym (read_by_lines (ended front ++ rest) u) ∙ e) in
    (read.0, read_by_lines (ended front) v ∙ read.1)

pub silent_texts_lack_a_version : SilentTextsLackAVersion
silent_texts_lack_a_version text u s = read_by_lines text u ∙ silent (lines_of text) s
  where
    silent : (lines : List NumberedLine) → is_some_line lines ≡ false → read_by grammar lines ≡ read_by grammar []
    silent [] h = refl
    silent (line ∷ lines) h = search h
