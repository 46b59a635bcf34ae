-- The laws of lines.
use Rattle.std.proofs.Common.{◌≡◌, ◌∙◌, ℕ, Bool, true, false, cond, List, [], ◌∷◌, ◌++◌, Option, None, Some, codes, refl, sym, ap}
use Rattle.std.proofs.lemmas.Option.{none-some}
use Rattle.std.specs.Cmp.Lexicographic.{bytes_decides}
use Rattle.sb_transcript.specs.Cuts.{cut}
use Rattle.sb_transcript.specs.Fields.{all_after, first_word, line_fields, written, entry_fields, result_line_fields, totals_fields}
use Rattle.sb_transcript.specs.ReadingLaws.{IsLineOf, LinesAreRead, LinesDiffer, ReadLinesAreWritten, ReadingIsExact}
use Rattle.sb_transcript.specs.Ranges.{InRange}
use Rattle.sb_transcript.specs.Reading.{line_of_fields, candidate, is_text_of, line_of}
use Rattle.sb_transcript.specs.Steps.{◌>>=◌}
use Rattle.sb_transcript.specs.declared.cuts.Place.TheVariants.{Plain}
use Rattle.sb_transcript.specs.declared.read_lines.Line.{Line}
use Rattle.sb_transcript.specs.declared.read_lines.Line.TheVariants as line
use Rattle.sb_transcript.proofs.EntriesBack.{entry_back, entry_passes}
use Rattle.sb_transcript.proofs.PassingLines.{AllPass, plain_leads, cut_back}
use Rattle.sb_transcript.proofs.ResultsBack.{result_line_back, result_line_passes, totals_back, totals_pass}

line_back : (l : Line) → InRange l → line_of_fields (first_word l ∷ line_fields l) ≡ Some l
line_back (line.Entry e) h = ap (λ o. o >>= λ read. Some (line.Entry read.0)) (entry_back e h)
line_back (line.Result r) h = ap (λ o. o >>= λ read. Some (line.Result read.0)) (result_line_back r h)
line_back (line.Totals t) h = ap (λ o. o >>= λ read. Some (line.Totals read.0)) (totals_back t h)

cut_written : (word : List ℕ) (fields : List (List ℕ)) → AllPass 32 (word ∷ fields) → cut 32 Plain [] (word ++ all_after 32 fields) ≡ word ∷ fields
cut_written word fields a = a.0 [] (all_after 32 fields) ∙ cut_back 32 word fields refl a.1

line_cut : (l : Line) → InRange l → cut 32 Plain [] (written l) ≡ first_word l ∷ line_fields l
line_cut (line.Entry e) h = cut_written (codes "entry") (entry_fields e) (plain_leads 32 (codes "entry") refl, entry_passes e h)
line_cut (line.Result r) h = cut_written (codes "result") (result_line_fields r) (plain_leads 32 (codes "result") refl, result_line_passes r h)
line_cut (line.Totals t) h = cut_written (codes "total") (totals_fields t) (plain_leads 32 (codes "total") refl, totals_pass t h)

candidate_back : (l : Line) → InRange l → candidate (written l) ≡ Some l
candidate_back l h = ap line_of_fields (line_cut l h) ∙ line_back l h

pub lines_read : LinesAreRead
lines_read l h =
    ap (λ o. o >>= λ m. cond (is_text_of m (written l)) (Some m) None) (candidate_back l h)
    ∙ ap (λ t. cond t (Some l) None) ((bytes_decides (written l) (written l)).1 refl)

abbrev unwrap : Line → Option Line → Line
unwrap l None = l
unwrap l (Some m) = m

chosen : (m l : Line) (bytes : List ℕ) (t : Bool) → is_text_of m bytes ≡ t → cond t (Some m) None ≡ Some l → written l ≡ bytes
chosen m l bytes true e h = ap (λ o. written (unwrap m o)) (sym h) ∙ (bytes_decides (written m) bytes).0 e
chosen m l bytes false e h = absurd (cc)

from_candidate : (o : Option Line) (l : Line) (bytes : List ℕ) → (o >>= λ m. cond (is_text_of m bytes) (Some m) None) ≡ Some l → written l ≡ bytes
from_candidate None l bytes h = absurd (cc)
from_candidate (Some m) l bytes h = chosen m l bytes (is_text_of m bytes) refl h

pub read_written : ReadLinesAreWritten
read_written bytes l h = from_candidate (candidate bytes) l bytes h

pub exact : ReadingIsExact
exact bytes = by_line (line_of bytes) refl
  where
    by_line : (o : Option Line) → line_of bytes ≡ o → IsLineOf bytes o
    by_line (Some l) e = read_written bytes l e
    by_line None e = λ l h w. none-some l (sym e ∙ (ap line_of (sym w) ∙ lines_read l h))

pub differ : LinesDiffer
differ a b ha hb e = ap (unwrap a) (sym (lines_read a ha) ∙ ap line_of e ∙ lines_read b hb)
