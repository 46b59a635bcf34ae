-- No line holds a control character except the LF at its end.
use Rattle.std.proofs.Common.{◌≡◌, ◌∙◌, ℕ, ◌+◌, ◌/◌, ◌%◌, Bool, true, false, not, cond, eqb, ltb, leb, ◌&&◌, ◌||◌, List, [], ◌∷◌, ◌++◌, length, map, drop, refl, ap, zero, suc, arith}
use Rattle.std.proofs.lemmas.Bool.Decides.{nat_tests}
use Rattle.std.proofs.lemmas.Bool.{and_parts, false≢true}
use Rattle.std.proofs.lemmas.List.Folds.{list_all-append}
use Rattle.std.specs.Fmt.{decimal, digits, digits_onto, digit_glyph}
use Rattle.std.specs.List.{flat_map, list_all, onto_first}
use Rattle.std.specs.Prelude.{codes, nat_le, nat_lt, slice_get, slice_index, ◌-◌, ◌==◌}
use Rattle.sb_base.specs.Quoting.{quoted, quoted_unit, hex_digit}
use Rattle.sb_call.specs.CallWords.{call_word}
use Rattle.sb_call.specs.ShortNames.{is_name_byte, is_short_name}
use Rattle.sb_call.specs.declared.arguments.Arg.{Arg}
use Rattle.sb_call.specs.declared.arguments.Arg.TheVariants.{Num, Str}
use Rattle.sb_statements.specs.declared.results.StmtResult.{StmtResult}
use Rattle.sb_statements.specs.declared.scripts.Script.{Script}
use Rattle.sb_statements.specs.declared.scripts.TargetScript.{TargetScript}
use Rattle.sb_call.specs.declared.tags.CallTag.{CallTag}
use Rattle.sb_call.specs.declared.tags.CallTag.TheVariants.{Ping, FileCreate, FileOpen, FileQuery, FileRename, PipeCreate, KeyCreate, KeyOpen, EventCreate, EventOpen, HandleClose}
use Rattle.sb_block.specs.declared.faults.BlockFault.{BlockFault}
use Rattle.sb_block.specs.declared.faults.BlockFault.TheVariants.{TooManyParams, BadEnd, CountChanged, EndChanged, BadParamType, BadPlace, UnknownTag, WrongShape, BadSize, BadName}
use Rattle.sb_book.specs.declared.entries.Entry.{Entry}
use Rattle.sb_book.specs.declared.reports.Report.{Report}
use Rattle.sb_base.specs.Numbers.{hexadecimal, eight_digits}
use Rattle.sb_transcript.specs.CommaWords.{more_words, comma_words}
use Rattle.sb_transcript.specs.EntryLines.{name_by, entry_line}
use Rattle.sb_transcript.specs.Fields.{all_after, argument_field, counted, decision_fields, entry_fields, fault_fields, reply_fields, result_fields, result_line_fields, totals_fields, written}
use Rattle.sb_transcript.specs.Printed.{shown_entry, shown_result_line}
use Rattle.sb_transcript.specs.ResultLines.{result_line}
use Rattle.sb_transcript.specs.Totals.{shown_totals, totals_line}
use Rattle.sb_transcript.specs.ReadingLaws.{LinesEndWithoutCr}
use Rattle.sb_transcript.specs.declared.read_lines.EntryLine.{EntryLine}
use Rattle.sb_transcript.specs.declared.read_lines.ResultLine.{ResultLine}
use Rattle.sb_transcript.specs.declared.read_lines.Line.TheVariants as line
use Rattle.sb_transcript.specs.declared.read_lines.ShownDecision.{ShownDecision}
use Rattle.sb_transcript.specs.declared.read_lines.ShownDecision.TheVariants as shown
use Rattle.sb_transcript.specs.declared.read_lines.ShownReply.{ShownReply}
use Rattle.sb_transcript.specs.declared.read_lines.ShownResult.{ShownResult}
use Rattle.sb_transcript.specs.declared.read_lines.ShownResult.TheVariants as result
use Rattle.sb_transcript.specs.declared.read_lines.TotalsLine.{TotalsLine}
use Rattle.sb_transcript.specs.Transcripts.{entry_lines, thread_lines, target_lines, result_lines, transcript_lines}
use Rattle.sb_transcript.specs.Laws.{cut_after_lf, LinesEndOnce, TranscriptsTellTheirLines}
use Rattle.sb_base.specs.OneLine.{is_no_lf, is_one_line}
use Rattle.sb_text.specs.Lines.{has_cr}
use Rattle.sb_statements.specs.SoundScripts.{has_short_name, has_short_names}
use Rattle.sb_outside.specs.Outside.{joined}

-- bytes without an LF
abbrev pub has_no_lf : List ℕ → Bool
has_no_lf bs = list_all is_no_lf bs

-- a byte that is no control character
abbrev is_shown : ℕ → Bool
is_shown b = nat_le 32 b

-- bytes without control characters
abbrev pub are_shown : List ℕ → Bool
are_shown bs = list_all is_shown bs

pub joined_shown : (a b : List ℕ) → are_shown a ≡ true → are_shown b ≡ true → are_shown (a ++ b) ≡ true
joined_shown a b ha hb = rw (list_all-append is_shown a b, ha, hb) refl

glyph_shown : (upper : Bool) (d : ℕ) → is_shown (digit_glyph upper d) ≡ true
glyph_shown true d = grind (arith, nat_tests)
glyph_shown false d = grind (arith, nat_tests)

by_test : (b : Bool) (x y : List ℕ) → are_shown x ≡ true → are_shown y ≡ true → are_shown (cond b x y) ≡ true
by_test true x y hx hy = hx
by_test false x y hx hy = hy

onto_shown : (k base : ℕ) (upper : Bool) (n : ℕ) (acc : List ℕ) → are_shown acc ≡ true → are_shown (digits_onto k base upper n acc) ≡ true
onto_shown zero base upper n acc h = h
onto_shown (suc k) base upper n acc h =
    let one : are_shown (digit_glyph upper (n % base) ∷ acc) ≡ true = joined_shown (digit_glyph upper (n % base) ∷ []) acc (rw (glyph_shown upper (n % base)) refl) h in
    by_test (eqb (n / base) 0) (digit_glyph upper (n % base) ∷ acc) _ one (onto_shown k base upper (n / base) (digit_glyph upper (n % base) ∷ acc) one)

pub digits_shown : (base : ℕ) (upper : Bool) (n : ℕ) → are_shown (digits base upper n) ≡ true
unfolding digits
digits_shown base upper n = onto_shown 64 base upper n [] refl

drop_shown : (n : ℕ) (bs : List ℕ) → are_shown bs ≡ true → are_shown (drop n bs) ≡ true
drop_shown zero bs h = h
drop_shown (suc n) [] h = refl
drop_shown (suc n) (b ∷ bs) h = drop_shown n bs (and_parts (is_shown b) (are_shown bs) h).1

pub eight_digits_shown : (n : ℕ) → are_shown (eight_digits n) ≡ true
eight_digits_shown n =
    joined_shown (drop (length (hexadecimal n)) (codes "00000000")) (hexadecimal n) (drop_shown (length (hexadecimal n)) (codes "00000000") refl) (digits_shown 16 false n)

more_words_shown : (ws : List ℕ) → are_shown (more_words ws) ≡ true
more_words_shown [] = refl
more_words_shown (w ∷ ws) = joined_shown (decimal w) (more_words ws) (digits_shown 10 false w) (more_words_shown ws)

pub comma_words_shown : (ws : List ℕ) → are_shown (comma_words ws) ≡ true
comma_words_shown [] = refl
comma_words_shown (w ∷ ws) = joined_shown (decimal w) (more_words ws) (digits_shown 10 false w) (more_words_shown ws)

abbrev unit_text : ℕ → Bool → Bool → List ℕ
unit_text u b1 b2 = cond b1 (92 ∷ u ∷ []) (cond b2 (u ∷ []) (92 ∷ 117 ∷ hex_digit (u / 4096) ∷ hex_digit (u / 256 % 16) ∷ hex_digit (u / 16 % 16) ∷ hex_digit (u % 16) ∷ []))

digit_shown : (d : ℕ) → is_shown (hex_digit d) ≡ true
digit_shown d = grind (arith, nat_tests)

written_shown : (u : ℕ) (b1 b2 : Bool) → (eqb u 34 || eqb u 92) ≡ b1 → (leb 32 u && leb u 126) ≡ b2 → are_shown (unit_text u b1 b2) ≡ true
written_shown u true b2 e1 e2 = grind (arith, nat_tests)
written_shown u false true e1 e2 = grind (arith, nat_tests)
written_shown u false false e1 e2 = rw (digit_shown (u / 4096), digit_shown (u / 256 % 16), digit_shown (u / 16 % 16), digit_shown (u % 16)) refl

units_shown : (us : List ℕ) → are_shown (flat_map quoted_unit us) ≡ true
units_shown [] = refl
units_shown (u ∷ us) =
    joined_shown (quoted_unit u) (flat_map quoted_unit us) (written_shown u (eqb u 34 || eqb u 92) (leb 32 u && leb u 126) refl refl) (units_shown us)

pub quoted_shown : (us : List ℕ) → are_shown (quoted us) ≡ true
quoted_shown us = joined_shown (flat_map quoted_unit us) (34 ∷ []) (units_shown us) refl

decimal_shown : (n : ℕ) → are_shown (decimal n) ≡ true
decimal_shown n = digits_shown 10 false n

hexadecimal_shown : (n : ℕ) → are_shown (hexadecimal n) ≡ true
hexadecimal_shown n = digits_shown 16 false n

-- names

name_byte_shown : (b : ℕ) → is_name_byte b ≡ true → is_shown b ≡ true
name_byte_shown b h = grind (arith, nat_tests)

name_bytes_shown : (bs : List ℕ) → list_all is_name_byte bs ≡ true → are_shown bs ≡ true
name_bytes_shown [] h = refl
name_bytes_shown (b ∷ bs) h =
    let p = and_parts (is_name_byte b) (list_all is_name_byte bs) h in
    rw (name_byte_shown b p.0, name_bytes_shown bs p.1) refl

short_name_shown : (name : List ℕ) → is_short_name name ≡ true → are_shown name ≡ true
short_name_shown name h = name_bytes_shown name (and_parts (ltb 0 (length name) && leb (length name) 32) (list_all is_name_byte name) h).1

name_by_shown : (targets : List TargetScript) (n : ℕ) → list_all has_short_name targets ≡ true → are_shown (name_by (slice_get targets n)) ≡ true
name_by_shown [] n h = refl
name_by_shown (t ∷ ts) zero h = short_name_shown t.name (and_parts (has_short_name t) (list_all has_short_name ts) h).0
name_by_shown (t ∷ ts) (suc n) h = name_by_shown ts n (and_parts (has_short_name t) (list_all has_short_name ts) h).1

call_word_shown : (tag : CallTag) → are_shown (call_word tag) ≡ true
call_word_shown Ping = refl
call_word_shown FileCreate = refl
call_word_shown FileOpen = refl
call_word_shown FileQuery = refl
call_word_shown FileRename = refl
call_word_shown PipeCreate = refl
call_word_shown KeyCreate = refl
call_word_shown KeyOpen = refl
call_word_shown EventCreate = refl
call_word_shown EventOpen = refl
call_word_shown HandleClose = refl

-- ---- fields

-- fields that show nothing else
abbrev fields_are_shown : List (List ℕ) → Bool
fields_are_shown fields = list_all are_shown fields

fields_shown : (fields : List (List ℕ)) → fields_are_shown fields ≡ true → are_shown (all_after 32 fields) ≡ true
fields_shown [] h = refl
fields_shown (field ∷ fields) h =
    let p = and_parts (are_shown field) (fields_are_shown fields) h in
    joined_shown field (all_after 32 fields) p.0 (fields_shown fields p.1)

fault_shown : (fault : BlockFault) → fields_are_shown (fault_fields fault) ≡ true
fault_shown (TooManyParams n) = rw (decimal_shown n) refl
fault_shown (BadEnd e) = rw (decimal_shown e) refl
fault_shown (CountChanged a b) = rw (decimal_shown a, decimal_shown b) refl
fault_shown (EndChanged a b) = rw (decimal_shown a, decimal_shown b) refl
fault_shown (BadParamType i) = rw (decimal_shown i) refl
fault_shown (BadPlace i) = rw (decimal_shown i) refl
fault_shown (UnknownTag t) = rw (decimal_shown t) refl
fault_shown WrongShape = refl
fault_shown (BadSize i) = rw (decimal_shown i) refl
fault_shown (BadName i) = rw (decimal_shown i) refl

argument_shown : (arg : Arg) → are_shown (argument_field arg) ≡ true
argument_shown (Num n) = hexadecimal_shown n
argument_shown (Str units) = quoted_shown units

arguments_shown : (args : List Arg) → fields_are_shown (map argument_field args) ≡ true
arguments_shown [] = refl
arguments_shown (arg ∷ args) = rw (argument_shown arg, arguments_shown args) refl

performed_shown : (tag : CallTag) (args : List Arg) (word : List ℕ) (n : ℕ) → are_shown word ≡ true
    → fields_are_shown (codes "performed" ∷ call_word tag ∷ (map argument_field args ++ counted word n)) ≡ true
performed_shown tag args word n h =
    rw (call_word_shown tag, list_all-append are_shown (map argument_field args) (counted word n), arguments_shown args, h, decimal_shown n) refl

decision_shown : (d : ShownDecision) → fields_are_shown (decision_fields d) ≡ true
decision_shown (shown.Refused fault) = fault_shown fault
decision_shown (shown.NoRule tag) = rw (call_word_shown tag) refl
decision_shown (shown.Denied tag n) = rw (call_word_shown tag, decimal_shown n) refl
decision_shown (shown.Alarmed tag n) = rw (call_word_shown tag, decimal_shown n) refl
decision_shown (shown.Faked tag n) = rw (call_word_shown tag, decimal_shown n) refl
decision_shown (shown.Allowed tag args n) = performed_shown tag args (codes "rule") n refl
decision_shown (shown.ReadOnly tag args n) = performed_shown tag args (codes "readonly") n refl

ext_shown : (words : List ℕ) → are_shown (91 ∷ (comma_words words ++ 93 ∷ [])) ≡ true
ext_shown words = joined_shown (comma_words words) (93 ∷ []) (comma_words_shown words) refl

reply_shown : (r : ShownReply) → fields_are_shown (reply_fields r) ≡ true
reply_shown r = rw (decimal_shown r.outcome, eight_digits_shown r.status, decimal_shown r.handle, ext_shown r.ext) refl

result_shown : (r : ShownResult) → fields_are_shown (result_fields r) ≡ true
result_shown (result.Reply channel reply) = rw (decimal_shown channel, reply_shown reply) refl
result_shown result.NoChannel = refl
result_shown (result.SendLost channel found) = rw (decimal_shown channel, decimal_shown found) refl
result_shown (result.Foreign channel mark) = rw (decimal_shown channel, decimal_shown mark) refl
result_shown (result.TimedOut channel) = rw (decimal_shown channel) refl
result_shown result.Stored = refl
result_shown (result.Found value) = rw (decimal_shown value) refl
result_shown (result.Met loads) = rw (decimal_shown loads) refl
result_shown (result.Unmet loads) = rw (decimal_shown loads) refl

-- bytes without an LF, and then one
pub ended : (bs : List ℕ) → has_no_lf bs ≡ true → is_one_line (bs ++ codes "\n") ≡ true
ended [] h = refl
ended (b ∷ []) h = h
ended (b ∷ c ∷ bs) h =
    let p = and_parts (is_no_lf b) (has_no_lf (c ∷ bs)) h in
    rw (p.0, ended (c ∷ bs) p.1) refl

-- so are bytes without control characters
shown_no_lf : (bs : List ℕ) → are_shown bs ≡ true → has_no_lf bs ≡ true
shown_no_lf [] h = refl
shown_no_lf (b ∷ bs) h =
    let p = and_parts (is_shown b) (are_shown bs) h in
    let first : is_no_lf b ≡ true = other_byte b p.0 in
    rw (first, shown_no_lf bs p.1) refl
  where
    other_byte : (b : ℕ) → is_shown b ≡ true → is_no_lf b ≡ true
    other_byte b h = grind (arith, nat_tests)

shown_ends : (bs : List ℕ) → are_shown bs ≡ true → is_one_line (bs ++ codes "\n") ≡ true
shown_ends bs h = ended bs (shown_no_lf bs h)

-- and none of them is a CR
shown_at : (bs : List ℕ) (n : ℕ) → are_shown bs ≡ true → (slice_index bs n == 13) ≡ false
shown_at [] n h = refl
shown_at (b ∷ bs) zero h = other_byte b (and_parts (is_shown b) (are_shown bs) h).0
  where
    other_byte : (b : ℕ) → is_shown b ≡ true → (b == 13) ≡ false
    other_byte b h = grind (arith, nat_tests)
shown_at (b ∷ bs) (suc n) h = shown_at bs n (and_parts (is_shown b) (are_shown bs) h).1

no_and : (t : Bool) → (t && false) ≡ false
no_and true = refl
no_and false = refl

shown_without_cr : (bs : List ℕ) → are_shown bs ≡ true → has_cr bs ≡ false
shown_without_cr bs h = ap (λ t. nat_lt 0 (length bs) && t) (shown_at bs (length bs - 1) h) ∙ no_and (nat_lt 0 (length bs))

-- ---- lines

entry_shown : (e : EntryLine) → are_shown e.target ≡ true → are_shown (written (line.Entry e)) ≡ true
entry_shown e name =
    let rest : fields_are_shown (decision_fields e.decision ++ codes "reply" ∷ reply_fields e.reply) ≡ true =
    rw (list_all-append are_shown (decision_fields e.decision) (codes "reply" ∷ reply_fields e.reply), decision_shown e.decision, reply_shown e.reply) refl in
    let all : fields_are_shown (entry_fields e) ≡ true = rw (decimal_shown e.number, name, decimal_shown e.channel, decimal_shown e.mark, rest) refl in
    joined_shown (codes "entry") (all_after 32 (entry_fields e)) refl (fields_shown (entry_fields e) all)

result_line_shown : (r : ResultLine) → are_shown r.target ≡ true → are_shown (written (line.Result r)) ≡ true
result_line_shown r name =
    let all : fields_are_shown (result_line_fields r) ≡ true = rw (name, decimal_shown r.thread, decimal_shown r.place, result_shown r.result) refl in
    joined_shown (codes "result") (all_after 32 (result_line_fields r)) refl (fields_shown (result_line_fields r) all)

totals_shown : (t : TotalsLine) → are_shown (written (line.Totals t)) ≡ true
totals_shown t =
    let all : fields_are_shown (totals_fields t) ≡ true =
    rw (decimal_shown t.entries, decimal_shown t.performed, decimal_shown t.faked, decimal_shown t.denied, decimal_shown t.refused, decimal_shown t.results) refl in
    joined_shown (codes "total") (all_after 32 (totals_fields t)) refl (fields_shown (totals_fields t) all)

pub lines_end_without_cr : LinesEndWithoutCr
lines_end_without_cr (line.Entry e) h = shown_without_cr (written (line.Entry e)) (entry_shown e (short_name_shown e.target h.target))
lines_end_without_cr (line.Result r) h = shown_without_cr (written (line.Result r)) (result_line_shown r (short_name_shown r.target h.target))
lines_end_without_cr (line.Totals t) h = shown_without_cr (written (line.Totals t)) (totals_shown t)

entry_ends : (script : Script) → has_short_names script ≡ true → (n : ℕ) (e : Entry) → is_one_line (entry_line script n e) ≡ true
entry_ends script short n e = shown_ends (written (line.Entry (shown_entry script n e))) (entry_shown (shown_entry script n e) (name_by_shown script.targets e.target short))

result_ends : (script : Script) → has_short_names script ≡ true → (target thread place : ℕ) (r : StmtResult) → is_one_line (result_line script target thread place r) ≡ true
result_ends script short target thread place r =
    shown_ends (written (line.Result (shown_result_line script target thread place r)))
    (result_line_shown (shown_result_line script target thread place r) (name_by_shown script.targets target short))

totals_end_once : (report : Report) → is_one_line (totals_line report) ≡ true
totals_end_once report = shown_ends (written (line.Totals (shown_totals report))) (totals_shown (shown_totals report))

-- lists of lines

abbrev pub each_ends : List (List ℕ) → Bool
each_ends lines = list_all is_one_line lines

joined_ends : (a b : List (List ℕ)) → each_ends a ≡ true → each_ends b ≡ true → each_ends (a ++ b) ≡ true
joined_ends a b ha hb = rw (list_all-append is_one_line a b, ha, hb) refl

entries_end : (script : Script) → has_short_names script ≡ true → (n : ℕ) (es : List Entry) → each_ends (entry_lines script n es) ≡ true
entries_end script short n [] = refl
entries_end script short n (e ∷ es) = rw (entry_ends script short n e, entries_end script short (n + 1) es) refl

thread_ends : (script : Script) → has_short_names script ≡ true → (target thread place : ℕ) (rs : List StmtResult) → each_ends (thread_lines script target thread place rs) ≡ true
thread_ends script short target thread place [] = refl
thread_ends script short target thread place (r ∷ rs) =
    rw (result_ends script short target thread place r, thread_ends script short target thread (place + 1) rs) refl

target_ends : (script : Script) → has_short_names script ≡ true → (target thread : ℕ) (threads : List (List StmtResult)) → each_ends (target_lines script target thread threads) ≡ true
target_ends script short target thread [] = refl
target_ends script short target thread (rs ∷ more) =
    joined_ends (thread_lines script target thread 0 rs) (target_lines script target (thread + 1) more) (thread_ends script short target thread 0 rs) (target_ends script short target (thread + 1) more)

results_end : (script : Script) → has_short_names script ≡ true → (target : ℕ) (targets : List (List (List StmtResult))) → each_ends (result_lines script target targets) ≡ true
results_end script short target [] = refl
results_end script short target (threads ∷ more) =
    joined_ends (target_lines script target 0 threads) (result_lines script (target + 1) more) (target_ends script short target 0 threads) (results_end script short (target + 1) more)

pub lines_end_once : LinesEndOnce
lines_end_once policies script report ready =
    let short = ready.short in
    joined_ends (entry_lines script 0 report.entries ++ result_lines script 0 report.results) (totals_line report ∷ [])
    (joined_ends (entry_lines script 0 report.entries) (result_lines script 0 report.results) (entries_end script short 0 report.entries) (results_end script short 0 report.results))
    (rw (totals_end_once report) refl)

not_true : (b : Bool) → not b ≡ true → b ≡ false
not_true true h = absurd (false≢true h)
not_true false h = refl

-- a line that ends once is cut off as it is
cut_line : (line rest : List ℕ) → is_one_line line ≡ true → cut_after_lf (line ++ rest) ≡ line ∷ cut_after_lf rest
cut_line [] rest h = absurd (false≢true h)
cut_line (b ∷ []) rest h = rw h refl
cut_line (b ∷ c ∷ bs) rest h =
    let p = and_parts (is_no_lf b) (is_one_line (c ∷ bs)) h in
    let other : eqb b 10 ≡ false = not_true (eqb b 10) p.0 in
    let later : cut_after_lf (c ∷ (bs ++ rest)) ≡ (c ∷ bs) ∷ cut_after_lf rest = cut_line (c ∷ bs) rest p.1 in
    ap (λ t. cond t ((b ∷ []) ∷ cut_after_lf (c ∷ (bs ++ rest))) (onto_first b (cut_after_lf (c ∷ (bs ++ rest))))) other ∙ ap (onto_first b) later

cut_lines : (lines : List (List ℕ)) → each_ends lines ≡ true → cut_after_lf (joined lines) ≡ lines
cut_lines [] h = refl
cut_lines (line ∷ lines) h =
    let p = and_parts (is_one_line line) (each_ends lines) h in
    cut_line line (joined lines) p.0 ∙ ap (λ more. line ∷ more) (cut_lines lines p.1)

pub transcripts_tell_their_lines : TranscriptsTellTheirLines
transcripts_tell_their_lines policies script report ready = cut_lines (transcript_lines script report) (lines_end_once policies script report ready)
