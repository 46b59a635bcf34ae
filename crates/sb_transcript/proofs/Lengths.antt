-- How long a transcript is at most: each part of a line, each line, and then their sum.
use Rattle.std.proofs.Common.{◌≡◌, ◌∙◌, refl, ap, sym, subst, ℕ, zero, suc, ◌+◌, ◌*◌, ◌<◌, ◌≤◌, ◌^◌, ◌==◌, Bool, true, false, cond, ◌&&◌, ◌||◌, ◌/◌, List, [], ◌∷◌, ◌++◌, length, map, take, drop, Option, None, Some, slice_get, slice_index_or, codes, lit≤, arith, length-append}
use Rattle.std.specs.Prelude.{is_ok, nat_le, nat_lt, slice_index}
use Rattle.std.specs.Fmt.{decimal}
use Rattle.std.specs.List.{count_by, flat_map, list_all, sum_by}
use Rattle.std.proofs.lemmas.Bool.{and_parts}
use Rattle.std.proofs.lemmas.Bool.Decides.{nat_tests}
use Rattle.std.proofs.lemmas.Grind.{flat_map-append}
use Rattle.std.proofs.lemmas.List.Concat.{length-flat_map}
use Rattle.std.proofs.lemmas.List.Sums.{count_by-le-length, sum_by-append, sum_by-cons}
use Rattle.sb_base.specs.Numbers.{eight_digits, hexadecimal, is_word64}
use Rattle.sb_base.specs.Quoting.{quoted, quoted_unit}
use Rattle.sb_block.specs.Calls.{argument_in, call_of, call_unless}
use Rattle.sb_block.specs.Copies.{Copied, is_copy, mark_of}
use Rattle.sb_block.specs.Faults.{fault}
use Rattle.sb_block.specs.Laws.{FaultlessCopiesFit}
use Rattle.sb_block.specs.Layout.{descriptors, first_offset, most_parameters, most_words}
use Rattle.sb_block.specs.Packing.{offset_of, part_of, size_of, string_in, type_of, word_units, words_for}
use Rattle.sb_block.specs.declared.faults.BlockFault.{BlockFault}
use Rattle.sb_block.specs.declared.faults.BlockFault.TheVariants.{TooManyParams, BadEnd, CountChanged, EndChanged, BadParamType, BadPlace, UnknownTag, WrongShape, BadSize, BadName}
use Rattle.sb_book.specs.Decisions.{by_decoded, by_verdict, decision_of, read_only_args}
use Rattle.sb_book.specs.Histories.{IsLegalFrom, setting_of, space_after}
use Rattle.sb_book.specs.Readiness.{IsReady, is_judged}
use Rattle.sb_book.specs.Reports.{result_count, thread_count}
use Rattle.sb_book.specs.declared.decisions.Decision.{Decision}
use Rattle.sb_book.specs.declared.entries.Entry.{Entry}
use Rattle.sb_book.specs.declared.reports.Report.{Report}
use Rattle.sb_call.specs.Arguments.{fit, fits, fits_kind}
use Rattle.sb_call.specs.CallWords.{call_word}
use Rattle.sb_call.specs.ShortNames.{is_name_byte, is_short_name}
use Rattle.sb_call.specs.Tags.{shape_of}
use Rattle.sb_call.specs.declared.arguments.Arg.{Arg}
use Rattle.sb_call.specs.declared.arguments.Arg.TheVariants.{Num, Str}
use Rattle.sb_call.specs.declared.tags.CallTag.{CallTag}
use Rattle.sb_call.specs.declared.tags.CallTag.TheVariants.{Ping, FileCreate, FileOpen, FileQuery, FileRename, PipeCreate, KeyCreate, KeyOpen, EventCreate, EventOpen, HandleClose}
use Rattle.sb_call.specs.declared.tags.ParamKind.{ParamKind}
use Rattle.sb_call.specs.declared.tags.ParamKind.TheVariants as kind
use Rattle.sb_kernel.specs.Namespaces.{Space}
use Rattle.sb_kernel.specs.Openings.{opened, opening}
use Rattle.sb_outside.specs.Outside.{joined}
use Rattle.sb_rule.specs.Verdicts.{policy_at, verdict_of}
use Rattle.sb_rule.specs.WellMade.{are_well_made}
use Rattle.sb_rule.specs.declared.actions.Action.TheVariants as action
use Rattle.sb_rule.specs.declared.policies.Policy.{Policy}
use Rattle.sb_rule.specs.declared.verdicts.Verdict.{Verdict}
use Rattle.sb_rule.specs.declared.verdicts.Verdict.TheVariants as verdict
use Rattle.sb_statements.specs.SoundScripts.{has_short_name}
use Rattle.sb_statements.specs.Soundness.{are_targets, is_patience, is_sound, is_start, is_target, is_thread, names_differ}
use Rattle.sb_statements.specs.declared.results.StmtResult.{StmtResult}
use Rattle.sb_statements.specs.declared.scripts.Script.{Script}
use Rattle.sb_statements.specs.declared.scripts.TargetScript.{TargetScript}
use Rattle.sb_transcript.specs.CommaWords.{comma_words, more_words}
use Rattle.sb_transcript.specs.EntryLines.{entry_line, name_by, target_name}
use Rattle.sb_transcript.specs.Fields.{after_separator, all_after, argument_field, argument_text, counted, decision_fields, entry_fields, fault_fields, place_fields, reply_fields, result_fields, result_line_fields, totals_fields}
use Rattle.sb_transcript.specs.Lengths.{EntryLinesAreShort, IsWithinLimits, ResultLinesAreShort, TotalsAreShort, TranscriptsAreShort}
use Rattle.sb_transcript.specs.Printable.{ArePrintableResults, Each, IsPrintableEntry, IsPrintableResult}
use Rattle.sb_transcript.specs.Printed.{shown_decision, shown_entry, shown_result_line}
use Rattle.sb_transcript.specs.Ranges.{DecisionInRange, FaultInRange, ReplyInRange, ResultInRange, is_argument}
use Rattle.sb_transcript.specs.ResultLines.{result_line}
use Rattle.sb_transcript.specs.Totals.{is_denied, is_faked, is_performed, is_refused, shown_totals, totals_line}
use Rattle.sb_transcript.specs.Transcripts.{entry_lines, result_lines, target_lines, thread_lines, transcript_lines}
use Rattle.sb_transcript.specs.declared.read_lines.ShownReply.{ShownReply}
use Rattle.sb_transcript.specs.declared.read_lines.ShownResult.{ShownResult}
use Rattle.sb_transcript.specs.declared.read_lines.ShownResult.TheVariants as shown
use Rattle.sb_transcript.proofs.NumbersBack.{below_64, decimal_short, hexadecimal_short}
use Rattle.sb_transcript.proofs.Putting.{arguments_same}
use Rattle.sb_transcript.proofs.PlaceLaws.{result_count-cons, thread_count-cons}

-- ---- parts one after another

-- bytes that are at most this many
record Within (bytes : List ℕ) (most : ℕ) : Type 0 where
  few : length bytes ≤ most

part : (a : List ℕ) (m : ℕ) → length a ≤ m → Within a m
part a m h = record { few = h }

infixl 10 ◌⊕◌
-- a part with one more after it
◌⊕◌ : {a b : List ℕ} {m k : ℕ} → Within a m → Within b k → Within (a ++ b) (m + k)
◌⊕◌ {a} {b} {m} {k} x y =
    let both = length-append a b in
    let first = x.few in
    let second = y.few in
    record { few = omega (arith, both, first, second) }

number : (n : ℕ) → n < 2 ^ 64 → Within (decimal n) 20
number n h = record { few = decimal_short n h }

at_most : (a b c : ℕ) → a ≤ b → b ≤ c → a ≤ c
at_most a b c p q = omega (arith, p, q)

take_most : {X : Type 0} (n : ℕ) (xs : List X) → length (take n xs) ≤ length xs
take_most zero xs = omega arith
take_most (suc n) [] = lit≤ tt
take_most (suc n) (x ∷ xs) = let rest = take_most n xs in omega (arith, rest)

drop_most : {X : Type 0} (n : ℕ) (xs : List X) → length (drop n xs) ≤ length xs
drop_most zero xs = omega arith
drop_most (suc n) [] = lit≤ tt
drop_most (suc n) (x ∷ xs) = let rest = drop_most n xs in omega (arith, rest)

-- ---- fields

-- fields, each after a blank, that are at most this many bytes
record Fit (fields : List (List ℕ)) (most : ℕ) : Type 0 where
  few : length (all_after 32 fields) ≤ most

no_fields : Fit [] 0
no_fields = record { few = lit≤ tt }

infixr 10 ◌⊗◌
-- a field with others after it
◌⊗◌ : {field : List ℕ} {fields : List (List ℕ)} {m k : ℕ} → Within field m → Fit fields k → Fit (field ∷ fields) (1 + m + k)
◌⊗◌ {field} {fields} {m} {k} x y =
    let both = length-append (32 ∷ field) (all_after 32 fields) in
    let first = x.few in
    let rest = y.few in
    record { few = omega (arith, both, first, rest) }

-- fields with others after them
fit_both : (fields more : List (List ℕ)) (m k : ℕ) → Fit fields m → Fit more k → Fit (fields ++ more) (m + k)
fit_both fields more m k x y =
    let same = ap (λ (l : List ℕ). length l) (flat_map-append (after_separator 32) fields more) in
    let both = length-append (all_after 32 fields) (all_after 32 more) in
    let first = x.few in
    let rest = y.few in
    record { few = omega (arith, same, both, first, rest) }

fit_most : (fields : List (List ℕ)) (m k : ℕ) → Fit fields m → m ≤ k → Fit fields k
fit_most fields m k x h = record { few = at_most _ _ _ x.few h }

-- ---- replies

status_short : (n : ℕ) → n < 2 ^ 64 → length (eight_digits n) ≤ 24
status_short n h =
    let b = part (drop (length (hexadecimal n)) (codes "00000000")) 8 (drop_most (length (hexadecimal n)) (codes "00000000")) ⊕ part (hexadecimal n) 16 (hexadecimal_short n h) in
    at_most _ _ _ b.few (lit≤ tt)

small_word : (n : ℕ) → is_word64 n ≡ true → n < 2 ^ 64
small_word n h = grind (arith, nat_tests)

more_short : (ws : List ℕ) → list_all is_word64 ws ≡ true → length (more_words ws) ≤ 21 * length ws
more_short [] h = lit≤ tt
more_short (w ∷ ws) h =
    let parts = and_parts (is_word64 w) (list_all is_word64 ws) h in
    let first = decimal_short w (small_word w parts.0) in
    let rest = more_short ws parts.1 in
    let both = length-append (decimal w) (more_words ws) in
    omega (arith, first, rest, both)

words_short : (ws : List ℕ) → list_all is_word64 ws ≡ true → length (comma_words ws) ≤ 21 * length ws
words_short [] h = lit≤ tt
words_short (w ∷ ws) h =
    let parts = and_parts (is_word64 w) (list_all is_word64 ws) h in
    let first = decimal_short w (small_word w parts.0) in
    let rest = more_short ws parts.1 in
    let both = length-append (decimal w) (more_words ws) in
    omega (arith, first, rest, both)

reply_fit : (r : ShownReply) → ReplyInRange r → Fit (reply_fields r) 220
reply_fit r h =
    let words = words_short r.ext h.words in
    let few = h.few in
    let seven : length (comma_words r.ext) ≤ 147 = omega (arith, words, few) in
    let ext = part (codes "[") 1 (lit≤ tt) ⊕ (part (comma_words r.ext) 147 seven ⊕ part (codes "]") 1 (lit≤ tt)) in
    fit_most _ _ _ (number r.outcome h.outcome ⊗ (part (eight_digits r.status) 24 (status_short r.status h.status) ⊗ (number r.handle h.handle ⊗ (ext ⊗ no_fields)))) (lit≤ tt)

-- ---- decisions

word : (w : List ℕ) (m : ℕ) → length w ≤ m → Within w m
word w m h = part w m h

counted_fit : (w : List ℕ) (n m : ℕ) → length w ≤ m → n < 2 ^ 64 → Fit (counted w n) (m + 22)
counted_fit w n m h l = fit_most _ _ _ (word w m h ⊗ (number n l ⊗ no_fields)) (omega arith)

pair_fit : (w : List ℕ) (a b m : ℕ) → length w ≤ m → a < 2 ^ 64 → b < 2 ^ 64 → Fit (w ∷ decimal a ∷ decimal b ∷ []) (m + 43)
pair_fit w a b m h k l = fit_most _ _ _ (word w m h ⊗ (number a k ⊗ (number b l ⊗ no_fields))) (omega arith)

fault_fit : (f : BlockFault) → FaultInRange f → Fit (fault_fields f) 60
fault_fit (TooManyParams n) h = fit_most _ _ _ (counted_fit (codes "too-many-params") n 15 (lit≤ tt) h) (lit≤ tt)
fault_fit (BadEnd n) h = fit_most _ _ _ (counted_fit (codes "bad-end") n 7 (lit≤ tt) h) (lit≤ tt)
fault_fit (CountChanged a b) h = fit_most _ _ _ (pair_fit (codes "count-changed") a b 13 (lit≤ tt) h.0 h.1) (lit≤ tt)
fault_fit (EndChanged a b) h = fit_most _ _ _ (pair_fit (codes "end-changed") a b 11 (lit≤ tt) h.0 h.1) (lit≤ tt)
fault_fit (BadParamType i) h = fit_most _ _ _ (counted_fit (codes "bad-param-type") i 14 (lit≤ tt) (below_64 i h)) (lit≤ tt)
fault_fit (BadPlace i) h = fit_most _ _ _ (counted_fit (codes "bad-place") i 9 (lit≤ tt) (below_64 i h)) (lit≤ tt)
fault_fit (UnknownTag n) h = fit_most _ _ _ (counted_fit (codes "unknown-tag") n 11 (lit≤ tt) h) (lit≤ tt)
fault_fit WrongShape h = record { few = lit≤ tt }
fault_fit (BadSize i) h = fit_most _ _ _ (counted_fit (codes "bad-size") i 8 (lit≤ tt) (below_64 i h)) (lit≤ tt)
fault_fit (BadName i) h = fit_most _ _ _ (counted_fit (codes "bad-name") i 8 (lit≤ tt) (below_64 i h)) (lit≤ tt)

word_short : (tag : CallTag) → length (call_word tag) ≤ 12
word_short Ping = lit≤ tt
word_short FileCreate = lit≤ tt
word_short FileOpen = lit≤ tt
word_short FileQuery = lit≤ tt
word_short FileRename = lit≤ tt
word_short PipeCreate = lit≤ tt
word_short KeyCreate = lit≤ tt
word_short KeyOpen = lit≤ tt
word_short EventCreate = lit≤ tt
word_short EventOpen = lit≤ tt
word_short HandleClose = lit≤ tt

-- a string has at most 256 units
abbrev is_short : Arg → Bool
is_short (Num n) = true
is_short (Str units) = nat_le (length units) 256

-- how many of the arguments are strings
abbrev texts_in : List Arg → ℕ
texts_in [] = 0
texts_in (Num n ∷ args) = texts_in args
texts_in (Str units ∷ args) = suc (texts_in args)

unit_short : (u : ℕ) → length (quoted_unit u) ≤ 6
unit_short u = by_tests (u == 34 || u == 92) (nat_le 32 u && nat_le u 126) _ _ _ (lit≤ tt) (lit≤ tt) (lit≤ tt)
  where
    by_tests : (a b : Bool) (x y z : List ℕ) → length x ≤ 6 → length y ≤ 6 → length z ≤ 6 → length (cond a x (cond b y z)) ≤ 6
    by_tests true b x y z p q r = p
    by_tests false true x y z p q r = q
    by_tests false false x y z p q r = r

units_sum : (units : List ℕ) → sum_by (λ u. length (quoted_unit u)) units ≤ 6 * length units
units_sum [] = lit≤ tt
units_sum (u ∷ units) =
    let first = unit_short u in
    let rest = units_sum units in
    let sum = sum_by-cons (λ u. length (quoted_unit u)) u units in
    omega (arith, first, rest, sum)

quoted_short : (units : List ℕ) → length units ≤ 256 → length (quoted units) ≤ 1538
quoted_short units h =
    let many = length-flat_map quoted_unit units in
    let most = units_sum units in
    let inner : length (flat_map quoted_unit units) ≤ 1536 = omega (arith, many, most, h) in
    let b = part (34 ∷ flat_map quoted_unit units) 1537 (omega (arith, inner)) ⊕ part (34 ∷ []) 1 (lit≤ tt) in
    at_most _ _ _ b.few (lit≤ tt)

number_short : (n : ℕ) → n < 2 ^ 64 → length (argument_text (Num n)) ≤ 19
number_short n h =
    let b = part (codes " ") 1 (lit≤ tt) ⊕ (part (codes "0x") 2 (lit≤ tt) ⊕ part (hexadecimal n) 16 (hexadecimal_short n h)) in
    at_most _ _ _ b.few (lit≤ tt)

string_short : (units : List ℕ) → length units ≤ 256 → length (argument_text (Str units)) ≤ 1539
string_short units h =
    let b = part (codes " ") 1 (lit≤ tt) ⊕ part (quoted units) 1538 (quoted_short units h) in
    at_most _ _ _ b.few (lit≤ tt)

few_units : (n : ℕ) → nat_le n 256 ≡ true → n ≤ 256
few_units n h = grind (arith, nat_tests)

arguments_sum : (args : List Arg) → list_all is_short args ≡ true → list_all is_argument args ≡ true
    → sum_by (λ a. length (argument_text a)) args ≤ 1539 * texts_in args + 19 * length args
arguments_sum [] h k = lit≤ tt
arguments_sum (Num n ∷ args) h k =
    let parts = and_parts (is_short (Num n)) (list_all is_short args) h in
    let ranges = and_parts (is_argument (Num n)) (list_all is_argument args) k in
    let first = number_short n (small_word n ranges.0) in
    let rest = arguments_sum args parts.1 ranges.1 in
    let sum = sum_by-cons (λ a. length (argument_text a)) (Num n) args in
    omega (arith, first, rest, sum)
arguments_sum (Str units ∷ args) h k =
    let parts = and_parts (is_short (Str units)) (list_all is_short args) h in
    let ranges = and_parts (is_argument (Str units)) (list_all is_argument args) k in
    let first = string_short units (few_units (length units) parts.0) in
    let rest = arguments_sum args parts.1 ranges.1 in
    let sum = sum_by-cons (λ a. length (argument_text a)) (Str units) args in
    omega (arith, first, rest, sum)

-- at most two strings and at most six arguments
arguments_fit : (args : List Arg) → texts_in args ≤ 2 → length args ≤ 6 → list_all is_short args ≡ true → list_all is_argument args ≡ true
    → Fit (map argument_field args) 3192
arguments_fit args texts few h k =
    let same = ap (λ (l : List ℕ). length l) (arguments_same args) in
    let many = length-flat_map argument_text args in
    let most = arguments_sum args h k in
    record { few = omega (arith, same, many, most, texts, few) }

-- the kinds of a call
abbrev text_kinds : List ParamKind → ℕ
text_kinds [] = 0
text_kinds (kind.Text ∷ ks) = suc (text_kinds ks)
text_kinds (kind.Name ∷ ks) = suc (text_kinds ks)
text_kinds (kind.Num ∷ ks) = text_kinds ks
text_kinds (kind.Handle ∷ ks) = text_kinds ks

fitting_few : (ks : List ParamKind) (args : List Arg) → fit ks args ≡ true → (texts_in args ≡ text_kinds ks) × (length args ≡ length ks)
fitting_few [] [] h = (refl, refl)
fitting_few [] (a ∷ args) h = absurd (cc)
fitting_few (k ∷ ks) [] h = absurd (cc)
fitting_few (kind.Text ∷ ks) (Num n ∷ args) h = absurd (cc)
fitting_few (kind.Text ∷ ks) (Str units ∷ args) h =
    let rest = fitting_few ks args (and_parts (fits_kind kind.Text (Str units)) (fit ks args) h).1 in (ap suc rest.0, ap suc rest.1)
fitting_few (kind.Name ∷ ks) (Num n ∷ args) h = absurd (cc)
fitting_few (kind.Name ∷ ks) (Str units ∷ args) h =
    let rest = fitting_few ks args (and_parts (fits_kind kind.Name (Str units)) (fit ks args) h).1 in (ap suc rest.0, ap suc rest.1)
fitting_few (kind.Num ∷ ks) (Num n ∷ args) h =
    let rest = fitting_few ks args (and_parts (fits_kind kind.Num (Num n)) (fit ks args) h).1 in (rest.0, ap suc rest.1)
fitting_few (kind.Num ∷ ks) (Str units ∷ args) h = absurd (cc)
fitting_few (kind.Handle ∷ ks) (Num n ∷ args) h =
    let rest = fitting_few ks args (and_parts (fits_kind kind.Handle (Num n)) (fit ks args) h).1 in (rest.0, ap suc rest.1)
fitting_few (kind.Handle ∷ ks) (Str units ∷ args) h = absurd (cc)

shapes_few : (tag : CallTag) → (text_kinds (shape_of tag) ≤ 2) × (length (shape_of tag) ≤ 6)
shapes_few Ping = (lit≤ tt, lit≤ tt)
shapes_few FileCreate = (lit≤ tt, lit≤ tt)
shapes_few FileOpen = (lit≤ tt, lit≤ tt)
shapes_few FileQuery = (lit≤ tt, lit≤ tt)
shapes_few FileRename = (lit≤ tt, lit≤ tt)
shapes_few PipeCreate = (lit≤ tt, lit≤ tt)
shapes_few KeyCreate = (lit≤ tt, lit≤ tt)
shapes_few KeyOpen = (lit≤ tt, lit≤ tt)
shapes_few EventCreate = (lit≤ tt, lit≤ tt)
shapes_few EventOpen = (lit≤ tt, lit≤ tt)
shapes_few HandleClose = (lit≤ tt, lit≤ tt)

-- what is cut to the bits that read has as many strings, of the same lengths
read_only_same : (args : List Arg)
    → (texts_in (read_only_args args) ≡ texts_in args) × (length (read_only_args args) ≡ length args) × (list_all is_short (read_only_args args) ≡ list_all is_short args)
read_only_same [] = (refl, refl, refl)
read_only_same (a ∷ []) = (refl, refl, refl)
read_only_same (Num n ∷ Num access ∷ more) = (refl, refl, refl)
read_only_same (Str units ∷ Num access ∷ more) = (refl, refl, refl)
read_only_same (a ∷ Str units ∷ more) = (refl, refl, refl)

granted_fit : (tag : CallTag) (args : List Arg) (w : List ℕ) (line : ℕ) → length w ≤ 8 → line < 2 ^ 32 → Fit (map argument_field args) 3192
    → Fit (codes "performed" ∷ call_word tag ∷ (map argument_field args ++ counted w line)) 3250
granted_fit tag args w line h l k =
    fit_most _ _ _ (word (codes "performed") 9 (lit≤ tt) ⊗ (word (call_word tag) 12 (word_short tag)
    ⊗ fit_both (map argument_field args) (counted w line) 3192 30 k (counted_fit w line 8 h (below_64 line l)))) (lit≤ tt)

denied_fit : (tag : CallTag) (w : List ℕ) (line : ℕ) → length w ≤ 5 → line < 2 ^ 32 → Fit (codes "denied" ∷ call_word tag ∷ counted w line) 3250
denied_fit tag w line h l =
    fit_most _ _ _ (word (codes "denied") 6 (lit≤ tt) ⊗ (word (call_word tag) 12 (word_short tag) ⊗ counted_fit w line 5 h (below_64 line l))) (lit≤ tt)

decided_fit : (tag : CallTag) (args : List Arg) (v : Verdict) → fits tag args ≡ true → list_all is_short args ≡ true → DecisionInRange (shown_decision (by_verdict tag args v))
    → Fit (decision_fields (shown_decision (by_verdict tag args v))) 3250
decided_fit tag args verdict.NoRule fit_all short r =
    fit_most _ _ _ (word (codes "denied") 6 (lit≤ tt) ⊗ (word (call_word tag) 12 (word_short tag) ⊗ (word (codes "norule") 6 (lit≤ tt) ⊗ no_fields))) (lit≤ tt)
decided_fit tag args (verdict.Rule line action.Allow) fit_all short r =
    let few = fitting_few (shape_of tag) args fit_all in
    let shapes = shapes_few tag in
    let texts : texts_in args ≤ 2 = omega (arith, few.0, shapes.0) in
    let many : length args ≤ 6 = omega (arith, few.1, shapes.1) in
    granted_fit tag args (codes "rule") line (lit≤ tt) r.1 (arguments_fit args texts many short r.0)
decided_fit tag args (verdict.Rule line action.ReadOnly) fit_all short r =
    let few = fitting_few (shape_of tag) args fit_all in
    let shapes = shapes_few tag in
    let same = read_only_same args in
    let texts : texts_in (read_only_args args) ≤ 2 = omega (arith, few.0, shapes.0, same.0) in
    let many : length (read_only_args args) ≤ 6 = omega (arith, few.1, shapes.1, same.1) in
    granted_fit tag (read_only_args args) (codes "readonly") line (lit≤ tt) r.1 (arguments_fit (read_only_args args) texts many (same.2 ∙ short) r.0)
decided_fit tag args (verdict.Rule line action.Fake) fit_all short r =
    fit_most _ _ _ (word (codes "faked") 5 (lit≤ tt) ⊗ (word (call_word tag) 12 (word_short tag) ⊗ counted_fit (codes "rule") line 4 (lit≤ tt) (below_64 line r))) (lit≤ tt)
decided_fit tag args (verdict.Rule line action.Deny) fit_all short r = denied_fit tag (codes "rule") line (lit≤ tt) r
decided_fit tag args (verdict.Rule line action.Alarm) fit_all short r = denied_fit tag (codes "alarm") line (lit≤ tt) r

-- ---- copies

-- a copy has at most 64 words
words_most : (c : Copied) → is_copy c ≡ true → length c.words ≤ 64
words_most c h = by_tests (nat_lt most_parameters c.count_seen) (nat_le (first_offset c.count_seen) c.end_seen) (nat_le c.end_seen most_words) refl h
  where
    by_tests : (a b d : Bool) → nat_le c.end_seen most_words ≡ d
        → cond a (c.end_seen == 0 && length c.words == 0) (cond (b && d) (length c.words == c.end_seen) (length c.words == 0)) ≡ true → length c.words ≤ 64
    by_tests true b d e h = let none = (and_parts (c.end_seen == 0) (length c.words == 0) h).1 in grind (arith, nat_tests, none)
    by_tests false true true e h = grind (arith, nat_tests, e, h)
    by_tests false true false e h = grind (arith, nat_tests, h)
    by_tests false false d e h = grind (arith, nat_tests, h)

-- a word has four units
fours : (words : List ℕ) → sum_by (λ w. length (word_units w)) words ≤ 4 * length words
fours [] = lit≤ tt
fours (w ∷ words) =
    let rest = fours words in
    let sum = sum_by-cons (λ w. length (word_units w)) w words in
    omega (arith, rest, sum)

-- so a string of it has at most 256 units
string_most : (word : ℕ) (words : List ℕ) → length words ≤ 64 → length (string_in word words) ≤ 256
string_most word words h =
    let part = part_of (offset_of word) (words_for (size_of word)) words in
    let first = take_most (size_of word / 2) (flat_map word_units part) in
    let many = length-flat_map word_units part in
    let four = fours part in
    let taken = take_most (words_for (size_of word)) (drop (offset_of word) words) in
    let dropped = drop_most (offset_of word) words in
    omega (arith, first, many, four, taken, dropped, h)

argument_is_short : (words : List ℕ) (info : ℕ) → length words ≤ 64 → is_short (argument_in words info) ≡ true
argument_is_short words info h = by_tests (type_of info == 1) (type_of info == 2) _ _ _ (at_256 (length (string_in info words)) (string_most info words h))
  where
    at_256 : (n : ℕ) → n ≤ 256 → nat_le n 256 ≡ true
    at_256 n l = grind (arith, nat_tests)

    by_tests : (a b : Bool) (units : List ℕ) (n m : ℕ) → nat_le (length units) 256 ≡ true → is_short (cond a (Str units) (cond b (Num n) (Num m))) ≡ true
    by_tests true b units n m e = e
    by_tests false true units n m e = refl
    by_tests false false units n m e = refl

arguments_are_short : (words infos : List ℕ) → length words ≤ 64 → list_all is_short (map (argument_in words) infos) ≡ true
arguments_are_short words [] h = refl
arguments_are_short words (info ∷ infos) h =
    let first = argument_is_short words info h in
    let rest = arguments_are_short words infos h in
    (λ i. first i && rest i)

decision_fit : FaultlessCopiesFit → (policy : Policy) (c : Copied) → is_copy c ≡ true → DecisionInRange (shown_decision (decision_of policy c))
    → Fit (decision_fields (shown_decision (decision_of policy c))) 3250
decision_fit fitting policy c copy range = by_fault (fault c) refl range
  where
    by_fault : (o : Option BlockFault) → fault c ≡ o → DecisionInRange (shown_decision (by_decoded policy (call_unless o (call_of c))))
        → Fit (decision_fields (shown_decision (by_decoded policy (call_unless o (call_of c))))) 3250
    by_fault (Some f) e r = fit_most _ _ _ (word (codes "refused") 7 (lit≤ tt) ⊗ fault_fit f r) (lit≤ tt)
    by_fault None e r =
        decided_fit (call_of c).tag (call_of c).args (verdict_of policy (call_of c).tag (call_of c).args) (fitting c e)
        (arguments_are_short c.words (descriptors c.words) (words_most c copy)) r

-- ---- names and channels

ready_sound : (policies : List Policy) (script : Script) → IsReady policies script → is_sound script ≡ true
ready_sound policies script h =
    let all = and_parts (is_sound script && are_well_made policies && list_all (is_judged (length policies)) script.targets) (is_ok (opened script.start)) h.ready in
    let most = and_parts (is_sound script && are_well_made policies) (list_all (is_judged (length policies)) script.targets) all.0 in
    (and_parts (is_sound script) (are_well_made policies) most.0).0

short_name : (name : List ℕ) → is_short_name name ≡ true → length name ≤ 32
short_name name h =
    let low = (and_parts (nat_lt 0 (length name)) (nat_le (length name) 32) (and_parts (nat_lt 0 (length name) && nat_le (length name) 32) (list_all is_name_byte name) h).0).1 in
    grind (arith, nat_tests, low)

names_short : (targets : List TargetScript) (t : ℕ) → list_all has_short_name targets ≡ true → length (name_by (slice_get targets t)) ≤ 32
names_short [] t h = lit≤ tt
names_short (target ∷ targets) zero h = short_name target.name (and_parts (has_short_name target) (list_all has_short_name targets) h).0
names_short (target ∷ targets) (suc t) h = names_short targets t (and_parts (has_short_name target) (list_all has_short_name targets) h).1

channels_few : (targets some : List TargetScript) (t : ℕ) → list_all (is_target targets) some ≡ true → slice_index (map (λ (target : TargetScript). target.channels) some) t ≤ 8
channels_few targets [] t h = lit≤ tt
channels_few targets (target ∷ some) zero h =
    let one = (and_parts (is_target targets target) (list_all (is_target targets) some) h).0 in
    let few = (and_parts (nat_le 1 target.channels && nat_le target.channels 8 && nat_le (length target.threads) 4) (list_all (is_thread targets) target.threads) one).0 in
    let low = (and_parts (nat_le 1 target.channels) (nat_le target.channels 8) (and_parts (nat_le 1 target.channels && nat_le target.channels 8) (nat_le (length target.threads) 4) few).0).1 in
    grind (arith, nat_tests, low)
channels_few targets (target ∷ some) (suc t) h = channels_few targets some t (and_parts (is_target targets target) (list_all (is_target targets) some) h).1

each_target : (script : Script) → is_sound script ≡ true → list_all (is_target script.targets) script.targets ≡ true
each_target script h =
    let few = nat_le (length script.start) 4096 in
    let starts = list_all is_start script.start in
    let each = list_all (is_target script.targets) script.targets in
    let targets = (and_parts (is_patience script.patience && few && starts) (are_targets script.targets) h).1 in
    (and_parts (nat_le (length script.targets) 8 && names_differ script.targets) each targets).1

-- ---- lines

-- a line of fields after a word
line_short : (w : List ℕ) (fields : List (List ℕ)) (m k : ℕ) → length w ≤ m → Fit fields k → length ((w ++ all_after 32 fields) ++ codes "\n") ≤ m + k + 1
line_short w fields m k h x = (part w m h ⊕ part (all_after 32 fields) k x.few ⊕ part (codes "\n") 1 (lit≤ tt)).few

pub entry_lines_are_short : FaultlessCopiesFit → EntryLinesAreShort
entry_lines_are_short fitting policies script ns n e ready legal printable low =
    let there = legal.channel_there in
    let few = channels_few script.targets script.targets e.target (each_target script (ready_sound policies script ready)) in
    let channel : e.channel < 2 ^ 64 = omega (arith, there, few) in
    let policy = policy_at (setting_of policies script).policies e.target in
    let s = shown_entry script n e in
    let range = subst (λ (d : Decision). DecisionInRange (shown_decision d)) legal.decided printable.decision in
    let decision : Fit (decision_fields s.decision) 3250 =
    subst (λ (d : Decision). Fit (decision_fields (shown_decision d)) 3250) (sym legal.decided) (decision_fit fitting policy e.taken legal.whole range) in
    let replied : Fit (codes "reply" ∷ reply_fields s.reply) 226 = word (codes "reply") 5 (lit≤ tt) ⊗ reply_fit s.reply printable.reply in
    let place : Fit (place_fields s) 101 =
    number n low ⊗ (word (target_name script e.target) 32 (names_short script.targets e.target ready.short) ⊗ (number e.channel channel
    ⊗ (word (codes "mark") 4 (lit≤ tt) ⊗ (number (mark_of e.taken) printable.mark ⊗ no_fields)))) in
    let both = fit_both (decision_fields s.decision) (codes "reply" ∷ reply_fields s.reply) 3250 226 decision replied in
    let all = fit_both (place_fields s) (decision_fields s.decision ++ codes "reply" ∷ reply_fields s.reply) 101 3476 place both in
    at_most _ _ _ (line_short (codes "entry") (entry_fields s) 5 3577 (lit≤ tt) all) (lit≤ tt)

result_fit : (r : ShownResult) → ResultInRange r → Fit (result_fields r) 260
result_fit (shown.Reply channel reply) h =
    fit_most _ _ _ (word (codes "reply") 5 (lit≤ tt) ⊗ (number channel (below_64 channel h.0) ⊗ reply_fit reply h.1)) (lit≤ tt)
result_fit shown.NoChannel h = record { few = lit≤ tt }
result_fit (shown.SendLost channel found) h = fit_most _ _ _ (pair_fit (codes "send-lost") channel found 9 (lit≤ tt) (below_64 channel h.0) h.1) (lit≤ tt)
result_fit (shown.Foreign channel mark) h = fit_most _ _ _ (pair_fit (codes "foreign") channel mark 7 (lit≤ tt) (below_64 channel h.0) h.1) (lit≤ tt)
result_fit (shown.TimedOut channel) h = fit_most _ _ _ (counted_fit (codes "timed-out") channel 9 (lit≤ tt) (below_64 channel h)) (lit≤ tt)
result_fit shown.Stored h = record { few = lit≤ tt }
result_fit (shown.Found value) h = fit_most _ _ _ (counted_fit (codes "found") value 5 (lit≤ tt) h) (lit≤ tt)
result_fit (shown.Met loads) h = fit_most _ _ _ (counted_fit (codes "met") loads 3 (lit≤ tt) (below_64 loads h)) (lit≤ tt)
result_fit (shown.Unmet loads) h = fit_most _ _ _ (counted_fit (codes "unmet") loads 5 (lit≤ tt) (below_64 loads h)) (lit≤ tt)

pub result_lines_are_short : ResultLinesAreShort
result_lines_are_short policies script target thread place r ready printable low below =
    let s = shown_result_line script target thread place r in
    let all : Fit (result_line_fields s) 335 =
    word (target_name script target) 32 (names_short script.targets target ready.short)
    ⊗ (number thread low ⊗ (number place below ⊗ result_fit s.result printable)) in
    at_most _ _ _ (line_short (codes "result") (result_line_fields s) 6 335 (lit≤ tt) all) (lit≤ tt)

few_such : (is_such : Entry → Bool) (es : List Entry) → length es < 2 ^ 64 → count_by is_such es < 2 ^ 64
few_such is_such es low = let most = count_by-le-length is_such es in omega (arith, most, low)

pub totals_are_short : TotalsAreShort
totals_are_short report entries results =
    let t = shown_totals report in
    let es = report.entries in
    let all : Fit (totals_fields t) 185 =
    fit_most _ _ _ (word (codes "entries") 7 (lit≤ tt) ⊗ (number t.entries entries
    ⊗ (word (codes "performed") 9 (lit≤ tt) ⊗ (number t.performed (few_such (λ e. is_performed e.decision) es entries)
    ⊗ (word (codes "faked") 5 (lit≤ tt) ⊗ (number t.faked (few_such (λ e. is_faked e.decision) es entries)
    ⊗ (word (codes "denied") 6 (lit≤ tt) ⊗ (number t.denied (few_such (λ e. is_denied e.decision) es entries)
    ⊗ (word (codes "refused") 7 (lit≤ tt) ⊗ (number t.refused (few_such (λ e. is_refused e.decision) es entries)
    ⊗ (word (codes "results") 7 (lit≤ tt) ⊗ (number t.results results ⊗ no_fields)))))))))))) (lit≤ tt) in
    at_most _ _ _ (line_short (codes "total") (totals_fields t) 5 185 (lit≤ tt) all) (lit≤ tt)

-- ---- all lines

abbrev bytes_of : List (List ℕ) → ℕ
bytes_of lines = sum_by (λ line. length line) lines

below_limit : (n : ℕ) → n < 131072 → n < 2 ^ 64
below_limit n l = omega (arith, l)

module _ (fitting : FaultlessCopiesFit) (policies : List Policy) (script : Script) (ready : IsReady policies script) where
  entries_bytes : (ns : Space) (n : ℕ) (es : List Entry) → IsLegalFrom (setting_of policies script) ns es → Each IsPrintableEntry es → n + length es ≤ 131072
      → bytes_of (entry_lines script n es) ≤ 3600 * length es
  entries_bytes ns n [] legal printable low = lit≤ tt
  entries_bytes ns n (e ∷ es) legal printable low =
      let first = entry_lines_are_short fitting policies script ns n e ready legal.0 (printable 0 e refl) (below_limit n (omega (arith, low))) in
      let rest = entries_bytes (space_after ns e.target e.decision) (n + 1) es legal.1 (λ m d h. printable (suc m) d h) (omega (arith, low)) in
      let sum = sum_by-cons (λ (line : List ℕ). length line) (entry_line script n e) (entry_lines script (n + 1) es) in
      omega (arith, first, rest, sum)

  thread_bytes : (target thread place : ℕ) (rs : List StmtResult) → thread < 2 ^ 64 → Each IsPrintableResult rs → place + length rs ≤ 131072
      → bytes_of (thread_lines script target thread place rs) ≤ 400 * length rs
  thread_bytes target thread place [] few printable low = lit≤ tt
  thread_bytes target thread place (r ∷ rs) few printable low =
      let first = result_lines_are_short policies script target thread place r ready (printable 0 r refl) few (below_limit place (omega (arith, low))) in
      let rest = thread_bytes target thread (place + 1) rs few (λ m d h. printable (suc m) d h) (omega (arith, low)) in
      let sum = sum_by-cons (λ (line : List ℕ). length line) (result_line script target thread place r) (thread_lines script target thread (place + 1) rs) in
      omega (arith, first, rest, sum)

  target_bytes : (target thread : ℕ) (threads : List (List StmtResult)) → thread + length threads ≤ 4 → ArePrintableResults threads → thread_count threads ≤ 131072
      → bytes_of (target_lines script target thread threads) ≤ 400 * thread_count threads
  target_bytes target thread [] few printable low = lit≤ tt
  target_bytes target thread (rs ∷ more) few printable low =
      let count = thread_count-cons rs more in
      let first = thread_bytes target thread 0 rs (omega (arith, few)) (printable 0 rs refl) (omega (arith, low, count)) in
      let rest = target_bytes target (thread + 1) more (omega (arith, few)) (λ m d h. printable (suc m) d h) (omega (arith, low, count)) in
      let sum = sum_by-append (λ (line : List ℕ). length line) (thread_lines script target thread 0 rs) (target_lines script target (thread + 1) more) in
      omega (arith, first, rest, sum, count)

  results_bytes : (target : ℕ) (results : List (List (List StmtResult))) → ((t : ℕ) → length (slice_index_or results t []) ≤ 4) → Each ArePrintableResults results
      → result_count results ≤ 131072 → bytes_of (result_lines script target results) ≤ 400 * result_count results
  results_bytes target [] few printable low = lit≤ tt
  results_bytes target (threads ∷ more) few printable low =
      let count = result_count-cons threads more in
      let four : length threads ≤ 4 = few 0 in
      let first = target_bytes target 0 threads (omega (arith, four)) (printable 0 threads refl) (omega (arith, low, count)) in
      let rest = results_bytes (target + 1) more (λ t. few (suc t)) (λ m d h. printable (suc m) d h) (omega (arith, low, count)) in
      let sum = sum_by-append (λ (line : List ℕ). length line) (target_lines script target 0 threads) (result_lines script (target + 1) more) in
      omega (arith, first, rest, sum, count)

  whole_short : (report : Report) → IsWithinLimits policies script report → length (joined (transcript_lines script report)) ≤ 536870912
  whole_short report within =
      let es = report.entries in
      let few = within.entries in
      let results_few = within.results in
      let of_entries = entries_bytes (opening script.start) 0 es within.history.legal within.printable.entries (omega (arith, few)) in
      let of_results = results_bytes 0 report.results within.threads within.printable.results results_few in
      let of_totals = totals_are_short report within.printable.few (omega (arith, results_few)) in
      let last = sum_by-cons (λ (line : List ℕ). length line) (totals_line report) [] in
      let lines = sum_by-append (λ (line : List ℕ). length line) (entry_lines script 0 es) (result_lines script 0 report.results) in
      let all = sum_by-append (λ (line : List ℕ). length line) (entry_lines script 0 es ++ result_lines script 0 report.results) (totals_line report ∷ []) in
      let bytes = length-flat_map (λ (line : List ℕ). line) (transcript_lines script report) in
      omega (arith, of_entries, of_results, of_totals, last, lines, all, bytes, few, results_few)

pub transcripts_are_short : FaultlessCopiesFit → TranscriptsAreShort
transcripts_are_short fitting policies script report ready within = whole_short fitting policies script ready report within
