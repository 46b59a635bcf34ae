-- Reading a line. The fields need not be tested here: whatever was read is the line only if the bytes are its text.
use Rattle.std.specs.Prelude.{ℕ, zero, suc, ◌-◌, ◌^◌, ◌==◌, Bool, nat_lt, nat_eq, List, [], ◌∷◌, length, take, codes, Option, None, Some, option_map, if◌then◌else◌}
use Rattle.std.specs.Cmp.Lexicographic.{pointwise}
use Rattle.sb_block.specs.declared.faults.BlockFault.{BlockFault}
use Rattle.sb_block.specs.declared.faults.BlockFault.TheVariants.{TooManyParams, BadEnd, CountChanged, EndChanged, BadParamType, BadPlace, UnknownTag, WrongShape, BadSize, BadName}
use Rattle.sb_call.specs.CallWords.{is_word, tag_of_word}
use Rattle.sb_call.specs.ShortNames.{is_short_name}
use Rattle.sb_call.specs.declared.arguments.Arg.{Arg}
use Rattle.sb_call.specs.declared.arguments.Arg.TheVariants.{Num, Str}
use Rattle.sb_call.specs.declared.tags.CallTag.{CallTag}
use Rattle.sb_text.specs.Numbers.{decimal_of, number_of}
use Rattle.sb_transcript.specs.Cuts.{cut, fields_after}
use Rattle.sb_transcript.specs.Fields.{written}
use Rattle.sb_transcript.specs.Steps.{◌>>=◌, Read, field_at}
use Rattle.sb_transcript.specs.Strings.{hexadecimal_value, unquoted}
use Rattle.sb_transcript.specs.declared.cuts.Place.TheVariants.{Plain}
use Rattle.sb_transcript.specs.declared.read_lines.ShownDecision.{ShownDecision}
use Rattle.sb_transcript.specs.declared.read_lines.ShownDecision.TheVariants.{Refused, NoRule, Denied, Alarmed, Faked, Allowed, ReadOnly}
use Rattle.sb_transcript.specs.declared.read_lines.ShownReply.{ShownReply}
use Rattle.sb_transcript.specs.declared.read_lines.ShownResult.{ShownResult}
use Rattle.sb_transcript.specs.declared.read_lines.ShownResult.TheVariants.{Reply, NoChannel, SendLost, Foreign, TimedOut, Stored, Found, Met, Unmet}
use Rattle.sb_transcript.specs.declared.read_lines.EntryLine.{EntryLine}
use Rattle.sb_transcript.specs.declared.read_lines.ResultLine.{ResultLine}
use Rattle.sb_transcript.specs.declared.read_lines.TotalsLine.{TotalsLine}
use Rattle.sb_transcript.specs.declared.read_lines.Line.{Line}
use Rattle.sb_transcript.specs.declared.read_lines.Line.TheVariants as line

-- ---- numbers and names

-- a number below 2^32
abbrev pub below_2_32 : ℕ → Option ℕ
below_2_32 n = if nat_lt n (2 ^ 32) then Some n else None

abbrev pub decimal_at : List (List ℕ) → Read ℕ
decimal_at fields = do
  (field, rest) ← field_at fields
  n ← decimal_of field
  Some (n, rest)

abbrev pub small_at : List (List ℕ) → Read ℕ
small_at fields = do
  (number, rest) ← decimal_at fields
  n ← below_2_32 number
  Some (n, rest)

-- a word, and a number
abbrev pub count_at : List (List ℕ) → Read ℕ
count_at fields = do
  (word, rest) ← field_at fields
  decimal_at rest

abbrev pub status_at : List (List ℕ) → Read ℕ
status_at fields = do
  (field, rest) ← field_at fields
  n ← hexadecimal_value field
  Some (n, rest)

-- bytes that are a name
abbrev pub name_of : List ℕ → Option (List ℕ)
name_of field = if is_short_name field then Some field else None

abbrev pub name_at : List (List ℕ) → Read (List ℕ)
name_at fields = do
  (field, rest) ← field_at fields
  name ← name_of field
  Some (name, rest)

-- ---- replies

-- numbers in decimal, one a field, no more than this many
abbrev pub words_within : ℕ → List (List ℕ) → Option (List ℕ)
words_within most [] = Some []
words_within zero (field ∷ fields) = None
words_within (suc most) (field ∷ fields) = do
  word ← decimal_of field
  words ← words_within most fields
  Some (word ∷ words)

-- extended words with commas between them, in square brackets
abbrev pub ext_of : List ℕ → Option (List ℕ)
ext_of field = if length field == 2 then Some [] else words_within 7 (fields_after 44 (take (length field - 1) field))

abbrev pub ext_at : List (List ℕ) → Read (List ℕ)
ext_at fields = do
  (field, rest) ← field_at fields
  ext ← ext_of field
  Some (ext, rest)

abbrev pub reply_at : List (List ℕ) → Read ShownReply
reply_at fields = do
  (outcome, fields1) ← decimal_at fields
  (status, fields2) ← status_at fields1
  (handle, fields3) ← decimal_at fields2
  (ext, fields4) ← ext_at fields3
  Some (record { outcome = outcome; status = status; handle = handle; ext = ext }, fields4)

-- ---- results and totals

abbrev pub pair_result : List ℕ → ℕ → ℕ → ShownResult
pair_result word channel value = if is_word (codes "send-lost") word then SendLost channel value else Foreign channel value

-- the result that a word names, after its first number
abbrev pub result_with : List ℕ → ℕ × List (List ℕ) → Read ShownResult
result_with word number =
    if is_word (codes "met") word then Some (Met number.0, number.1)
    else (if is_word (codes "unmet") word then Some (Unmet number.0, number.1)
    else (if is_word (codes "timed-out") word then Some (TimedOut number.0, number.1)
    else (if is_word (codes "reply") word then (reply_at number.1 >>= λ read. Some (Reply number.0 read.0, read.1))
    else (decimal_at number.1 >>= λ read. Some (pair_result word number.0 read.0, read.1)))))

abbrev pub result_of_word : List ℕ → List (List ℕ) → Read ShownResult
result_of_word word fields =
    if is_word (codes "stored") word then Some (Stored, fields)
    else (if is_word (codes "no-channel") word then Some (NoChannel, fields)
    else (if is_word (codes "found") word then (decimal_at fields >>= λ read. Some (Found read.0, read.1))
    else (small_at fields >>= result_with word)))

abbrev pub result_at : List (List ℕ) → Read ShownResult
result_at fields = do
  (word, rest) ← field_at fields
  result_of_word word rest

abbrev pub result_line_at : List (List ℕ) → Read ResultLine
result_line_at fields = do
  (target, fields1) ← name_at fields
  (thread, fields2) ← small_at fields1
  (place, fields3) ← small_at fields2
  (result, fields4) ← result_at fields3
  Some (record { target = target; thread = thread; place = place; result = result }, fields4)

abbrev pub totals_line_at : List (List ℕ) → Read TotalsLine
totals_line_at fields = do
  (entries, fields1) ← count_at fields
  (performed, fields2) ← count_at fields1
  (faked, fields3) ← count_at fields2
  (denied, fields4) ← count_at fields3
  (refused, fields5) ← count_at fields4
  (results, fields6) ← count_at fields5
  Some (record { entries = entries; performed = performed; faked = faked; denied = denied; refused = refused; results = results }, fields6)

-- ---- entries

abbrev pub parameter_fault : List ℕ → ℕ → BlockFault
parameter_fault word i =
    if is_word (codes "bad-param-type") word then BadParamType i
    else (if is_word (codes "bad-place") word then BadPlace i
    else (if is_word (codes "bad-size") word then BadSize i
    else BadName i))

-- the fault that a word names, after its first number
abbrev pub fault_with : List ℕ → ℕ × List (List ℕ) → Read BlockFault
fault_with word number =
    if is_word (codes "too-many-params") word then Some (TooManyParams number.0, number.1)
    else (if is_word (codes "bad-end") word then Some (BadEnd number.0, number.1)
    else (if is_word (codes "unknown-tag") word then Some (UnknownTag number.0, number.1)
    else (if is_word (codes "count-changed") word then (decimal_at number.1 >>= λ copied. Some (CountChanged number.0 copied.0, copied.1))
    else (if is_word (codes "end-changed") word then (decimal_at number.1 >>= λ copied. Some (EndChanged number.0 copied.0, copied.1))
    else (below_2_32 number.0 >>= λ param. Some (parameter_fault word param, number.1))))))

abbrev pub fault_of_word : List ℕ → List (List ℕ) → Read BlockFault
fault_of_word word fields =
    if is_word (codes "wrong-shape") word then Some (WrongShape, fields)
    else (decimal_at fields >>= fault_with word)

abbrev pub fault_at : List (List ℕ) → Read BlockFault
fault_at fields = do
  (word, rest) ← field_at fields
  fault_of_word word rest

-- the argument that a field is, if it is one
abbrev pub argument_of : List ℕ → Option Arg
argument_of [] = option_map Num (number_of [])
argument_of (b ∷ bs) = if b == 34 then Some (Str (unquoted bs)) else option_map Num (number_of (b ∷ bs))

-- arguments, and the word after them
abbrev pub with_argument : List ℕ → List (List ℕ) → Option Arg → Read (List Arg × List ℕ) → Read (List Arg × List ℕ)
with_argument field fields None read = Some (([], field), fields)
with_argument field fields (Some arg) None = None
with_argument field fields (Some arg) (Some ((args, word), rest)) = Some ((arg ∷ args, word), rest)

abbrev pub arguments_at : List (List ℕ) → Read (List Arg × List ℕ)
arguments_at [] = None
arguments_at (field ∷ fields) = with_argument field fields (argument_of field) (arguments_at fields)

abbrev pub call_at : List (List ℕ) → Read CallTag
call_at fields = do
  (word, rest) ← field_at fields
  tag ← tag_of_word word
  Some (tag, rest)

abbrev pub granted : List ℕ → CallTag → List Arg → ℕ → ShownDecision
granted word tag args n = if is_word (codes "readonly") word then ReadOnly tag args n else Allowed tag args n

abbrev pub granted_at : CallTag → List (List ℕ) → Read ShownDecision
granted_at tag fields = do
  ((args, word), fields1) ← arguments_at fields
  (n, fields2) ← small_at fields1
  Some (granted word tag args n, fields2)

abbrev pub denied : List ℕ → CallTag → ℕ → ShownDecision
denied word tag n = if is_word (codes "alarm") word then Alarmed tag n else Denied tag n

abbrev pub denied_of_word : List ℕ → CallTag → List (List ℕ) → Read ShownDecision
denied_of_word word tag fields =
    if is_word (codes "norule") word then Some (NoRule tag, fields)
    else (small_at fields >>= λ read. Some (denied word tag read.0, read.1))

abbrev pub denied_at : CallTag → List (List ℕ) → Read ShownDecision
denied_at tag fields = do
  (word, rest) ← field_at fields
  denied_of_word word tag rest

abbrev pub faked_at : CallTag → List (List ℕ) → Read ShownDecision
faked_at tag fields = do
  (word, fields1) ← field_at fields
  (n, fields2) ← small_at fields1
  Some (Faked tag n, fields2)

-- the decision that a word begins, after its call
abbrev pub decision_with : List ℕ → CallTag × List (List ℕ) → Read ShownDecision
decision_with word call =
    if is_word (codes "denied") word then denied_at call.0 call.1
    else (if is_word (codes "performed") word then granted_at call.0 call.1
    else faked_at call.0 call.1)

abbrev pub decision_of_word : List ℕ → List (List ℕ) → Read ShownDecision
decision_of_word word fields =
    if is_word (codes "refused") word then (fault_at fields >>= λ read. Some (Refused read.0, read.1))
    else (call_at fields >>= decision_with word)

abbrev pub decision_at : List (List ℕ) → Read ShownDecision
decision_at fields = do
  (word, rest) ← field_at fields
  decision_of_word word rest

abbrev pub entry_line_at : List (List ℕ) → Read EntryLine
entry_line_at fields = do
  (number, fields1) ← decimal_at fields
  (target, fields2) ← name_at fields1
  (channel, fields3) ← small_at fields2
  (mark, fields4) ← count_at fields3
  (decision, fields5) ← decision_at fields4
  (word, fields6) ← field_at fields5
  (reply, fields7) ← reply_at fields6
  Some (record { number = number; target = target; channel = channel; mark = mark; decision = decision; reply = reply }, fields7)

-- ---- lines

abbrev pub line_of_word : List ℕ → List (List ℕ) → Option Line
line_of_word word fields =
    if is_word (codes "entry") word then (entry_line_at fields >>= λ read. Some (line.Entry read.0))
    else (if is_word (codes "result") word then (result_line_at fields >>= λ read. Some (line.Result read.0))
    else (totals_line_at fields >>= λ read. Some (line.Totals read.0)))

-- the line of these fields
abbrev pub line_of_fields : List (List ℕ) → Option Line
line_of_fields [] = None
line_of_fields (word ∷ fields) = line_of_word word fields

-- the only line that may have this text
abbrev pub candidate : List ℕ → Option Line
candidate bytes = line_of_fields (cut 32 Plain [] bytes)

-- the bytes are what is written of the line
abbrev pub is_text_of : Line → List ℕ → Bool
is_text_of l bytes = pointwise nat_eq (written l) bytes

-- the line that is written as exactly these bytes
abbrev pub line_of : List ℕ → Option Line
line_of bytes = do
  l ← candidate bytes
  if is_text_of l bytes then Some l else None
