-- Entries are read back.
use Rattle.std.proofs.Common.{◌≡◌, ◌∙◌, ℕ, ◌^◌, ◌<◌, true, List, [], ◌∷◌, ◌++◌, map, None, Some, codes, refl, ap, append_assoc}
use Rattle.std.specs.Fmt.{decimal}
use Rattle.std.specs.List.{list_all}
use Rattle.sb_block.specs.declared.faults.BlockFault.{BlockFault}
use Rattle.sb_block.specs.declared.faults.BlockFault.TheVariants.{TooManyParams, BadEnd, CountChanged, EndChanged, BadParamType, BadPlace, UnknownTag, WrongShape, BadSize, BadName}
use Rattle.sb_call.specs.CallWords.{call_word}
use Rattle.sb_call.specs.declared.arguments.Arg.{Arg}
use Rattle.sb_call.specs.declared.tags.CallTag.{CallTag}
use Rattle.sb_transcript.specs.Fields.{argument_field, counted, fault_fields, decision_fields, reply_fields, entry_fields}
use Rattle.sb_transcript.specs.Ranges.{FaultInRange, DecisionInRange, EntryInRange, is_argument}
use Rattle.sb_transcript.specs.Reading.{below_2_32, decimal_at, small_at, name_at, count_at, parameter_fault, argument_of, fault_with, fault_at, call_at, granted, granted_at, denied, decision_with, decision_at, reply_at, entry_line_at}
use Rattle.sb_transcript.specs.Steps.{◌>>=◌, Read, field_at}
use Rattle.sb_transcript.specs.declared.read_lines.EntryLine.{EntryLine}
use Rattle.sb_transcript.specs.declared.read_lines.ShownDecision.{ShownDecision}
use Rattle.sb_transcript.specs.declared.read_lines.ShownDecision.TheVariants.{Refused, NoRule, Denied, Alarmed, Faked, Allowed, ReadOnly}
use Rattle.sb_transcript.specs.declared.read_lines.ShownReply.{ShownReply}
use Rattle.sb_transcript.proofs.ArgumentsBack.{arguments_back, arguments_pass}
use Rattle.sb_transcript.proofs.NumbersBack.{call_back, call_plain, below_64, decimal_plain, small_plain, small_back, decimal_at_back, small_at_back, count_at_back, name_plain, name_at_back}
use Rattle.sb_transcript.proofs.PassingLines.{is_plain, AllPass, Leads, plain_leads, all_both}
use Rattle.sb_transcript.proofs.RepliesBack.{reply_back, reply_passes}
use Rattle.sb_transcript.specs.declared.cuts.Place.TheVariants.{Plain}

-- ---- faults

module _ (word : List ℕ) (i : ℕ) (rest : List (List ℕ)) (h : i < 2 ^ 32) where
  param_back : fault_with word (i, rest) ≡ (below_2_32 i >>= λ param. Some (parameter_fault word param, rest)) → (decimal_at (decimal i ∷ rest) >>= fault_with word) ≡ Some (parameter_fault word i, rest)
  param_back e =
      ap (λ o. o >>= fault_with word) (decimal_at_back i rest (below_64 i h)) ∙ e ∙ ap (λ o. o >>= λ param. Some (parameter_fault word param, rest)) (small_back i h)

fault_back : (fault : BlockFault) (rest : List (List ℕ)) → FaultInRange fault → fault_at (fault_fields fault ++ rest) ≡ Some (fault, rest)
fault_back (TooManyParams n) rest h = ap (λ o. o >>= fault_with (codes "too-many-params")) (decimal_at_back n rest h)
fault_back (BadEnd n) rest h = ap (λ o. o >>= fault_with (codes "bad-end")) (decimal_at_back n rest h)
fault_back (CountChanged a b) rest h =
    ap (λ o. o >>= fault_with (codes "count-changed")) (decimal_at_back a (decimal b ∷ rest) h.0)
    ∙ ap (λ o. o >>= λ copied. Some (CountChanged a copied.0, copied.1)) (decimal_at_back b rest h.1)
fault_back (EndChanged a b) rest h =
    ap (λ o. o >>= fault_with (codes "end-changed")) (decimal_at_back a (decimal b ∷ rest) h.0)
    ∙ ap (λ o. o >>= λ copied. Some (EndChanged a copied.0, copied.1)) (decimal_at_back b rest h.1)
fault_back (BadParamType i) rest h = param_back (codes "bad-param-type") i rest h refl
fault_back (BadPlace i) rest h = param_back (codes "bad-place") i rest h refl
fault_back (UnknownTag n) rest h = ap (λ o. o >>= fault_with (codes "unknown-tag")) (decimal_at_back n rest h)
fault_back WrongShape rest h = refl
fault_back (BadSize i) rest h = param_back (codes "bad-size") i rest h refl
fault_back (BadName i) rest h = param_back (codes "bad-name") i rest h refl

-- ---- decisions

call_at_back : (tag : CallTag) (rest : List (List ℕ)) → call_at (call_word tag ∷ rest) ≡ Some (tag, rest)
call_at_back tag rest = ap (λ o. o >>= λ tag. Some (tag, rest)) (call_back tag)

abbrev after_arguments : CallTag → (List Arg × List ℕ) × List (List ℕ) → Read ShownDecision
after_arguments tag read = small_at read.1 >>= λ n. Some (granted read.0.1 tag read.0.0 n.0, n.1)

granted_back : (tag : CallTag) (args : List Arg) (word : List ℕ) (n : ℕ) (rest : List (List ℕ)) → list_all is_argument args ≡ true → n < 2 ^ 32
    → argument_of word ≡ None → decision_with (codes "performed") (tag, (map argument_field args ++ counted word n) ++ rest) ≡ Some (granted word tag args n, rest)
granted_back tag args word n rest h k e =
    ap (granted_at tag) (append_assoc (map argument_field args) (counted word n) rest)
    ∙ ap (λ o. o >>= after_arguments tag) (arguments_back args word (decimal n ∷ rest) h e)
    ∙ ap (λ o. o >>= λ n. Some (granted word tag args n.0, n.1)) (small_at_back n rest k)

decision_back : (d : ShownDecision) (rest : List (List ℕ)) → DecisionInRange d → decision_at (decision_fields d ++ rest) ≡ Some (d, rest)
decision_back (Refused fault) rest h = ap (λ o. o >>= λ read. Some (Refused read.0, read.1)) (fault_back fault rest h)
decision_back (NoRule tag) rest h = ap (λ o. o >>= decision_with (codes "denied")) (call_at_back tag (codes "norule" ∷ rest))
decision_back (Denied tag n) rest h =
    ap (λ o. o >>= decision_with (codes "denied")) (call_at_back tag (codes "rule" ∷ decimal n ∷ rest))
    ∙ ap (λ o. o >>= λ read. Some (denied (codes "rule") tag read.0, read.1)) (small_at_back n rest h)
decision_back (Alarmed tag n) rest h =
    ap (λ o. o >>= decision_with (codes "denied")) (call_at_back tag (codes "alarm" ∷ decimal n ∷ rest))
    ∙ ap (λ o. o >>= λ read. Some (denied (codes "alarm") tag read.0, read.1)) (small_at_back n rest h)
decision_back (Faked tag n) rest h =
    ap (λ o. o >>= decision_with (codes "faked")) (call_at_back tag (codes "rule" ∷ decimal n ∷ rest))
    ∙ ap (λ o. o >>= λ read. Some (Faked tag read.0, read.1)) (small_at_back n rest h)
decision_back (Allowed tag args n) rest h =
    ap (λ o. o >>= decision_with (codes "performed")) (call_at_back tag ((map argument_field args ++ counted (codes "rule") n) ++ rest))
    ∙ granted_back tag args (codes "rule") n rest h.0 h.1 refl
decision_back (ReadOnly tag args n) rest h =
    ap (λ o. o >>= decision_with (codes "performed")) (call_at_back tag ((map argument_field args ++ counted (codes "readonly") n) ++ rest))
    ∙ granted_back tag args (codes "readonly") n rest h.0 h.1 refl

-- ---- the fields hold no blank

word_leads : (word : List ℕ) → list_all (is_plain 32) word ≡ true → Leads 32 Plain Plain word
word_leads word h = plain_leads 32 word h

counted_pass : (word : List ℕ) (n : ℕ) → list_all (is_plain 32) word ≡ true → n < 2 ^ 64 → AllPass 32 (counted word n)
counted_pass word n h k = (word_leads word h, (word_leads (decimal n) (decimal_plain n k), tt))

fault_passes : (fault : BlockFault) → FaultInRange fault → AllPass 32 (fault_fields fault)
fault_passes (TooManyParams n) h = counted_pass (codes "too-many-params") n refl h
fault_passes (BadEnd n) h = counted_pass (codes "bad-end") n refl h
fault_passes (CountChanged a b) h = (word_leads (codes "count-changed") refl, (word_leads (decimal a) (decimal_plain a h.0), (word_leads (decimal b) (decimal_plain b h.1), tt)))
fault_passes (EndChanged a b) h = (word_leads (codes "end-changed") refl, (word_leads (decimal a) (decimal_plain a h.0), (word_leads (decimal b) (decimal_plain b h.1), tt)))
fault_passes (BadParamType i) h = counted_pass (codes "bad-param-type") i refl (below_64 i h)
fault_passes (BadPlace i) h = counted_pass (codes "bad-place") i refl (below_64 i h)
fault_passes (UnknownTag n) h = counted_pass (codes "unknown-tag") n refl h
fault_passes WrongShape h = (word_leads (codes "wrong-shape") refl, tt)
fault_passes (BadSize i) h = counted_pass (codes "bad-size") i refl (below_64 i h)
fault_passes (BadName i) h = counted_pass (codes "bad-name") i refl (below_64 i h)

call_passes : (word : List ℕ) (tag : CallTag) (fields : List (List ℕ)) → list_all (is_plain 32) word ≡ true → AllPass 32 fields → AllPass 32 (word ∷ call_word tag ∷ fields)
call_passes word tag fields h a = (word_leads word h, (word_leads (call_word tag) (call_plain tag), a))

granted_pass : (args : List Arg) (word : List ℕ) (n : ℕ) → list_all is_argument args ≡ true → list_all (is_plain 32) word ≡ true → n < 2 ^ 32
    → AllPass 32 (map argument_field args ++ counted word n)
granted_pass args word n h k l = all_both 32 (map argument_field args) (counted word n) (arguments_pass args h) (counted_pass word n k (below_64 n l))

decision_passes : (d : ShownDecision) → DecisionInRange d → AllPass 32 (decision_fields d)
decision_passes (Refused fault) h = (word_leads (codes "refused") refl, fault_passes fault h)
decision_passes (NoRule tag) h = call_passes (codes "denied") tag (codes "norule" ∷ []) refl (word_leads (codes "norule") refl, tt)
decision_passes (Denied tag n) h = call_passes (codes "denied") tag (counted (codes "rule") n) refl (counted_pass (codes "rule") n refl (below_64 n h))
decision_passes (Alarmed tag n) h = call_passes (codes "denied") tag (counted (codes "alarm") n) refl (counted_pass (codes "alarm") n refl (below_64 n h))
decision_passes (Faked tag n) h = call_passes (codes "faked") tag (counted (codes "rule") n) refl (counted_pass (codes "rule") n refl (below_64 n h))
decision_passes (Allowed tag args n) h = call_passes (codes "performed") tag (map argument_field args ++ counted (codes "rule") n) refl (granted_pass args (codes "rule") n h.0 refl h.1)
decision_passes (ReadOnly tag args n) h = call_passes (codes "performed") tag (map argument_field args ++ counted (codes "readonly") n) refl (granted_pass args (codes "readonly") n h.0 refl h.1)

-- ---- entries

abbrev after_reply : ℕ → List ℕ → ℕ → ℕ → ShownDecision → ShownReply × List (List ℕ) → Read EntryLine
after_reply number target channel mark decision read =
    Some (record { number = number; target = target; channel = channel; mark = mark; decision = decision; reply = read.0 }, read.1)

abbrev after_decision : ℕ → List ℕ → ℕ → ℕ → ShownDecision × List (List ℕ) → Read EntryLine
after_decision number target channel mark read = field_at read.1 >>= λ word. reply_at word.1 >>= after_reply number target channel mark read.0

abbrev after_mark : ℕ → List ℕ → ℕ → ℕ × List (List ℕ) → Read EntryLine
after_mark number target channel read = decision_at read.1 >>= after_decision number target channel read.0

abbrev after_channel : ℕ → List ℕ → ℕ × List (List ℕ) → Read EntryLine
after_channel number target read = count_at read.1 >>= after_mark number target read.0

abbrev after_target : ℕ → List ℕ × List (List ℕ) → Read EntryLine
after_target number read = small_at read.1 >>= after_channel number read.0

abbrev after_number : ℕ × List (List ℕ) → Read EntryLine
after_number read = name_at read.1 >>= after_target read.0

pub entry_back : (e : EntryLine) → EntryInRange e → entry_line_at (entry_fields e) ≡ Some (e, [])
entry_back e h =
    let rest : List (List ℕ) = decision_fields e.decision ++ codes "reply" ∷ reply_fields e.reply in
    ap (λ o. o >>= after_number) (decimal_at_back e.number (e.target ∷ decimal e.channel ∷ codes "mark" ∷ decimal e.mark ∷ rest) h.number)
    ∙ ap (λ o. o >>= after_target e.number) (name_at_back e.target (decimal e.channel ∷ codes "mark" ∷ decimal e.mark ∷ rest) h.target)
    ∙ ap (λ o. o >>= after_channel e.number e.target) (small_at_back e.channel (codes "mark" ∷ decimal e.mark ∷ rest) h.channel)
    ∙ ap (λ o. o >>= after_mark e.number e.target e.channel) (count_at_back (codes "mark") e.mark rest h.mark)
    ∙ ap (λ o. o >>= after_decision e.number e.target e.channel e.mark) (decision_back e.decision (codes "reply" ∷ reply_fields e.reply) h.decision)
    ∙ ap (λ o. o >>= after_reply e.number e.target e.channel e.mark e.decision) (reply_back e.reply [] h.reply)

pub entry_passes : (e : EntryLine) → EntryInRange e → AllPass 32 (entry_fields e)
entry_passes e h = (word_leads (decimal e.number) (decimal_plain e.number h.number), (word_leads e.target (name_plain e.target h.target), (word_leads (decimal e.channel) (small_plain e.channel h.channel), (word_leads (codes "mark") refl, (word_leads (decimal e.mark) (decimal_plain e.mark h.mark), all_both 32 (decision_fields e.decision) (codes "reply" ∷ reply_fields e.reply) (decision_passes e.decision h.decision) (word_leads (codes "reply") refl, reply_passes e.reply h.reply))))))
