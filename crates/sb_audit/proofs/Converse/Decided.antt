-- What the line of an entry shows of its decision: a rule that is there, the reply that is due, and the namespace after it.
use Rattle.std.proofs.Common.{◌≡◌, ◌∙◌, ℕ, ◌+◌, ◌≤◌, arith, Bool, true, false, ◌&&◌, eqb, cond, List, [], ◌∷◌, ◌++◌, length, Option, None, Some, bit_and, refl, ap, sym, subst}
use Rattle.std.proofs.lemmas.Bool.{and_from, and_parts, eq-eqb, false≢true}
use Rattle.std.proofs.lemmas.List.Sums.{sum_by-cons}
use Rattle.std.proofs.lemmas.Bool.Decides.{nat_tests}
use Rattle.std.proofs.lemmas.Nat.{and_assoc, and_le_l}
use Rattle.std.specs.Int.Bits.{and_zero_r}
use Rattle.std.specs.Cmp.Lexicographic.{bytes_decides}
use Rattle.std.specs.List.{list_any}
use Rattle.sb_block.specs.Calls.{call_of, call_unless}
use Rattle.sb_block.specs.Copies.{Copied}
use Rattle.sb_block.specs.Faults.{fault}
use Rattle.sb_block.specs.Laws.{FaultlessCopiesFit}
use Rattle.sb_block.specs.declared.faults.BlockFault.{BlockFault}
use Rattle.sb_book.specs.Decisions.{by_decoded, by_verdict, decision_of, read_only_args}
use Rattle.sb_rule.specs.Accesses.{read_only_bits, writing_bits}
use Rattle.sb_book.specs.Histories.{fault_words, reply_of, space_after}
use Rattle.sb_book.specs.declared.decisions.Decision.{Decision}
use Rattle.sb_book.specs.declared.decisions.Decision.TheVariants as decision
use Rattle.sb_book.specs.declared.entries.Entry.{Entry}
use Rattle.sb_call.specs.Arguments.{fit, fits, fits_kind}
use Rattle.sb_call.specs.Tags.{number_of, shape_of}
use Rattle.sb_call.specs.declared.arguments.Arg.{Arg}
use Rattle.sb_call.specs.declared.arguments.Arg.TheVariants as arg
use Rattle.sb_call.specs.declared.tags.CallTag.{CallTag}
use Rattle.sb_call.specs.declared.tags.ParamKind.{ParamKind}
use Rattle.sb_call.specs.declared.tags.ParamKind.TheVariants.{Text, Name, Num, Handle}
use Rattle.sb_kernel.specs.Namespaces.{Space}
use Rattle.sb_transcript.specs.Printed.{shown_decision, shown_denial, shown_entry, shown_grant, shown_reply}
use Rattle.sb_transcript.specs.declared.read_lines.EntryLine.{EntryLine}
use Rattle.sb_transcript.specs.declared.read_lines.ShownDecision.{ShownDecision}
use Rattle.sb_transcript.specs.declared.read_lines.ShownDecision.TheVariants.{Refused, NoRule, Denied, Alarmed, Faked, Allowed, ReadOnly}
use Rattle.sb_transcript.specs.declared.read_lines.ShownReply.{ShownReply}
use Rattle.sb_rule.specs.Actions.{action_number}
use Rattle.sb_rule.specs.Verdicts.{DecidingRuleIsFirst, is_for, verdict_of}
use Rattle.sb_rule.specs.declared.actions.Action.{Action}
use Rattle.sb_rule.specs.declared.actions.Action.TheVariants as action
use Rattle.sb_rule.specs.declared.policies.Policy.{Policy}
use Rattle.sb_rule.specs.declared.verdicts.Verdict.{Verdict}
use Rattle.sb_rule.specs.declared.verdicts.Verdict.TheVariants as verdict
use Rattle.sb_statements.specs.declared.scripts.Script.{Script}
use Rattle.sb_transcript.specs.Totals as totals
use Rattle.sb_audit.specs.Before.{performed_of, space_with}
use Rattle.sb_audit.specs.Clauses.{has_rule, is_allow, is_denied, is_faked, is_performed, is_refused, is_rule, count_of, only_reads, reply_due, shows_rule}
use Rattle.sb_audit.specs.Comparing.{same_argument, same_arguments, same_decision, same_numbers, same_reply, same_tag}
use Rattle.sb_audit.proofs.Converse.Lists.{any_true, at_seam}
use Rattle.sb_audit.proofs.Converse.ShownLines.{shown_entries}

-- ---- the cases of what is shown

of_denial : (P : ShownDecision → Type 0) (tag : CallTag) (n : ℕ) (a : Action) → P (Denied tag n) → P (Alarmed tag n) → P (shown_denial tag n a)
of_denial P tag n action.Allow d l = d
of_denial P tag n action.Deny d l = d
of_denial P tag n action.Alarm d l = l
of_denial P tag n action.Fake d l = d
of_denial P tag n action.ReadOnly d l = d

of_grant : (P : ShownDecision → Type 0) (tag : CallTag) (n : ℕ) (a : Action) (args : List Arg) → P (Allowed tag args n) → P (ReadOnly tag args n) → P (shown_grant tag n a args)
of_grant P tag n action.Allow args g r = g
of_grant P tag n action.Deny args g r = g
of_grant P tag n action.Alarm args g r = g
of_grant P tag n action.Fake args g r = g
of_grant P tag n action.ReadOnly args g r = r

-- ---- 3. rule

-- a number with fewer bits is of the same kind
cut_kind : (kind : ParamKind) (n : ℕ) → fits_kind kind (arg.Num n) ≡ true → fits_kind kind (arg.Num (bit_and n read_only_bits)) ≡ true
cut_kind Text n h = absurd (false≢true h)
cut_kind Name n h = absurd (false≢true h)
cut_kind Handle n h = refl
cut_kind Num n h =
    let less : bit_and n read_only_bits ≤ n = and_le_l n read_only_bits in
    grind (arith, nat_tests, less, h)

cut_fits : (kinds : List ParamKind) (args : List Arg) → fit kinds args ≡ true → fit kinds (read_only_args args) ≡ true
cut_fits kinds [] h = h
cut_fits kinds (a ∷ []) h = h
cut_fits kinds (a ∷ arg.Str us ∷ more) h = h
cut_fits [] (a ∷ arg.Num n ∷ more) h = absurd (false≢true h)
cut_fits (k ∷ []) (a ∷ arg.Num n ∷ more) h = h
cut_fits (k ∷ kind ∷ kinds) (a ∷ arg.Num n ∷ more) h =
    let first = and_parts (fits_kind k a) (fits_kind kind (arg.Num n) && fit kinds more) h in
    let second = and_parts (fits_kind kind (arg.Num n)) (fit kinds more) first.1 in
    rw (first.0, cut_kind kind n second.0) second.1

-- a rule of this line and action that decides is among the rules
has_deciding : DecidingRuleIsFirst → (policy : Policy) (tag : CallTag) (args : List Arg) (n : ℕ) (a : Action) → verdict_of policy tag args ≡ verdict.Rule n a
    → has_rule policy tag n a ≡ true
has_deciding law policy tag args n a v =
    let w = law policy.rules tag args n a v in
    let rule = w.0 in
    let first = w.1 in
    let tagged : is_for tag rule ≡ true = (and_parts _ _ first.holds).0 in
    let on_line : eqb rule.line n ≡ true = eq-eqb rule.line n w.2 in
    let by_action : eqb (action_number rule.action) (action_number a) ≡ true = eq-eqb (action_number rule.action) (action_number a) (ap action_number w.3) in
    let is : is_rule tag n a rule ≡ true = and_from _ _ (and_from _ _ tagged on_line) by_action in
    ap (λ rules. list_any (is_rule tag n a) rules) first.parts
    ∙ any_true (is_rule tag n a) (first.before ++ rule ∷ first.after) rule (length first.before, at_seam first.before rule first.after) is

-- arguments that are cut to the bits that only read do only that
cut_reads : (args : List Arg) → only_reads (read_only_args args) ≡ true
cut_reads [] = refl
cut_reads (a ∷ []) = refl
cut_reads (a ∷ arg.Str us ∷ more) = refl
cut_reads (a ∷ arg.Num n ∷ more) =
    let none : bit_and read_only_bits writing_bits ≡ 0 = refl in
    eq-eqb (bit_and (bit_and n read_only_bits) writing_bits) 0 (and_assoc writing_bits n read_only_bits ∙ ap (bit_and n) none ∙ and_zero_r n)

-- what a verdict decides shows its rule
verdict_shown : DecidingRuleIsFirst → (policy : Policy) (tag : CallTag) (args : List Arg) → fits tag args ≡ true → fits tag (read_only_args args) ≡ true
    → (v : Verdict) → verdict_of policy tag args ≡ v → shows_rule policy (shown_decision (by_verdict tag args v)) ≡ true
verdict_shown law policy tag args h k (verdict.Rule n action.Allow) e =
    and_from (fits tag args) (is_allow n (verdict_of policy tag args)) h (ap (is_allow n) e ∙ eq-eqb n n refl)
verdict_shown law policy tag args h k (verdict.Rule n action.ReadOnly) e =
    and_from (fits tag (read_only_args args) && has_rule policy tag n action.ReadOnly) (only_reads (read_only_args args))
    (and_from (fits tag (read_only_args args)) (has_rule policy tag n action.ReadOnly) k (has_deciding law policy tag args n action.ReadOnly e)) (cut_reads args)
verdict_shown law policy tag args h k (verdict.Rule n action.Fake) e = has_deciding law policy tag args n action.Fake e
verdict_shown law policy tag args h k (verdict.Rule n action.Deny) e = has_deciding law policy tag args n action.Deny e
verdict_shown law policy tag args h k (verdict.Rule n action.Alarm) e = has_deciding law policy tag args n action.Alarm e
verdict_shown law policy tag args h k verdict.NoRule e = refl

-- what a policy decides on a copy shows its rule
pub decision_shown : FaultlessCopiesFit → DecidingRuleIsFirst → (policy : Policy) (copy : Copied) → shows_rule policy (shown_decision (decision_of policy copy)) ≡ true
decision_shown fitting law policy copy = by (fault copy) refl
  where
    by : (o : Option BlockFault) → fault copy ≡ o → shows_rule policy (shown_decision (by_decoded policy (call_unless o (call_of copy)))) ≡ true
    by None e =
        let tag = (call_of copy).tag in
        let args = (call_of copy).args in
        let h : fits tag args ≡ true = fitting copy e in
        verdict_shown law policy tag args h (cut_fits (shape_of tag) args h) (verdict_of policy tag args) refl
    by (Some f) e = refl

-- ---- 4. reply

pub reply_shown : (ns : Space) (t m : ℕ) (d : Decision) → shown_reply (reply_of ns t m d) ≡ reply_due ns t (shown_decision d)
reply_shown ns t m (decision.Refused f) = refl
reply_shown ns t m (decision.Denied tag verdict.NoRule) = refl
reply_shown ns t m (decision.Denied tag (verdict.Rule n a)) =
    of_denial (λ s. shown_reply (reply_of ns t m (decision.Denied tag (verdict.Rule n a))) ≡ reply_due ns t s) tag n a refl refl
reply_shown ns t m (decision.Faked tag n) = refl
reply_shown ns t m (decision.Performed tag n a args) =
    of_grant (λ s. shown_reply (reply_of ns t m (decision.Performed tag n a args)) ≡ reply_due ns t s) tag n a args refl refl

pub space_shown : (ns : Space) (t : ℕ) (d : Decision) → space_with ns (Some t) (performed_of (shown_decision d)) ≡ space_after ns t d
space_shown ns t (decision.Refused f) = refl
space_shown ns t (decision.Denied tag verdict.NoRule) = refl
space_shown ns t (decision.Denied tag (verdict.Rule n a)) = of_denial (λ s. space_with ns (Some t) (performed_of s) ≡ ns) tag n a refl refl
space_shown ns t (decision.Faked tag n) = refl
space_shown ns t (decision.Performed tag n a args) =
    of_grant (λ s. space_with ns (Some t) (performed_of s) ≡ space_after ns t (decision.Performed tag n a args)) tag n a args refl refl

-- ---- what is the same as itself

numbers_same : (xs : List ℕ) → same_numbers xs xs ≡ true
numbers_same xs = (bytes_decides xs xs).1 refl

same_itself : (n : ℕ) → eqb n n ≡ true
same_itself n = eq-eqb n n refl

itself_replied : (r : ShownReply) → same_reply r r ≡ true
itself_replied r =
    and_from (eqb r.outcome r.outcome && eqb r.status r.status && eqb r.handle r.handle) (same_numbers r.ext r.ext)
    (and_from (eqb r.outcome r.outcome && eqb r.status r.status) (eqb r.handle r.handle)
    (and_from (eqb r.outcome r.outcome) (eqb r.status r.status) (same_itself r.outcome) (same_itself r.status)) (same_itself r.handle)) (numbers_same r.ext)

pub reply_same : (a b : ShownReply) → a ≡ b → same_reply a b ≡ true
reply_same a b e = subst (λ (z : ShownReply). same_reply a z ≡ true) e (itself_replied a)

argument_same : (a : Arg) → same_argument a a ≡ true
argument_same (arg.Num n) = same_itself n
argument_same (arg.Str us) = numbers_same us

arguments_same : (args : List Arg) → same_arguments args args ≡ true
arguments_same [] = refl
arguments_same (a ∷ args) = and_from (same_argument a a) (same_arguments args args) (argument_same a) (arguments_same args)

tagged_same : (tag : CallTag) (n : ℕ) → (same_tag tag tag && eqb n n) ≡ true
tagged_same tag n = and_from (same_tag tag tag) (eqb n n) (same_itself (number_of tag)) (same_itself n)

granted_same : (tag : CallTag) (args : List Arg) (n : ℕ) → (same_tag tag tag && same_arguments args args && eqb n n) ≡ true
granted_same tag args n =
    and_from (same_tag tag tag && same_arguments args args) (eqb n n)
    (and_from (same_tag tag tag) (same_arguments args args) (same_itself (number_of tag)) (arguments_same args)) (same_itself n)

itself_decided : (d : ShownDecision) → same_decision d d ≡ true
itself_decided (Refused f) = numbers_same (fault_words f)
itself_decided (NoRule tag) = same_itself (number_of tag)
itself_decided (Denied tag n) = tagged_same tag n
itself_decided (Alarmed tag n) = tagged_same tag n
itself_decided (Faked tag n) = tagged_same tag n
itself_decided (Allowed tag args n) = granted_same tag args n
itself_decided (ReadOnly tag args n) = granted_same tag args n

pub decision_same : (a b : ShownDecision) → a ≡ b → same_decision a b ≡ true
decision_same a b e = subst (λ (z : ShownDecision). same_decision a z ≡ true) e (itself_decided a)

-- ---- 7. totals

performed_shown : (d : Decision) → is_performed (shown_decision d) ≡ totals.is_performed d
performed_shown (decision.Refused f) = refl
performed_shown (decision.Denied tag verdict.NoRule) = refl
performed_shown (decision.Denied tag (verdict.Rule n a)) = of_denial (λ s. is_performed s ≡ false) tag n a refl refl
performed_shown (decision.Faked tag n) = refl
performed_shown (decision.Performed tag n a args) = of_grant (λ s. is_performed s ≡ true) tag n a args refl refl

faked_shown : (d : Decision) → is_faked (shown_decision d) ≡ totals.is_faked d
faked_shown (decision.Refused f) = refl
faked_shown (decision.Denied tag verdict.NoRule) = refl
faked_shown (decision.Denied tag (verdict.Rule n a)) = of_denial (λ s. is_faked s ≡ false) tag n a refl refl
faked_shown (decision.Faked tag n) = refl
faked_shown (decision.Performed tag n a args) = of_grant (λ s. is_faked s ≡ false) tag n a args refl refl

denied_shown : (d : Decision) → is_denied (shown_decision d) ≡ totals.is_denied d
denied_shown (decision.Refused f) = refl
denied_shown (decision.Denied tag verdict.NoRule) = refl
denied_shown (decision.Denied tag (verdict.Rule n a)) = of_denial (λ s. is_denied s ≡ true) tag n a refl refl
denied_shown (decision.Faked tag n) = refl
denied_shown (decision.Performed tag n a args) = of_grant (λ s. is_denied s ≡ false) tag n a args refl refl

refused_shown : (d : Decision) → is_refused (shown_decision d) ≡ totals.is_refused d
refused_shown (decision.Refused f) = refl
refused_shown (decision.Denied tag verdict.NoRule) = refl
refused_shown (decision.Denied tag (verdict.Rule n a)) = of_denial (λ s. is_refused s ≡ false) tag n a refl refl
refused_shown (decision.Faked tag n) = refl
refused_shown (decision.Performed tag n a args) = of_grant (λ s. is_refused s ≡ false) tag n a args refl refl

-- as many lines show such a decision as there are entries with it
counted : (test : ShownDecision → Bool) (is_such : Decision → Bool) → ((d : Decision) → test (shown_decision d) ≡ is_such d)
    → (script : Script) (n : ℕ) (es : List Entry) → count_of test (shown_entries script n es) ≡ totals.count_of is_such es
counted test is_such same script n [] = refl
counted test is_such same script n (e ∷ es) =
    sum_by-cons (λ (s : EntryLine). cond (test s.decision) 1 0) (shown_entry script n e) (shown_entries script (n + 1) es)
    ∙ ap (λ b. cond b 1 0 + count_of test (shown_entries script (n + 1) es)) (same e.decision)
    ∙ ap (λ k. cond (is_such e.decision) 1 0 + k) (counted test is_such same script (n + 1) es)
    ∙ sym (sum_by-cons (λ (x : Entry). cond (is_such x.decision) 1 0) e es)

pub performed_counted : (script : Script) (n : ℕ) (es : List Entry) → count_of is_performed (shown_entries script n es) ≡ totals.count_of totals.is_performed es
performed_counted script n es = counted is_performed totals.is_performed performed_shown script n es

pub faked_counted : (script : Script) (n : ℕ) (es : List Entry) → count_of is_faked (shown_entries script n es) ≡ totals.count_of totals.is_faked es
faked_counted script n es = counted is_faked totals.is_faked faked_shown script n es

pub denied_counted : (script : Script) (n : ℕ) (es : List Entry) → count_of is_denied (shown_entries script n es) ≡ totals.count_of totals.is_denied es
denied_counted script n es = counted is_denied totals.is_denied denied_shown script n es

pub refused_counted : (script : Script) (n : ℕ) (es : List Entry) → count_of is_refused (shown_entries script n es) ≡ totals.count_of totals.is_refused es
refused_counted script n es = counted is_refused totals.is_refused refused_shown script n es
