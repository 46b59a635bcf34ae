-- The change of a call tells whether both policies answer it alike.
use Rattle.std.specs.List.{list_all}
use Rattle.std.proofs.Common.{◌≡◌, ◌∙◌, ◌<◌, ◌^◌, ℕ, Bool, true, false, cond, not, Option, None, Some, List, [], ◌∷◌, ◌&&◌, ◌||◌, eqb, leb, ltb, bit_and, length, refl, ap, sym, subst, arith}
use Rattle.std.specs.Int.Bits.{bit_or, and_zero_r}
use Rattle.std.proofs.lemmas.Bool.{and_parts, eqb-true, false≢true}
use Rattle.std.proofs.lemmas.Bool.Decides.{nat_tests}
use Rattle.std.proofs.lemmas.Nat.{and_assoc, and_comm, and_mask, and_or_apart}
use Rattle.sb_call.specs.Arguments.{arg_at, fit, fits, fits_kind}
use Rattle.sb_call.specs.Tags.{number_of, tag_of}
use Rattle.sb_call.specs.declared.arguments.Arg.{Arg}
use Rattle.sb_call.specs.declared.arguments.Arg.TheVariants as arg
use Rattle.sb_call.specs.declared.tags.CallTag.{CallTag}
use Rattle.sb_call.specs.declared.tags.CallTag.TheVariants.{Ping, FileCreate, FileOpen, FileQuery, FileRename, PipeCreate, KeyCreate, KeyOpen, EventCreate, EventOpen, HandleClose}
use Rattle.sb_call.specs.declared.tags.ParamKind.{ParamKind}
use Rattle.sb_call.specs.declared.tags.ParamKind.TheVariants.{Name, Num}
use Rattle.sb_cover.specs.CallAccesses.{has_writing_bits, writes}
use Rattle.sb_book.specs.Decisions.{read_only_args}
use Rattle.sb_rule.specs.Accesses.{read_only_bits, writing_bits}
use Rattle.sb_rule.specs.Limits.{most_conditions, most_rules}
use Rattle.sb_rule.specs.Verdicts.{cond_holds, rule_holds, verdict_by, verdict_by_rule, verdict_of}
use Rattle.sb_rule.specs.WellMade.{is_for_readers, is_well_formed, is_well_made, is_well_made_rule}
use Rattle.sb_rule.specs.declared.actions.Action.{Action}
use Rattle.sb_rule.specs.declared.actions.Action.TheVariants.{Allow, Deny, Alarm, Fake, ReadOnly}
use Rattle.sb_rule.specs.declared.policies.Policy.{Policy}
use Rattle.sb_rule.specs.declared.policies.Rule.{Rule}
use Rattle.sb_rule.specs.declared.verdicts.Verdict.{Verdict}
use Rattle.sb_rule.specs.declared.verdicts.Verdict.TheVariants as verdict
use Rattle.sb_compare.specs.Changes.{Answer, Performed, Faked, Denied, Alarmed, answer_by, answer_to, action_of, are_alike, ChangesDecideAnswers}

-- an access without bits that do more than read is not cut, and one that is not cut has none
cut_nothing : (a : ℕ) → a < 2 ^ 32 → bit_and a writing_bits ≡ 0 → bit_and a read_only_bits ≡ a
cut_nothing a low h =
    and_comm a read_only_bits ∙ sym (and_or_apart a read_only_bits writing_bits (and_comm writing_bits a ∙ h)) ∙ and_comm (bit_or read_only_bits writing_bits) a
    ∙ and_mask a 32 ∙ omega (arith, low)

cut_something : (a : ℕ) → bit_and a read_only_bits ≡ a → bit_and a writing_bits ≡ 0
cut_something a h = ap (λ n. bit_and n writing_bits) (sym h) ∙ and_assoc writing_bits a read_only_bits ∙ and_zero_r a

no_bits : (n : ℕ) → not (eqb n 0) ≡ false → n ≡ 0
no_bits n h = grind (arith, nat_tests)

zero_bits : (n : ℕ) → n ≡ 0 → not (eqb n 0) ≡ false
zero_bits n h = grind (arith, nat_tests)

below : (a : ℕ) → ltb a (2 ^ 32) ≡ true → a < 2 ^ 32
below a h = grind (arith, nat_tests)

-- the second argument of a call that opens
second_kept : (kinds : List ParamKind) (args : List Arg) → fit (Name ∷ Num ∷ kinds) args ≡ true → has_writing_bits (arg_at args 1) ≡ false → read_only_args args ≡ args
second_kept kinds [] f w = absurd (false≢true f)
second_kept kinds (first ∷ []) f w = absurd (false≢true (and_parts (fits_kind Name first) false f).1)
second_kept kinds (first ∷ arg.Str units ∷ more) f w =
    absurd (false≢true (and_parts (fits_kind Num (arg.Str units)) (fit kinds more) (and_parts (fits_kind Name first) (fit (Num ∷ kinds) (arg.Str units ∷ more)) f).1).0)
second_kept kinds (first ∷ arg.Num a ∷ more) f w =
    let low = below a (and_parts (fits_kind Num (arg.Num a)) (fit kinds more) (and_parts (fits_kind Name first) (fit (Num ∷ kinds) (arg.Num a ∷ more)) f).1).0 in
    ap (λ n. first ∷ arg.Num n ∷ more) (cut_nothing a low (no_bits (bit_and a writing_bits) w))

-- the number of the second argument
abbrev second_number : List Arg → ℕ
second_number (first ∷ arg.Num a ∷ more) = a
second_number _ = 0

second_reads : (kinds : List ParamKind) (args : List Arg) → fit (Name ∷ Num ∷ kinds) args ≡ true → read_only_args args ≡ args → has_writing_bits (arg_at args 1) ≡ false
second_reads kinds [] f same = absurd (false≢true f)
second_reads kinds (first ∷ []) f same = absurd (false≢true (and_parts (fits_kind Name first) false f).1)
second_reads kinds (first ∷ arg.Str units ∷ more) f same = refl
second_reads kinds (first ∷ arg.Num a ∷ more) f same = zero_bits (bit_and a writing_bits) (cut_something a (ap second_number same))

-- the access of a call that opens is its second argument
open_kept : (tag : CallTag) (args : List Arg) → is_for_readers ReadOnly tag ≡ true → fits tag args ≡ true → writes tag args ≡ false → read_only_args args ≡ args
open_kept FileOpen args is f w = second_kept (Num ∷ Num ∷ []) args f w
open_kept KeyOpen args is f w = second_kept [] args f w
open_kept EventOpen args is f w = second_kept [] args f w
open_kept Ping args is f w = absurd (false≢true is)
open_kept FileCreate args is f w = absurd (false≢true is)
open_kept FileQuery args is f w = absurd (false≢true is)
open_kept FileRename args is f w = absurd (false≢true is)
open_kept PipeCreate args is f w = absurd (false≢true is)
open_kept KeyCreate args is f w = absurd (false≢true is)
open_kept EventCreate args is f w = absurd (false≢true is)
open_kept HandleClose args is f w = absurd (false≢true is)

open_reads : (tag : CallTag) (args : List Arg) → is_for_readers ReadOnly tag ≡ true → fits tag args ≡ true → read_only_args args ≡ args → writes tag args ≡ false
open_reads FileOpen args is f same = second_reads (Num ∷ Num ∷ []) args f same
open_reads KeyOpen args is f same = second_reads [] args f same
open_reads EventOpen args is f same = second_reads [] args f same
open_reads Ping args is f same = absurd (false≢true is)
open_reads FileCreate args is f same = absurd (false≢true is)
open_reads FileQuery args is f same = absurd (false≢true is)
open_reads FileRename args is f same = absurd (false≢true is)
open_reads PipeCreate args is f same = absurd (false≢true is)
open_reads KeyCreate args is f same = absurd (false≢true is)
open_reads EventCreate args is f same = absurd (false≢true is)
open_reads HandleClose args is f same = absurd (false≢true is)

-- a tag is told by its number
abbrev tag_from : Option CallTag → CallTag
tag_from (Some tag) = tag
tag_from None = Ping

tag_back : (tag : CallTag) → tag_from (tag_of (number_of tag)) ≡ tag
tag_back Ping = refl
tag_back FileCreate = refl
tag_back FileOpen = refl
tag_back FileQuery = refl
tag_back FileRename = refl
tag_back PipeCreate = refl
tag_back KeyCreate = refl
tag_back KeyOpen = refl
tag_back EventCreate = refl
tag_back EventOpen = refl
tag_back HandleClose = refl

same_tag : (a b : CallTag) → number_of a ≡ number_of b → a ≡ b
same_tag a b e = sym (tag_back a) ∙ ap (λ n. tag_from (tag_of n)) e ∙ tag_back b

-- the action of the rule that decides is one for the call
action_fits : (rules : List Rule) (tag : CallTag) (args : List Arg) → list_all is_well_made_rule rules ≡ true → is_for_readers (action_of (verdict_by rules tag args)) tag ≡ true
action_fits [] tag args made = refl
action_fits (rule ∷ rules) tag args made =
    let p = and_parts (is_well_made_rule rule) (list_all is_well_made_rule rules) made in
    by (rule_holds rule tag args) refl p.0 (action_fits rules tag args p.1)
  where
    by : (b : Bool) → rule_holds rule tag args ≡ b → is_well_made_rule rule ≡ true → is_for_readers (action_of (verdict_by rules tag args)) tag ≡ true
        → is_for_readers (action_of (cond b (verdict_by_rule rule) (verdict_by rules tag args))) tag ≡ true
    by false holds one rest = rest
    by true holds one rest =
        let is : eqb (number_of rule.tag) (number_of tag) ≡ true = (and_parts (eqb (number_of rule.tag) (number_of tag)) (list_all (λ cond. cond_holds cond args) rule.conds) holds).0 in
        let q = and_parts (leb (length rule.conds) most_conditions && is_for_readers rule.action rule.tag) (list_all (is_well_formed rule.tag) rule.conds) one in
        let reads : is_for_readers rule.action rule.tag ≡ true = (and_parts (leb (length rule.conds) most_conditions) (is_for_readers rule.action rule.tag) q.0).1 in
        subst (λ t. is_for_readers rule.action t ≡ true) (same_tag rule.tag tag (eqb-true (number_of rule.tag) (number_of tag) is)) reads

policy_fits : (policy : Policy) (tag : CallTag) (args : List Arg) → is_well_made policy ≡ true → is_for_readers (action_of (verdict_of policy tag args)) tag ≡ true
policy_fits policy tag args made =
    action_fits policy.rules tag args (and_parts (leb (length policy.rules) most_rules) (list_all is_well_made_rule policy.rules) made).1

-- two tests
reads_only : (w : Bool) → (false || (not w && (true && true))) ≡ true → w ≡ false
reads_only true h = absurd (false≢true h)
reads_only false h = refl

then_alike : (w : Bool) → w ≡ false → (false || (not w && (true && true))) ≡ true
then_alike true h = absurd (false≢true (sym h))
then_alike false h = refl

never : (w : Bool) → (false || (not w && false)) ≡ true → ⊥
never true h = false≢true h
never false h = false≢true h

-- answers of different kinds differ
abbrev kind : Answer → ℕ
kind (Performed args) = 0
kind Faked = 1
kind Denied = 2
kind Alarmed = 3

abbrev rank : Action → ℕ
rank Allow = 0
rank ReadOnly = 0
rank Fake = 1
rank Deny = 2
rank Alarm = 3

kind_is : (action : Action) (args : List Arg) → kind (answer_by action args) ≡ rank action
kind_is Allow args = refl
kind_is ReadOnly args = refl
kind_is Fake args = refl
kind_is Deny args = refl
kind_is Alarm args = refl

differ : (a b : Action) (args : List Arg) → eqb (rank a) (rank b) ≡ false → answer_by a args ≡ answer_by b args → ⊥
differ a b args apart e = by (rank a) (rank b) apart (sym (kind_is a args) ∙ ap kind e ∙ kind_is b args)
  where
    by : (m n : ℕ) → eqb m n ≡ false → m ≡ n → ⊥
    by m n h e = grind (arith, nat_tests)

abbrev args_of : Answer → List Arg
args_of (Performed args) = args
args_of Faked = []
args_of Denied = []
args_of Alarmed = []

alike_answers : (tag : CallTag) (args : List Arg) → fits tag args ≡ true → (a b : Action) → is_for_readers a tag ≡ true → is_for_readers b tag ≡ true
    → are_alike (writes tag args) a b ≡ true → answer_by a args ≡ answer_by b args
alike_answers tag args is Allow Allow fa fb h = refl
alike_answers tag args is Allow ReadOnly fa fb h = sym (ap Performed (open_kept tag args fb is (reads_only (writes tag args) h)))
alike_answers tag args is Allow Fake fa fb h = absurd (never (writes tag args) h)
alike_answers tag args is Allow Deny fa fb h = absurd (never (writes tag args) h)
alike_answers tag args is Allow Alarm fa fb h = absurd (never (writes tag args) h)
alike_answers tag args is ReadOnly Allow fa fb h = ap Performed (open_kept tag args fa is (reads_only (writes tag args) h))
alike_answers tag args is ReadOnly ReadOnly fa fb h = refl
alike_answers tag args is ReadOnly Fake fa fb h = absurd (never (writes tag args) h)
alike_answers tag args is ReadOnly Deny fa fb h = absurd (never (writes tag args) h)
alike_answers tag args is ReadOnly Alarm fa fb h = absurd (never (writes tag args) h)
alike_answers tag args is Fake Allow fa fb h = absurd (never (writes tag args) h)
alike_answers tag args is Fake ReadOnly fa fb h = absurd (never (writes tag args) h)
alike_answers tag args is Fake Fake fa fb h = refl
alike_answers tag args is Fake Deny fa fb h = absurd (never (writes tag args) h)
alike_answers tag args is Fake Alarm fa fb h = absurd (never (writes tag args) h)
alike_answers tag args is Deny Allow fa fb h = absurd (never (writes tag args) h)
alike_answers tag args is Deny ReadOnly fa fb h = absurd (never (writes tag args) h)
alike_answers tag args is Deny Fake fa fb h = absurd (never (writes tag args) h)
alike_answers tag args is Deny Deny fa fb h = refl
alike_answers tag args is Deny Alarm fa fb h = absurd (never (writes tag args) h)
alike_answers tag args is Alarm Allow fa fb h = absurd (never (writes tag args) h)
alike_answers tag args is Alarm ReadOnly fa fb h = absurd (never (writes tag args) h)
alike_answers tag args is Alarm Fake fa fb h = absurd (never (writes tag args) h)
alike_answers tag args is Alarm Deny fa fb h = absurd (never (writes tag args) h)
alike_answers tag args is Alarm Alarm fa fb h = refl

answers_alike : (tag : CallTag) (args : List Arg) → fits tag args ≡ true → (a b : Action) → is_for_readers a tag ≡ true → is_for_readers b tag ≡ true
    → answer_by a args ≡ answer_by b args → are_alike (writes tag args) a b ≡ true
answers_alike tag args is Allow Allow fa fb e = refl
answers_alike tag args is Allow ReadOnly fa fb e = then_alike (writes tag args) (open_reads tag args fb is (sym (ap args_of e)))
answers_alike tag args is Allow Fake fa fb e = absurd (differ Allow Fake args refl e)
answers_alike tag args is Allow Deny fa fb e = absurd (differ Allow Deny args refl e)
answers_alike tag args is Allow Alarm fa fb e = absurd (differ Allow Alarm args refl e)
answers_alike tag args is ReadOnly Allow fa fb e = then_alike (writes tag args) (open_reads tag args fa is (ap args_of e))
answers_alike tag args is ReadOnly ReadOnly fa fb e = refl
answers_alike tag args is ReadOnly Fake fa fb e = absurd (differ ReadOnly Fake args refl e)
answers_alike tag args is ReadOnly Deny fa fb e = absurd (differ ReadOnly Deny args refl e)
answers_alike tag args is ReadOnly Alarm fa fb e = absurd (differ ReadOnly Alarm args refl e)
answers_alike tag args is Fake Allow fa fb e = absurd (differ Fake Allow args refl e)
answers_alike tag args is Fake ReadOnly fa fb e = absurd (differ Fake ReadOnly args refl e)
answers_alike tag args is Fake Fake fa fb e = refl
answers_alike tag args is Fake Deny fa fb e = absurd (differ Fake Deny args refl e)
answers_alike tag args is Fake Alarm fa fb e = absurd (differ Fake Alarm args refl e)
answers_alike tag args is Deny Allow fa fb e = absurd (differ Deny Allow args refl e)
answers_alike tag args is Deny ReadOnly fa fb e = absurd (differ Deny ReadOnly args refl e)
answers_alike tag args is Deny Fake fa fb e = absurd (differ Deny Fake args refl e)
answers_alike tag args is Deny Deny fa fb e = refl
answers_alike tag args is Deny Alarm fa fb e = absurd (differ Deny Alarm args refl e)
answers_alike tag args is Alarm Allow fa fb e = absurd (differ Alarm Allow args refl e)
answers_alike tag args is Alarm ReadOnly fa fb e = absurd (differ Alarm ReadOnly args refl e)
answers_alike tag args is Alarm Fake fa fb e = absurd (differ Alarm Fake args refl e)
answers_alike tag args is Alarm Deny fa fb e = absurd (differ Alarm Deny args refl e)
answers_alike tag args is Alarm Alarm fa fb e = refl

verdict_answer : (v : Verdict) (args : List Arg) → answer_to v args ≡ answer_by (action_of v) args
verdict_answer (verdict.Rule line action) args = refl
verdict_answer verdict.NoRule args = refl

pub changes_decide_answers : ChangesDecideAnswers
changes_decide_answers tag old new args old_made new_made fitting =
    let v = verdict_of old tag args in
    let w = verdict_of new tag args in
    let fv = policy_fits old tag args old_made in
    let fw = policy_fits new tag args new_made in (
      λ h. verdict_answer v args ∙ alike_answers tag args fitting (action_of v) (action_of w) fv fw h ∙ sym (verdict_answer w args),
      λ e. answers_alike tag args fitting (action_of v) (action_of w) fv fw (sym (verdict_answer v args) ∙ e ∙ verdict_answer w args),
    )
