-- Covers of questions about policies are covers under policies.
use Rattle.std.specs.List.{filter, list_all}
use Rattle.std.proofs.Common.{◌≡◌, ◌∙◌, ℕ, Bool, true, false, cond, Option, None, Some, List, [], ◌∷◌, ◌++◌, ◌&&◌, eqb, map, take, refl, ap, sym, arith}
use Rattle.std.proofs.lemmas.Bool.{and_parts, false≢true}
use Rattle.std.proofs.lemmas.Bool.Decides.{nat_tests}
use Rattle.sb_call.specs.Arguments.{arg_at, fits}
use Rattle.sb_call.specs.Tags.{number_of}
use Rattle.sb_call.specs.declared.arguments.Arg.{Arg}
use Rattle.sb_call.specs.declared.arguments.Arg.TheVariants as arg
use Rattle.sb_call.specs.declared.tags.CallTag.{CallTag}
use Rattle.sb_rule.specs.Accesses.{writing_bits}
use Rattle.sb_rule.specs.Verdicts.{rule_holds, test_holds, verdict_of}
use Rattle.sb_rule.specs.declared.conditions.Test.TheVariants.{Mask}
use Rattle.sb_rule.specs.declared.policies.Policy.{Policy}
use Rattle.sb_rule.specs.declared.policies.Rule.{Rule}
use Rattle.sb_cover.specs.CallAccesses.{access_param, access_rule, access_rules, access_rules_by, has_writing_bits, writes, writes_at}
use Rattle.sb_cover.specs.Choices.{is_passable}
use Rattle.sb_cover.specs.Covers.{answer, AnswersDecide, HaveSameAnswers, IsCover, verdict_of_answer}
use Rattle.sb_cover.specs.Lengths.{NotLongerIsAsShort}
use Rattle.sb_cover.specs.PolicyCovers.{question_of, questions_of, verdicts_of, IsCoverUnder}

-- an answer has a rule
abbrev has_rule : List Rule → Bool
has_rule [] = false
has_rule (rule ∷ rules) = true

mask_is : (a : Arg) → test_holds (Mask writing_bits) a ≡ has_writing_bits a
mask_is (arg.Num n) = refl
mask_is (arg.Str units) = refl

same_tag : (n : ℕ) → eqb n n ≡ true
same_tag n = grind (arith, nat_tests)

has_one : (rule : Rule) (e x : Bool) → e ≡ true → has_rule (take 1 (cond (e && (x && true)) (rule ∷ []) [])) ≡ x
has_one rule true true h = refl
has_one rule true false h = refl
has_one rule false x h = absurd (false≢true h)

-- whether the rule on the access is an answer
access_is : (tag : CallTag) (param : Option ℕ) (args : List Arg) → has_rule (take 1 (filter (λ rule. rule_holds rule tag args) (access_rules_by tag param))) ≡ writes_at param args
access_is tag None args = refl
access_is tag (Some param) args =
    has_one (access_rule tag param) (eqb (number_of tag) (number_of tag)) (test_holds (Mask writing_bits) (arg_at args param)) (same_tag (number_of tag)) ∙ mask_is (arg_at args param)

access_same : (tag : CallTag) (a b : List Arg) → answer (question_of (access_rules tag)) tag a ≡ answer (question_of (access_rules tag)) tag b → writes tag a ≡ writes tag b
access_same tag a b h = sym (access_is tag (access_param tag) a) ∙ ap has_rule h ∙ access_is tag (access_param tag) b

verdict_same : AnswersDecide → (policy : Policy) (tag : CallTag) (a b : List Arg) → answer (question_of policy.rules) tag a ≡ answer (question_of policy.rules) tag b
    → verdict_of policy tag a ≡ verdict_of policy tag b
verdict_same law policy tag a b h = sym (law policy.rules 0 tag a) ∙ ap verdict_of_answer h ∙ law policy.rules 0 tag b

all_same : AnswersDecide → (tag : CallTag) (last : List Rule) (policies : List Policy) (a b : List Arg)
    → HaveSameAnswers tag (map (λ policy. question_of policy.rules) policies ++ question_of last ∷ []) a b
    → (verdicts_of tag policies a ≡ verdicts_of tag policies b) × (answer (question_of last) tag a ≡ answer (question_of last) tag b)
all_same law tag last [] a b h = (refl, h.0)
all_same law tag last (policy ∷ policies) a b h =
    let rest = all_same law tag last policies a b h.1 in
    (λ i. verdict_same law policy tag a b h.0 i ∷ rest.0 i, rest.1)

pub covers_under : AnswersDecide → NotLongerIsAsShort → (tag : CallTag) (policies : List Policy) (calls : List (List Arg)) → IsCover tag (questions_of tag policies) calls
    → IsCoverUnder tag policies calls
covers_under law short tag policies calls cover other is =
    let p = and_parts (list_all is_passable other) (fits tag other) is in
    let twin = cover other p.0 p.1 in
    let same = all_same law tag (access_rules tag) policies twin.call other twin.same in
    record {
      call = twin.call;
      is = twin.is;
      fits = twin.fits;
      verdicts = same.0;
      access = access_same tag twin.call other same.1;
      short = short tag twin.call other twin.fits p.1 twin.short;
    }
