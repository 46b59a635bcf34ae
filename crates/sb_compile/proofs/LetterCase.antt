-- Folding the strings and the patterns of a policy changes no verdict.
use Rattle.std.specs.Prelude.{nat_eq}
use Rattle.std.specs.Cmp.Lexicographic.{pointwise}
use Rattle.std.specs.List.{list_all}
use Rattle.std.proofs.Common.{◌≡◌, ◌∙◌, ℕ, not, cond, List, [], ◌∷◌, ◌&&◌, eqb, map, refl, ap, sym, arith}
use Rattle.std.proofs.lemmas.Bool.Decides.{nat_tests}
use Rattle.sb_base.specs.Wide.{folded}
use Rattle.sb_call.specs.Arguments.{arg_at}
use Rattle.sb_call.specs.Tags.{number_of}
use Rattle.sb_call.specs.declared.arguments.Arg.{Arg}
use Rattle.sb_call.specs.declared.arguments.Arg.TheVariants as arg
use Rattle.sb_call.specs.declared.tags.CallTag.{CallTag}
use Rattle.sb_rule.specs.Matching.{MatchingFoldsTheLiterals}
use Rattle.sb_rule.specs.Verdicts.{test_holds, cond_holds, verdict_by, verdict_by_rule}
use Rattle.sb_rule.specs.declared.conditions.Cond.{Cond}
use Rattle.sb_rule.specs.declared.conditions.Test.{Test}
use Rattle.sb_rule.specs.declared.conditions.Test.TheVariants as test
use Rattle.sb_rule.specs.declared.policies.Rule.{Rule}
use Rattle.sb_compile.specs.Laws.{CompilingKeepsVerdicts, LetterCaseDoesNotMatter, folded_test, folded_cond, folded_rule}

fold_once : (u : ℕ) → folded (folded u) ≡ folded u
fold_once u = grind (arith, nat_tests)

folds_once : (us : List ℕ) → map folded (map folded us) ≡ map folded us
folds_once [] = refl
folds_once (u ∷ us) = λ i. fold_once u i ∷ folds_once us i

test_folded : MatchingFoldsTheLiterals → (t : Test) (a : Arg) → test_holds (folded_test t) a ≡ test_holds t a
test_folded folds (test.OneOf ns) a = refl
test_folded folds (test.Range lo hi) a = refl
test_folded folds (test.Mask mask) a = refl
test_folded folds (test.Equal text) (arg.Num n) = refl
test_folded folds (test.Equal text) (arg.Str us) = ap (pointwise nat_eq (map folded us)) (folds_once text)
test_folded folds (test.Like cells) (arg.Num n) = refl
test_folded folds (test.Like cells) (arg.Str us) = folds cells us

conds_folded : MatchingFoldsTheLiterals → (args : List Arg) (cs : List Cond) → list_all (λ c. cond_holds c args) (map folded_cond cs) ≡ list_all (λ c. cond_holds c args) cs
conds_folded folds args [] = refl
conds_folded folds args (c ∷ cs) =
    λ i. cond c.negated (not (test_folded folds c.test (arg_at args c.param) i)) (test_folded folds c.test (arg_at args c.param) i) && conds_folded folds args cs i

rules_folded : MatchingFoldsTheLiterals → (tag : CallTag) (args : List Arg) (rules : List Rule) → verdict_by (map folded_rule rules) tag args ≡ verdict_by rules tag args
rules_folded folds tag args [] = refl
rules_folded folds tag args (rule ∷ rules) =
    λ i. cond (eqb (number_of rule.tag) (number_of tag) && conds_folded folds args rule.conds i) (verdict_by_rule rule) (rules_folded folds tag args rules i)

pub letter_case_does_not_matter : MatchingFoldsTheLiterals → CompilingKeepsVerdicts → LetterCaseDoesNotMatter
letter_case_does_not_matter folds keeps a b tag args v w same f =
    keeps a tag args v f
    ∙ sym (rules_folded folds tag args a.rules)
    ∙ ap (λ rules. verdict_by rules tag args) same
    ∙ rules_folded folds tag args b.rules
    ∙ sym (keeps b tag args w f)
