-- Calls that are answered alike by the open rules cover all calls.
use Rattle.std.specs.List.{Contains, filter, list_all}
use Rattle.std.proofs.Common.{◌≡◌, ◌∙◌, ◌+◌, ◌-◌, ℕ, zero, suc, Bool, true, false, cond, List, [], ◌∷◌, ◌++◌, ◌&&◌, length, map, take, drop, refl, ap, sym, subst, append-nil, arith}
use Rattle.std.proofs.lemmas.List.{take-map}
use Rattle.sb_call.specs.Arguments.{fit, fits}
use Rattle.sb_call.specs.Tags.{shape_of}
use Rattle.sb_call.specs.declared.arguments.Arg.{Arg}
use Rattle.sb_call.specs.declared.tags.CallTag.{CallTag}
use Rattle.sb_call.specs.declared.tags.ParamKind.{ParamKind}
use Rattle.sb_rule.specs.Verdicts.{rule_holds, verdict_by, verdict_by_rule}
use Rattle.sb_rule.specs.declared.policies.Rule.{Rule}
use Rattle.sb_rule.specs.declared.verdicts.Verdict.TheVariants as verdict
use Rattle.sb_cover.specs.Calls.{met_from, AnswerAlike, AreCalls, AreLeft}
use Rattle.sb_cover.specs.Choices.{is_passable}
use Rattle.sb_cover.specs.Covers.{answer, args_asked, HaveSameAnswers, IsCover, AnswersDecide, verdict_of_answer}
use Rattle.sb_cover.specs.Opening.{asked_of, rule_at, AreOpened, AllOpened, AreUnread, AllUnread}
use Rattle.sb_cover.specs.Pruning.{places, marks_by, marks_in, is_true, IsLabel}
use Rattle.sb_cover.specs.declared.asked_conds.AskedCond.{AskedCond}
use Rattle.sb_cover.specs.declared.open_rules.OpenRule.{OpenRule}
use Rattle.sb_cover.specs.declared.open_rules.OpenQuestion.{OpenQuestion}
use Rattle.sb_cover.specs.declared.questions.Question.{Question}

-- before a parameter is read all rules may hold
unread_marks : (f g : ℕ → Bool) (rules : List OpenRule) → AreUnread rules → marks_by f rules ≡ marks_by g rules
unread_marks f g [] are = refl
unread_marks f g (rule ∷ rules) are = λ i. (ap (list_all f) are.0 ∙ sym (ap (list_all g) are.0)) i ∷ unread_marks f g rules are.1 i

-- the answer by the rules that are left
answer_is : (conds : List AskedCond) (tag : CallTag) (question : Question) (unread left : OpenQuestion) (label : List ℕ) (args : List Arg)
    → unread.depth ≡ question.depth → AreOpened conds tag question.rules question.is_cut question.rules unread.rules → AreUnread unread.rules
    → ((other : ℕ → Bool) → take unread.depth (places (marks_by (is_true []) unread.rules) other unread.rules) ≡ take unread.depth (places (marks_in label) other unread.rules))
    → left.depth ≡ unread.depth → (old : ℕ → ℕ) → ((f : ℕ → Bool) → map old (places (marks_by f left.rules) f left.rules) ≡ places (marks_in label) f unread.rules)
    → answer question tag args ≡ map (rule_at tag question.rules) (map old (take left.depth (places (marks_by (met_from conds 0 args) left.rules) (met_from conds 0 args) left.rules)))
answer_is conds tag question unread left label args depth opened are label_is left_depth old left_is =
    let f = met_from conds 0 args in
    let whole : map (rule_at tag question.rules) (places (marks_by f unread.rules) f unread.rules) ≡ filter (λ rule. rule_holds rule tag (args_asked question args)) question.rules =
    subst (λ l. map (rule_at tag question.rules) (places (marks_by (met_from l 0 args) unread.rules) (met_from l 0 args) unread.rules) ≡ filter (λ rule. rule_holds rule tag (args_asked question args)) question.rules)
    (append-nil conds) (opened [] args) in
    ap (take question.depth) (sym whole) ∙ ap (λ d. take d (map (rule_at tag question.rules) (places (marks_by f unread.rules) f unread.rules))) (sym depth)
    ∙ take-map (rule_at tag question.rules) unread.depth (places (marks_by f unread.rules) f unread.rules)
    ∙ ap (map (rule_at tag question.rules))
    (ap (λ m. take unread.depth (places m f unread.rules)) (unread_marks f (is_true []) unread.rules are) ∙ label_is f
    ∙ (λ i. take (sym left_depth i) (sym (left_is f) i)) ∙ take-map old left.depth (places (marks_by f left.rules) f left.rules))

answers_are : (conds : List AskedCond) (tag : CallTag) (questions : List Question) (unread left : List OpenQuestion) (label : List ℕ) (a b : List Arg)
    → AllOpened conds tag questions unread → AllUnread unread → IsLabel (is_true []) unread label → AreLeft unread label left
    → AnswerAlike (met_from conds 0 a) (met_from conds 0 b) left → HaveSameAnswers tag questions a b
answers_are conds tag [] unread left label a b opened are is is_left alike = tt
answers_are conds tag (q ∷ questions) [] left label a b opened are is is_left alike = absurd opened
answers_are conds tag (q ∷ questions) (u ∷ unread) [] label a b opened are is is_left alike = absurd is_left
answers_are conds tag (q ∷ questions) (u ∷ unread) (l ∷ left) label a b opened are is is_left alike = (
  answer_is conds tag q u l label a opened.0 opened.1 are.0 is.0 is_left.0 is_left.1.0 is_left.1.1 ∙ ap (λ l. map (rule_at tag q.rules) (map is_left.1.0 l)) alike.0
      ∙ sym (answer_is conds tag q u l label b opened.0 opened.1 are.0 is.0 is_left.0 is_left.1.0 is_left.1.1),
  answers_are conds tag questions unread left (drop (length u.rules) label) a b opened.2 are.1 is.1 is_left.2 alike.1,
)

pub calls_cover : (conds : List AskedCond) (tag : CallTag) (kinds : List ParamKind) (questions : List Question) (unread left : List OpenQuestion) (label : List ℕ) (calls : List (List Arg))
    → kinds ≡ shape_of tag → AllOpened conds tag questions unread → AllUnread unread → IsLabel (is_true []) unread label → AreLeft unread label left
    → AreCalls conds 0 kinds left calls → IsCover tag questions calls
calls_cover conds tag kinds questions unread left label calls shape opened are is is_left are_calls other small fitting =
    let c = are_calls other small (ap (λ k. fit k other) shape ∙ fitting) in
    record {
      call = c.call;
      is = c.is;
      fits = ap (λ k. fit k c.call) (sym shape) ∙ c.fits;
      same = answers_are conds tag questions unread left label c.call other opened are is is_left c.alike;
      short = c.short;
    }

nothing : (n : ℕ) → verdict_of_answer (take n []) ≡ verdict.NoRule
nothing zero = refl
nothing (suc n) = refl

pub answers_decide : AnswersDecide
answers_decide [] depth tag args = nothing (depth + 1)
answers_decide (rule ∷ rules) depth tag args = by (rule_holds rule tag args) (answers_decide rules depth tag args)
  where
    by : (b : Bool) → verdict_of_answer (take (depth + 1) (filter (λ rule. rule_holds rule tag args) rules)) ≡ verdict_by rules tag args
        → verdict_of_answer (take (depth + 1) (cond b (rule ∷ filter (λ rule. rule_holds rule tag args) rules) (filter (λ rule. rule_holds rule tag args) rules)))
        ≡ cond b (verdict_by_rule rule) (verdict_by rules tag args)
    by true rest = first depth
      where
        first : (depth : ℕ) → verdict_of_answer (take (depth + 1) (rule ∷ filter (λ rule. rule_holds rule tag args) rules)) ≡ verdict_by_rule rule
        first depth = let e : depth + 1 ≡ suc depth = omega arith in ap (λ d. verdict_of_answer (take d (rule ∷ filter (λ rule. rule_holds rule tag args) rules))) e
    by false rest = rest
