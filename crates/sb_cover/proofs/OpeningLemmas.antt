-- Questions are opened.
use Rattle.std.specs.Prelude.{bit_and}
use Rattle.std.specs.Prelude.{nat_eq}
use Rattle.std.specs.Cmp.Lexicographic.{pointwise, bytes_decides}
use Rattle.std.specs.Int.Bits.{and_zero_l}
use Rattle.std.specs.List.{filter, list_all}
use Rattle.std.proofs.Common.{◌≡◌, ◌⊎◌, inl, inr, ◌∙◌, ◌≤◌, ◌<◌, ◌+◌, ◌-◌, ℕ, zero, suc, Bool, true, false, cond, not, List, [], ◌∷◌, ◌++◌, ◌&&◌, eqb, length, map, take, drop, get_or, refl, ap, sym, subst, arith, append_assoc, append-nil, length-append}
use Rattle.std.proofs.lemmas.Bool.Decides.{nat_tests}
use Rattle.std.proofs.lemmas.List.{get_or_append_left, get_or_push, get_or_read, map-append, take_more}
use Rattle.std.proofs.lemmas.List.Elements.{filter_more}
use Rattle.std.proofs.lemmas.List.Folds.{list_all-append, list_all_more}
use Rattle.sb_call.specs.Arguments.{arg_at}
use Rattle.sb_call.specs.declared.arguments.Arg.{Arg}
use Rattle.sb_call.specs.declared.arguments.Arg.TheVariants as arg
use Rattle.sb_call.specs.declared.tags.CallTag.{CallTag}
use Rattle.sb_rule.specs.Cells.{same_cells, cells_decide}
use Rattle.sb_rule.specs.declared.cells.Cell.{Cell}
use Rattle.sb_rule.specs.Accesses.{read_only_bits}
use Rattle.sb_rule.specs.Verdicts.{cond_holds, is_for, rule_holds, test_holds}
use Rattle.sb_rule.specs.declared.conditions.Cond.{Cond}
use Rattle.sb_rule.specs.declared.policies.Rule.{Rule}
use Rattle.sb_cover.specs.AskedConds.{by_negation, cond_at, is_met, no_cond, seen, seen_number}
use Rattle.sb_cover.specs.Calls.{met_from}
use Rattle.sb_book.specs.Decisions.{read_only_args}
use Rattle.sb_cover.specs.Opening.{AreMore, asked_of, rule_at, AreOpened, AllOpened, AreUnread, AllUnread, IsRulePut}
use Rattle.sb_cover.specs.Pruning.{places, marks_by}
use Rattle.sb_cover.specs.declared.asked_conds.AskedCond.{AskedCond}
use Rattle.sb_cover.specs.declared.open_rules.OpenRule.{OpenRule}
use Rattle.sb_cover.specs.declared.open_rules.OpenQuestion.{OpenQuestion}
use Rattle.sb_cover.specs.declared.questions.Question.{Question}
use Rattle.sb_cover.proofs.ResidualLemmas.{places_append}

pub more_none : (conds : List AskedCond) → AreMore conds conds
more_none conds = ([], sym (append-nil conds))

pub more_more : (a b c : List AskedCond) → AreMore a b → AreMore b c → AreMore a c
more_more a b c h k = (h.0 ++ k.0, k.1 ∙ ap (λ l. l ++ k.0) h.1 ∙ append_assoc a h.0 k.0)

pub more_one : (conds new : List AskedCond) (c : AskedCond) → new ≡ conds ++ c ∷ [] → AreMore conds new
more_one conds new c e = (c ∷ [], e)

-- what holds for all further conditions holds for those that are put
later_list : (a b more : List AskedCond) → (h : AreMore a b) → b ++ more ≡ a ++ (h.0 ++ more)
later_list a b more h = ap (λ l. l ++ more) h.1 ∙ append_assoc a h.0 more

zero_cut : (p : ℕ) → arg.Num 0 ≡ arg.Num (seen_number true p 0)
zero_cut p = ap arg.Num (by (eqb p 1))
  where
    by : (b : Bool) → 0 ≡ cond b (bit_and 0 read_only_bits) 0
    by true = sym (and_zero_l read_only_bits)
    by false = refl

plain_seen : (p : ℕ) (a : Arg) → seen false p a ≡ a
plain_seen p (arg.Num n) = refl
plain_seen p (arg.Str u) = refl

-- past the first two arguments nothing is cut
past_seen : (p : ℕ) (a : Arg) → a ≡ seen true (suc (suc p)) a
past_seen p (arg.Num n) = ap (λ b. arg.Num (cond b (bit_and n read_only_bits) n)) (sym (past p))
  where
    past : (p : ℕ) → eqb (suc (suc p)) 1 ≡ false
    past p = grind (arith, nat_tests)
past_seen p (arg.Str u) = refl

first_seen : (a : Arg) → a ≡ seen true 0 a
first_seen (arg.Num n) = refl
first_seen (arg.Str u) = refl

cut_seen : (args : List Arg) (p : ℕ) → arg_at (read_only_args args) p ≡ seen true p (arg_at args p)
cut_seen [] p = zero_cut p
cut_seen (first ∷ []) zero = first_seen first
cut_seen (first ∷ []) (suc p) = zero_cut (suc p)
cut_seen (first ∷ arg.Num access ∷ more) zero = first_seen first
cut_seen (first ∷ arg.Num access ∷ more) (suc zero) = refl
cut_seen (first ∷ arg.Num access ∷ more) (suc (suc p)) = past_seen p (arg_at more p)
cut_seen (first ∷ arg.Str units ∷ more) zero = first_seen first
cut_seen (first ∷ arg.Str units ∷ more) (suc zero) = refl
cut_seen (first ∷ arg.Str units ∷ more) (suc (suc p)) = past_seen p (arg_at more p)

asked_seen : (is_cut : Bool) (args : List Arg) (p : ℕ) → seen is_cut p (arg_at args p) ≡ arg_at (asked_of is_cut args) p
asked_seen true args p = sym (cut_seen args p)
asked_seen false args p = plain_seen p (arg_at args p)

-- a condition that has a number
pub met_found : (conds : List AskedCond) (c : Cond) (is_cut : Bool) (n : ℕ) → n < length conds → cond_at conds n ≡ record { cond = c; is_cut = is_cut }
    → (more : List AskedCond) (args : List Arg) → met_from (conds ++ more) 0 args n ≡ cond_holds c (asked_of is_cut args)
met_found conds c is_cut n low is more args =
    let there : cond_at (conds ++ more) n ≡ record { cond = c; is_cut = is_cut } = get_or_append_left conds more no_cond n low ∙ is in
    let place : c.param - 0 ≡ c.param = omega arith in
    ap (λ a. is_met a (arg_at args (a.cond.param - 0))) there
    ∙ ap (λ p. is_met (record { cond = c; is_cut = is_cut }) (arg_at args p)) place
    ∙ ap (λ v. by_negation c.negated (test_holds c.test v)) (asked_seen is_cut args c.param)

pub met_put : (conds new : List AskedCond) (c : Cond) (clone : Cond) (is_cut : Bool) (n : ℕ) → new ≡ conds ++ record { cond = clone; is_cut = is_cut } ∷ [] → clone ≡ c → n ≡ length conds
    → (more : List AskedCond) (args : List Arg) → met_from (new ++ more) 0 args n ≡ cond_holds c (asked_of is_cut args)
met_put conds new c clone is_cut n e same last =
    let low : n < length new = omega (arith, last, ap length e, length-append conds (record { cond = clone; is_cut = is_cut } ∷ [])) in
    met_found new c is_cut n low
    (ap (λ l. get_or l n no_cond) e ∙ get_or_push conds (record { cond = clone; is_cut = is_cut }) no_cond n (sym last) ∙ ap (λ x. record { cond = x; is_cut = is_cut }) same)

-- one condition more of a rule
pub numbers_one : (old new : List AskedCond) (rule_conds : List Cond) (is_cut : Bool) (numbers : List ℕ) (n i : ℕ) (d : Cond) → i < length rule_conds → AreMore old new
    → ((more : List AskedCond) (args : List Arg) → list_all (met_from (old ++ more) 0 args) numbers ≡ list_all (λ c. cond_holds c (asked_of is_cut args)) (take i rule_conds))
    → ((more : List AskedCond) (args : List Arg) → met_from (new ++ more) 0 args n ≡ cond_holds (get_or rule_conds i d) (asked_of is_cut args))
    → (more : List AskedCond) (args : List Arg) → list_all (met_from (new ++ more) 0 args) (numbers ++ n ∷ []) ≡ list_all (λ c. cond_holds c (asked_of is_cut args)) (take (i + 1) rule_conds)
numbers_one old new rule_conds is_cut numbers n i d low grown before here more args =
    list_all-append (met_from (new ++ more) 0 args) numbers (n ∷ [])
    ∙ (λ j. (ap (λ l. list_all (met_from l 0 args) numbers) (later_list old new more grown) ∙ before (grown.0 ++ more) args) j && (here more args j && true))
    ∙ and_true (list_all (λ c. cond_holds c (asked_of is_cut args)) (take i rule_conds)) (cond_holds (get_or rule_conds i d) (asked_of is_cut args))
    ∙ sym (list_all_more (λ c. cond_holds c (asked_of is_cut args)) rule_conds i d low)
  where
    and_true : (a b : Bool) → (a && (b && true)) ≡ (a && b)
    and_true true true = refl
    and_true true false = refl
    and_true false b = refl

-- rules that were opened before
pub opened_more : (old new : List AskedCond) (tag : CallTag) (all : List Rule) (is_cut : Bool) (rules : List Rule) (opened : List OpenRule) → AreMore old new
    → AreOpened old tag all is_cut rules opened → AreOpened new tag all is_cut rules opened
opened_more old new tag all is_cut rules opened grown before more args =
    ap (λ l. map (rule_at tag all) (places (marks_by (met_from l 0 args) opened) (met_from l 0 args) opened)) (later_list old new more grown) ∙ before (grown.0 ++ more) args

pub unread_push : (rules : List OpenRule) (rule : OpenRule) → AreUnread rules → rule.here ≡ [] → AreUnread (rules ++ rule ∷ [])
unread_push [] rule are is = (is, tt)
unread_push (r ∷ rules) rule are is = (are.0, unread_push rules rule are.1 is)

pub all_unread_push : (questions : List OpenQuestion) (question : OpenQuestion) → AllUnread questions → AreUnread question.rules → AllUnread (questions ++ question ∷ [])
all_unread_push [] question are is = (is, tt)
all_unread_push (q ∷ questions) question are is = (are.0, all_unread_push questions question are.1 is)

pub unread_put : (conds : List AskedCond) (tag : CallTag) (is_cut : Bool) (rule : Rule) (place : ℕ) (old new : List OpenRule) → IsRulePut conds tag is_cut rule place old new → AreUnread old → AreUnread new
unread_put conds tag is_cut rule place old new (inl p) are = subst AreUnread (sym p.1) are
unread_put conds tag is_cut rule place old new (inr p) are = subst AreUnread (sym p.2) (unread_push old p.1 are p.4)

-- one rule more
pub opened_one : (old_conds conds : List AskedCond) (tag : CallTag) (all : List Rule) (is_cut : Bool) (i : ℕ) (rule : Rule) (old new : List OpenRule) → i < length all → rule ≡ get_or all i rule
    → AreMore old_conds conds → IsRulePut conds tag is_cut rule i old new → AreOpened old_conds tag all is_cut (take i all) old → AreOpened conds tag all is_cut (take (i + 1) all) new
opened_one old_conds conds tag all is_cut i rule old new low is grown put before more args = by put
  where
    first : map (rule_at tag all) (places (marks_by (met_from (conds ++ more) 0 args) old) (met_from (conds ++ more) 0 args) old) ≡ filter (λ rule. rule_holds rule tag (asked_of is_cut args)) (take i all)
    first = opened_more old_conds conds tag all is_cut (take i all) old grown before more args

    one : filter (λ rule. rule_holds rule tag (asked_of is_cut args)) (take (i + 1) all) ≡ filter (λ rule. rule_holds rule tag (asked_of is_cut args)) (take i all) ++ cond ((is_for tag rule && list_all (λ c. cond_holds c (asked_of is_cut args)) rule.conds)) (rule ∷ []) []
    one = filter_more (λ rule. rule_holds rule tag (asked_of is_cut args)) all i rule low ∙ ap (λ r. filter (λ rule. rule_holds rule tag (asked_of is_cut args)) (take i all) ++ cond (rule_holds r tag (asked_of is_cut args)) (r ∷ []) []) (sym is)

    by : IsRulePut conds tag is_cut rule i old new → map (rule_at tag all) (places (marks_by (met_from (conds ++ more) 0 args) new) (met_from (conds ++ more) 0 args) new) ≡ filter (λ rule. rule_holds rule tag (asked_of is_cut args)) (take (i + 1) all)
    by (inl p) =
        ap (λ l. map (rule_at tag all) (places (marks_by (met_from (conds ++ more) 0 args) l) (met_from (conds ++ more) 0 args) l)) p.1 ∙ first ∙ sym (append-nil (filter (λ rule. rule_holds rule tag (asked_of is_cut args)) (take i all)))
        ∙ sym (one ∙ ap (λ b. filter (λ rule. rule_holds rule tag (asked_of is_cut args)) (take i all) ++ cond (b && list_all (λ c. cond_holds c (asked_of is_cut args)) rule.conds) (rule ∷ []) []) p.0)
    by (inr p) =
        ap (λ l. map (rule_at tag all) (places (marks_by (met_from (conds ++ more) 0 args) l) (met_from (conds ++ more) 0 args) l)) p.2
        ∙ ap (map (rule_at tag all)) (places_append (met_from (conds ++ more) 0 args) old (p.1 ∷ []))
        ∙ map-append (rule_at tag all) (places (marks_by (met_from (conds ++ more) 0 args) old) (met_from (conds ++ more) 0 args) old) (places (marks_by (met_from (conds ++ more) 0 args) (p.1 ∷ [])) (met_from (conds ++ more) 0 args) (p.1 ∷ []))
        ∙ (λ j. first j ++ single j)
        ∙ sym one
      where
        holds : (list_all (met_from (conds ++ more) 0 args) p.1.here && list_all (met_from (conds ++ more) 0 args) p.1.later) ≡ (is_for tag rule && list_all (λ c. cond_holds c (asked_of is_cut args)) rule.conds)
        holds =
            (λ j. list_all (met_from (conds ++ more) 0 args) (p.4 j) && p.5 more args j) ∙ sym (ap (λ b. b && list_all (λ c. cond_holds c (asked_of is_cut args)) rule.conds) p.0)

        there : rule_at tag all p.1.place ≡ rule
        there = ap (rule_at tag all) p.3 ∙ sym (get_or_read all i rule low is (rule_at tag [] 0))

        single : map (rule_at tag all) (places (marks_by (met_from (conds ++ more) 0 args) (p.1 ∷ [])) (met_from (conds ++ more) 0 args) (p.1 ∷ [])) ≡ cond ((is_for tag rule && list_all (λ c. cond_holds c (asked_of is_cut args)) rule.conds)) (rule ∷ []) []
        single = ap (λ b. map (rule_at tag all) (cond b (p.1.place ∷ []) [])) holds ∙ each ((is_for tag rule && list_all (λ c. cond_holds c (asked_of is_cut args)) rule.conds))
          where
            each : (b : Bool) → map (rule_at tag all) (cond b (p.1.place ∷ []) []) ≡ cond b (rule ∷ []) []
            each true = ap (λ r. r ∷ []) there
            each false = refl

-- one question more
pub questions_push : (old new : List AskedCond) (tag : CallTag) (questions : List Question) (opened : List OpenQuestion) (question : Question) (open_question : OpenQuestion) → AreMore old new
    → open_question.depth ≡ question.depth → AreOpened new tag question.rules question.is_cut question.rules open_question.rules → AllOpened old tag questions opened
    → AllOpened new tag (questions ++ question ∷ []) (opened ++ open_question ∷ [])
questions_push old new tag [] [] question open_question grown depth is are = (depth, is, tt)
questions_push old new tag [] (o ∷ opened) question open_question grown depth is are = absurd are
questions_push old new tag (q ∷ questions) [] question open_question grown depth is are = absurd are
questions_push old new tag (q ∷ questions) (o ∷ opened) question open_question grown depth is are =
    (are.0, opened_more old new tag q.rules q.is_cut q.rules o.rules grown are.1, questions_push old new tag questions opened question open_question grown depth is are.2)

pub equal_numbers : (a b : List ℕ) → pointwise nat_eq a b ≡ true → a ≡ b
equal_numbers a b e = (bytes_decides a b).0 e

pub equal_cells : (a b : List Cell) → same_cells a b ≡ true → a ≡ b
equal_cells a b e = (cells_decide a b).0 e

pub same_asked : (asked : AskedCond) (c : Cond) (is_cut : Bool) → asked.is_cut ≡ is_cut → asked.cond.param ≡ c.param → asked.cond.negated ≡ c.negated → asked.cond.test ≡ c.test
    → asked ≡ record { cond = c; is_cut = is_cut }
same_asked asked c is_cut cut param negated test = λ i. record { cond = record { param = param i; negated = negated i; test = test i }; is_cut = cut i }

pub found_at : (conds : List AskedCond) (i : ℕ) (asked : AskedCond) (c : Cond) (is_cut : Bool) → i < length conds → asked ≡ get_or conds i asked → asked ≡ record { cond = c; is_cut = is_cut }
    → cond_at conds i ≡ record { cond = c; is_cut = is_cut }
found_at conds i asked c is_cut low is same = sym (get_or_read conds i asked low is no_cond) ∙ same

-- a rule for the tag, and another
pub rule_not_put : (conds : List AskedCond) (tag : CallTag) (is_cut : Bool) (rule : Rule) (place : ℕ) (rules : List OpenRule) → is_for tag rule ≡ false → IsRulePut conds tag is_cut rule place rules rules
rule_not_put conds tag is_cut rule place rules no_tag = inl (no_tag, refl)

pub rule_put : (conds : List AskedCond) (tag : CallTag) (is_cut : Bool) (rule : Rule) (place : ℕ) (old new : List OpenRule) (here later : List ℕ) → is_for tag rule ≡ true
    → new ≡ old ++ record { place = place; here = here; later = later } ∷ [] → here ≡ []
    → ((more : List AskedCond) (args : List Arg) → list_all (met_from (conds ++ more) 0 args) later ≡ list_all (λ c. cond_holds c (asked_of is_cut args)) rule.conds)
    → IsRulePut conds tag is_cut rule place old new
rule_put conds tag is_cut rule place old new here later does put empty met = inr (does, record { place = place; here = here; later = later }, put, refl, empty, met)
