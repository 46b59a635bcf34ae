-- What reasons tell.
use Rattle.std.proofs.Common.{◌≡◌, ◌∙◌, Bool, true, false, cond, List, [], ◌∷◌, ◌++◌, ◌&&◌, Option, None, Some, map, refl, ap, sym}
use Rattle.std.proofs.lemmas.Bool.{false≢true, or_parts}
use Rattle.std.specs.List.{filter, list_all}
use Rattle.std.specs.Prelude.{is_none}
use Rattle.sb_book.specs.Decisions.{by_decoded, by_verdict}
use Rattle.sb_call.specs.declared.arguments.Arg.{Arg}
use Rattle.sb_call.specs.declared.tags.CallTag.{CallTag}
use Rattle.sb_explain.specs.Laws.{AreRight, DecidingReasonIsLast, IsFirstFailing, IsRight, ReasonsAreComplete, ReasonsAreRight, ReasonsDecide, ReasonsDecideEntries, rule_in, verdict_told}
use Rattle.sb_explain.specs.Reasons.{Reason, Holds, Fails, first_failing, followed, reason_by, reason_of, reasons}
use Rattle.sb_rule.specs.Verdicts.{cond_holds, is_for, policy_at, rule_holds, some_rule_holds, verdict_by, verdict_by_rule}
use Rattle.sb_rule.specs.declared.conditions.Cond.{Cond}
use Rattle.sb_rule.specs.declared.policies.Rule.{Rule}
use Rattle.sb_rule.specs.declared.verdicts.Verdict.{Verdict}

-- conditions without one that fails hold, and else this is the first that does not
abbrev Tested : List Cond → List Arg → Option Cond → Type 0
Tested conds args None = list_all (λ c. cond_holds c args) conds ≡ true
Tested conds args (Some c) = IsFirstFailing conds args c

-- with one more in front, which holds
tested_more : (c : Cond) (conds : List Cond) (args : List Arg) (r : Option Cond) → cond_holds c args ≡ true → Tested conds args r → Tested (c ∷ conds) args r
tested_more c conds args None h t = λ i. h i && t i
tested_more c conds args (Some d) h t = record {
  before = c ∷ t.before;
  after = t.after;
  parts = ap (λ l. c ∷ l) t.parts;
  before_hold = λ i. h i && t.before_hold i;
  fails = t.fails;
}

tested_step : (c : Cond) (conds : List Cond) (args : List Arg) (b : Bool) → cond_holds c args ≡ b → Tested conds args (first_failing conds args)
    → Tested (c ∷ conds) args (cond b (first_failing conds args) (Some c))
tested_step c conds args true h t = tested_more c conds args (first_failing conds args) h t
tested_step c conds args false h t = record { before = []; after = conds; parts = refl; before_hold = refl; fails = h }

tested : (conds : List Cond) (args : List Arg) → Tested conds args (first_failing conds args)
tested [] args = refl
tested (c ∷ conds) args = tested_step c conds args (cond_holds c args) refl (tested conds args)

right_by : (rule : Rule) (tag : CallTag) (args : List Arg) (r : Option Cond) → is_for tag rule ≡ true → Tested rule.conds args r → IsRight tag args (reason_by rule r)
right_by rule tag args None f t = λ i. f i && t i
right_by rule tag args (Some c) f t = (f, t)

followed_right : (tag : CallTag) (args : List Arg) (r : Reason) (later : List Reason) → IsRight tag args r → AreRight tag args later → AreRight tag args (followed r later)
followed_right tag args (Holds rule) later h l = (h, tt)
followed_right tag args (Fails rule c) later h l = (h, l)

right_step : (rule : Rule) (rules : List Rule) (tag : CallTag) (args : List Arg) (b : Bool) → is_for tag rule ≡ b → AreRight tag args (reasons rules tag args)
    → AreRight tag args (cond b (followed (reason_of rule args) (reasons rules tag args)) (reasons rules tag args))
right_step rule rules tag args true h l =
    followed_right tag args (reason_of rule args) (reasons rules tag args) (right_by rule tag args (first_failing rule.conds args) h (tested rule.conds args)) l
right_step rule rules tag args false h l = l

pub reasons_are_right : ReasonsAreRight
reasons_are_right [] tag args = tt
reasons_are_right (rule ∷ rules) tag args = right_step rule rules tag args (is_for tag rule) refl (reasons_are_right rules tag args)

-- all conditions hold exactly if none fails
all_step : (c : Cond) (r : Option Cond) (b s : Bool) → s ≡ is_none r → (b && s) ≡ is_none (cond b r (Some c))
all_step c r true s e = e
all_step c r false s e = refl

all_hold : (conds : List Cond) (args : List Arg) → list_all (λ c. cond_holds c args) conds ≡ is_none (first_failing conds args)
all_hold [] args = refl
all_hold (c ∷ conds) args =
    all_step c (first_failing conds args) (cond_holds c args) (list_all (λ c. cond_holds c args) conds) (all_hold conds args)

told_step : (rule : Rule) (b : Bool) (r : Option Cond) (later : List Reason) (v : Verdict) → verdict_told later ≡ v
    → verdict_told (cond b (followed (reason_by rule r) later) later) ≡ cond (b && is_none r) (verdict_by_rule rule) v
told_step rule true None later v e = refl
told_step rule true (Some c) later v e = e
told_step rule false r later v e = e

pub reasons_decide : ReasonsDecide
reasons_decide [] tag args = refl
reasons_decide (rule ∷ rules) tag args =
    told_step rule (is_for tag rule) (first_failing rule.conds args) (reasons rules tag args) (verdict_by rules tag args) (reasons_decide rules tag args)
    ∙ ap (λ b. cond (is_for tag rule && b) (verdict_by_rule rule) (verdict_by rules tag args)) (sym (all_hold rule.conds args))

-- no reason comes after the rule that decides
abbrev is_empty : List Reason → Bool
is_empty [] = true
is_empty (r ∷ rs) = false

abbrev ends_there : List Reason → Bool
ends_there [] = true
ends_there (Holds rule ∷ more) = is_empty more
ends_there (Fails rule c ∷ more) = ends_there more

ends_step : (rule : Rule) (b : Bool) (r : Option Cond) (later : List Reason) → ends_there later ≡ true
    → ends_there (cond b (followed (reason_by rule r) later) later) ≡ true
ends_step rule true None later e = refl
ends_step rule true (Some c) later e = e
ends_step rule false r later e = e

ends : (rules : List Rule) (tag : CallTag) (args : List Arg) → ends_there (reasons rules tag args) ≡ true
ends [] tag args = refl
ends (rule ∷ rules) tag args = ends_step rule (is_for tag rule) (first_failing rule.conds args) (reasons rules tag args) (ends rules tag args)

none_after : (after : List Reason) → is_empty after ≡ true → after ≡ []
none_after [] e = refl
none_after (r ∷ rs) e = absurd (false≢true e)

not_empty : (before after : List Reason) (r : Reason) → is_empty (before ++ r ∷ after) ≡ false
not_empty [] after r = refl
not_empty (x ∷ before) after r = refl

last_there : (before after : List Reason) (rule : Rule) → ends_there (before ++ Holds rule ∷ after) ≡ true → after ≡ []
last_there [] after rule e = none_after after e
last_there (Holds r ∷ before) after rule e = absurd (false≢true (sym (not_empty before after (Holds rule)) ∙ e))
last_there (Fails r c ∷ before) after rule e = last_there before after rule e

pub deciding_reason_is_last : DecidingReasonIsLast
deciding_reason_is_last rules tag args before after rule e = last_there before after rule (ap ends_there (sym e) ∙ ends rules tag args)

rules_step : (rule : Rule) (b : Bool) (r : Option Cond) (later : List Reason) (rest : List Rule) → (b && is_none r) ≡ false → map rule_in later ≡ rest
    → map rule_in (cond b (followed (reason_by rule r) later) later) ≡ cond b (rule ∷ rest) rest
rules_step rule true None later rest h e = absurd (false≢true (sym h))
rules_step rule true (Some c) later rest h e = ap (λ l. rule ∷ l) e
rules_step rule false r later rest h e = e

parts_step : (rule : Rule) (b : Bool) (r : Option Cond) (whole later rest : List Reason) → (b && is_none r) ≡ false → whole ≡ later ++ rest
    → cond b (followed (reason_by rule r) whole) whole ≡ cond b (followed (reason_by rule r) later) later ++ rest
parts_step rule true None whole later rest h e = absurd (false≢true (sym h))
parts_step rule true (Some c) whole later rest h e = ap (λ l. Fails rule c ∷ l) e
parts_step rule false r whole later rest h e = e

fails_there : (rule : Rule) (tag : CallTag) (args : List Arg) → rule_holds rule tag args ≡ false → (is_for tag rule && is_none (first_failing rule.conds args)) ≡ false
fails_there rule tag args h = ap (λ b. is_for tag rule && b) (sym (all_hold rule.conds args)) ∙ h

rules_told : (before : List Rule) (tag : CallTag) (args : List Arg) → some_rule_holds before tag args ≡ false
    → map rule_in (reasons before tag args) ≡ filter (is_for tag) before
rules_told [] tag args none = refl
rules_told (rule ∷ before) tag args none =
    let p = or_parts (rule_holds rule tag args) (some_rule_holds before tag args) none in
    rules_step rule (is_for tag rule) (first_failing rule.conds args) (reasons before tag args) (filter (is_for tag) before)
    (fails_there rule tag args p.0) (rules_told before tag args p.1)

told_after : (before after : List Rule) (tag : CallTag) (args : List Arg) → some_rule_holds before tag args ≡ false
    → reasons (before ++ after) tag args ≡ reasons before tag args ++ reasons after tag args
told_after [] after tag args none = refl
told_after (rule ∷ before) after tag args none =
    let p = or_parts (rule_holds rule tag args) (some_rule_holds before tag args) none in
    parts_step rule (is_for tag rule) (first_failing rule.conds args) (reasons (before ++ after) tag args) (reasons before tag args) (reasons after tag args)
    (fails_there rule tag args p.0) (told_after before after tag args p.1)

pub reasons_are_complete : ReasonsAreComplete
reasons_are_complete before after tag args none = (rules_told before tag args none, told_after before after tag args none)

pub reasons_decide_entries : ReasonsDecideEntries
reasons_decide_entries s ns e call entry d =
    let policy = policy_at s.policies e.target in
    entry.decided ∙ ap (by_decoded policy) d ∙ ap (by_verdict call.tag call.args) (sym (reasons_decide policy.rules call.tag call.args))
