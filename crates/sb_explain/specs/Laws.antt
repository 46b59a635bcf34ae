-- What is true of explained decisions.
use Rattle.std.specs.Prelude.{◌≡◌, ◌↔◌, ◌<◌, ℕ, true, false, List, [], ◌∷◌, ◌++◌, map, Some, Ok, ⊤}
use Rattle.std.specs.List.{filter, list_all}
use Rattle.sb_actor.specs.Places.{mark_at}
use Rattle.sb_block.specs.Calls.{decoded}
use Rattle.sb_block.specs.declared.calls.Call.{Call}
use Rattle.sb_book.specs.Decisions.{by_verdict}
use Rattle.sb_book.specs.Histories.{IsEntry, Setting}
use Rattle.sb_book.specs.declared.entries.Entry.{Entry}
use Rattle.sb_call.specs.declared.arguments.Arg.{Arg}
use Rattle.sb_call.specs.declared.tags.CallTag.{CallTag}
use Rattle.sb_explain.specs.Listings.{listed, most_lines, nothing_listed, text_of, with_lines}
use Rattle.sb_explain.specs.Marks.{call_of_mark, is_call_at}
use Rattle.sb_explain.specs.Reasons.{Reason, Holds, Fails, reasons}
use Rattle.sb_explain.specs.declared.marks.CallPlace.{CallPlace}
use Rattle.sb_kernel.specs.Namespaces.{Space}
use Rattle.sb_rule.specs.Verdicts.{cond_holds, is_for, policy_at, rule_holds, some_rule_holds, verdict_by, verdict_by_rule}
use Rattle.sb_rule.specs.declared.conditions.Cond.{Cond}
use Rattle.sb_rule.specs.declared.policies.Rule.{Rule}
use Rattle.sb_rule.specs.declared.verdicts.Verdict.{Verdict}
use Rattle.sb_rule.specs.declared.verdicts.Verdict.TheVariants.{NoRule}
use Rattle.sb_statements.specs.declared.scripts.Script.{Script}

-- of these conditions this one does not hold, and all before it hold
pub record IsFirstFailing (conds : List Cond) (args : List Arg) (cond : Cond) : Type 0 where
  pub before : List Cond
  pub after : List Cond
  pub parts : conds ≡ before ++ cond ∷ after
  pub before_hold : list_all (λ c. cond_holds c args) before ≡ true
  pub fails : cond_holds cond args ≡ false

-- a rule that is said to hold does, and one that is said to fail is for the call and has that condition as its first that does not hold
abbrev pub IsRight : CallTag → List Arg → Reason → Type 0
IsRight tag args (Holds rule) = rule_holds rule tag args ≡ true
IsRight tag args (Fails rule cond) = (is_for tag rule ≡ true) × IsFirstFailing rule.conds args cond

-- each of these reasons is right
abbrev pub AreRight : CallTag → List Arg → List Reason → Type 0
AreRight tag args [] = ⊤
AreRight tag args (reason ∷ reasons) = IsRight tag args reason × AreRight tag args reasons

abbrev pub ReasonsAreRight : Type 0
ReasonsAreRight = (rules : List Rule) (tag : CallTag) (args : List Arg) → AreRight tag args (reasons rules tag args)

-- the verdict that reasons tell: the rule that is said to hold decides
abbrev pub verdict_told : List Reason → Verdict
verdict_told [] = NoRule
verdict_told (Holds rule ∷ more) = verdict_by_rule rule
verdict_told (Fails rule cond ∷ more) = verdict_told more

-- the verdict that the reasons tell is the verdict of the rules
abbrev pub ReasonsDecide : Type 0
ReasonsDecide = (rules : List Rule) (tag : CallTag) (args : List Arg) → verdict_told (reasons rules tag args) ≡ verdict_by rules tag args

-- the rule of a reason
abbrev pub rule_in : Reason → Rule
rule_in (Holds rule) = rule
rule_in (Fails rule cond) = rule

-- no reason comes after that of the rule that decides
abbrev pub DecidingReasonIsLast : Type 0
DecidingReasonIsLast = (rules : List Rule) (tag : CallTag) (args : List Arg) (before after : List Reason) (rule : Rule)
    → reasons rules tag args ≡ before ++ Holds rule ∷ after → after ≡ []

-- of rules of which none holds each that is for the call has its reason; if others follow, theirs come next
abbrev pub ReasonsAreComplete : Type 0
ReasonsAreComplete = (before after : List Rule) (tag : CallTag) (args : List Arg) → some_rule_holds before tag args ≡ false
    → (map rule_in (reasons before tag args) ≡ filter (is_for tag) before)
    × (reasons (before ++ after) tag args ≡ reasons before tag args ++ reasons after tag args)

-- an entry whose copy has no fault is decided by the verdict that its reasons tell
abbrev pub ReasonsDecideEntries : Type 0
ReasonsDecideEntries = (s : Setting) (ns : Space) (e : Entry) (call : Call) → IsEntry s ns e → decoded e.taken ≡ Ok call
    → e.decision ≡ by_verdict call.tag call.args (verdict_told (reasons (policy_at s.policies e.target).rules call.tag call.args))

-- a call among the first 65,536 statements of a thread is the call of a mark exactly if it is its own
abbrev pub MarksAreOfCalls : Type 0
MarksAreOfCalls = (script : Script) (target mark : ℕ) (call : CallPlace) → call.place < 65536
    → (call_of_mark script target mark ≡ Some call) ↔ (is_call_at script target call ≡ true) × (mark_at call.thread call.place ≡ mark)

-- the text of what is listed is that of all lines, or of as many as a listing has and the last one
abbrev pub ListingsAreCapped : Type 0
ListingsAreCapped = (lines : List (List ℕ)) → text_of (with_lines most_lines nothing_listed lines) ≡ listed lines
