-- Laws of histories.
use Rattle.std.specs.Prelude.{◌≡◌, ℕ, ◌<◌, Bool, true, false, List, ◌++◌, length, slice_index}
use Rattle.std.specs.List.{filter}
use Rattle.sb_call.specs.declared.arguments.Arg.{Arg}
use Rattle.sb_call.specs.declared.tags.CallTag.{CallTag}
use Rattle.sb_block.specs.Calls.{call_of}
use Rattle.sb_block.specs.Copies.{Copied, is_copy}
use Rattle.sb_block.specs.declared.calls.Call.{Call}
use Rattle.sb_rule.specs.Verdicts.{IsFirstThatHolds, policy_at}
use Rattle.sb_rule.specs.declared.actions.Action.{Action}
use Rattle.sb_rule.specs.declared.actions.Action.TheVariants.{Allow, Deny, Alarm, Fake, ReadOnly}
use Rattle.sb_rule.specs.declared.policies.Policy.{Policy}
use Rattle.sb_rule.specs.declared.policies.Rule.{Rule}
use Rattle.sb_kernel.specs.Namespaces.{Space}
use Rattle.sb_book.specs.Decisions.{decision_of, read_only_args}
use Rattle.sb_book.specs.Histories.{History, IsHistory, Setting, IsLegalHistory, answered, space_from}
use Rattle.sb_book.specs.declared.decisions.Decision.{Decision}
use Rattle.sb_book.specs.declared.decisions.Decision.TheVariants.{Performed}
use Rattle.sb_book.specs.declared.entries.Entry.{Entry}

-- every front of a legal history is one
abbrev pub FrontsAreLegal : Type 0
FrontsAreLegal = (s : Setting) (front rest : List Entry) → IsLegalHistory s (front ++ rest) → IsLegalHistory s front

-- the call was performed
abbrev pub is_performed : Entry → Bool
is_performed e = elim e.decision [
  | Performed tag line action args ↦ true
  | _ ↦ false
]

-- the namespace after entries is that after those alone whose calls were performed
abbrev pub OnlyPerformedCallsCount : Type 0
OnlyPerformedCallsCount = (ns : Space) (entries : List Entry) → space_from ns (filter is_performed entries) ≡ space_from ns entries

-- the arguments that an action grants of those in the copy: allow all, and readonly with the access cut to the bits that read
abbrev pub Grants : Action → List Arg → List Arg → Type 0
Grants Allow asked given = given ≡ asked
Grants ReadOnly asked given = given ≡ read_only_args asked
Grants Deny asked given = ⊥
Grants Alarm asked given = ⊥
Grants Fake asked given = ⊥

-- a performed call is the call that was asked; one of the policy's rules is the first that holds for it, line and action are that rule's
-- own, and the arguments are those that the action grants of those asked
pub record IsAllowed (policy : Policy) (asked : Call) (tag : CallTag) (line : ℕ) (action : Action) (args : List Arg) : Type 0 where
  pub call : asked.tag ≡ tag
  pub rule : Rule
  pub first : IsFirstThatHolds policy.rules tag asked.args rule
  pub on_line : rule.line ≡ line
  pub by_action : rule.action ≡ action
  pub given : Grants action asked.args args

-- each call that is performed has a rule of the policy
abbrev pub PerformedCallsAreAllowed : Type 0
PerformedCallsAreAllowed = (policy : Policy) (copy : Copied) (tag : CallTag) (line : ℕ) (action : Action) (args : List Arg)
    → decision_of policy copy ≡ Performed tag line action args → IsAllowed policy (call_of copy) tag line action args

-- an answer to a copy, decided by the policy of its target, leaves a history
abbrev pub AnswersKeepHistories : Type 0
AnswersKeepHistories = (h : History) (target channel : ℕ) (taken : Copied) (decision : Decision) → target < length h.setting.policies
    → channel < slice_index h.setting.channels target → is_copy taken ≡ true → decision ≡ decision_of (policy_at h.setting.policies target) taken → IsHistory h
    → IsHistory (answered h target channel taken decision)
