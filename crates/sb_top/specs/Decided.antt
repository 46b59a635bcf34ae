-- What was decided of a block that was taken, and what that did.
use Rattle.std.specs.Prelude.{◌≡◌, ◌⊎◌, ℕ, false, [], None, Some}
use Rattle.sb_block.specs.Calls.{call_of}
use Rattle.sb_block.specs.Faults.{fault}
use Rattle.sb_block.specs.declared.calls.Call.{Call}
use Rattle.sb_block.specs.declared.faults.BlockFault.{BlockFault}
use Rattle.sb_book.specs.Headline.{IsReplied}
use Rattle.sb_book.specs.Replies.{denied_outcome, faked_outcome, fault_words, refused_outcome}
use Rattle.sb_book.specs.declared.entries.Entry.{Entry}
use Rattle.sb_call.specs.Statuses.{access_denied, invalid_parameter, success}
use Rattle.sb_call.specs.declared.tags.CallTag.{CallTag}
use Rattle.sb_kernel.specs.Namespaces.{Space}
use Rattle.sb_rule.specs.Verdicts.{IsFirstThatHolds, some_rule_holds}
use Rattle.sb_rule.specs.declared.actions.Action.{Action}
use Rattle.sb_rule.specs.declared.actions.Action.TheVariants.{Alarm, Deny, Fake}
use Rattle.sb_rule.specs.declared.policies.Policy.{Policy}
use Rattle.sb_rule.specs.declared.policies.Rule.{Rule}
use Rattle.sb_rule.specs.declared.verdicts.Verdict.{Verdict}
use Rattle.sb_rule.specs.declared.verdicts.Verdict.TheVariants as verdict

-- the first of the policy's rules that holds for the call is on this line and has this action
pub record IsDecidedBy (policy : Policy) (call : Call) (line : ℕ) (action : Action) : Type 0 where
  pub rule : Rule
  pub first : IsFirstThatHolds policy.rules call.tag call.args rule
  pub on_line : rule.line ≡ line
  pub by_action : rule.action ≡ action

-- why a call is denied: no rule of the policy holds for it; or the first that holds is on this line, and says deny or alarm
abbrev pub IsDeniedFor : Policy → Call → Verdict → Type 0
IsDeniedFor policy call verdict.NoRule = some_rule_holds policy.rules call.tag call.args ≡ false
IsDeniedFor policy call (verdict.Rule line action) = IsDecidedBy policy call line action × ((action ≡ Deny) ⊎ (action ≡ Alarm))

-- A call was denied: the copy has no fault, its call has this tag, the policy denies that call for this reason, the namespace stays as it was, and the reply
-- says that access is denied
pub record IsDenied (policy : Policy) (e : Entry) (before after : Space) (tag : CallTag) (reason : Verdict) : Type 0 where
  pub faultless : fault e.taken ≡ None
  pub call : (call_of e.taken).tag ≡ tag
  pub because : IsDeniedFor policy (call_of e.taken) reason
  pub unchanged : after ≡ before
  pub replied : IsReplied e denied_outcome access_denied []

-- A call was faked: the copy has no fault, its call has this tag, the first of the policy's rules that holds for it is on this line and says fake, the namespace
-- stays as it was, and the reply says success
pub record IsFaked (policy : Policy) (e : Entry) (before after : Space) (tag : CallTag) (line : ℕ) : Type 0 where
  pub faultless : fault e.taken ≡ None
  pub call : (call_of e.taken).tag ≡ tag
  pub because : IsDecidedBy policy (call_of e.taken) line Fake
  pub unchanged : after ≡ before
  pub replied : IsReplied e faked_outcome success []

-- A block was refused: this is the fault of the copy, the first of ten; the namespace stays as it was, and the reply tells the fault
pub record IsBlockRefused (e : Entry) (before after : Space) (found : BlockFault) : Type 0 where
  pub in_copy : fault e.taken ≡ Some found
  pub unchanged : after ≡ before
  pub replied : IsReplied e refused_outcome invalid_parameter (fault_words found)
