-- What each entry of a legal history says: of the copy that was taken, of the policy of its target, and of the namespace before and after it.
use Rattle.std.specs.Prelude.{◌≡◌, ℕ, ◌+◌, List, [], take, None, Some, slice_get, ⊤}
use Rattle.sb_call.specs.declared.arguments.Arg.{Arg}
use Rattle.sb_call.specs.Statuses.{success, invalid_parameter, access_denied}
use Rattle.sb_call.specs.declared.tags.CallTag.{CallTag}
use Rattle.sb_block.specs.Calls.{call_of}
use Rattle.sb_block.specs.Copies.{Copied, mark_of}
use Rattle.sb_block.specs.Faults.{fault}
use Rattle.sb_kernel.specs.Namespaces.{Space, perform}
use Rattle.sb_kernel.specs.Openings.{opening}
use Rattle.sb_rule.specs.Verdicts.{policy_at, verdict_of}
use Rattle.sb_rule.specs.declared.actions.Action.{Action}
use Rattle.sb_rule.specs.declared.actions.Action.TheVariants.{Allow, Deny, Alarm, Fake, ReadOnly}
use Rattle.sb_rule.specs.declared.policies.Policy.{Policy}
use Rattle.sb_rule.specs.declared.verdicts.Verdict.{Verdict}
use Rattle.sb_rule.specs.declared.verdicts.Verdict.TheVariants.{Rule, NoRule}
use Rattle.sb_book.specs.Histories.{Setting, IsLegalHistory, space_from}
use Rattle.sb_book.specs.Replies.{denied_outcome, faked_outcome, fault_words, performed_reply, refused_outcome}
use Rattle.sb_book.specs.Laws.{IsAllowed}
use Rattle.sb_book.specs.declared.decisions.Decision.{Decision}
use Rattle.sb_book.specs.declared.decisions.Decision.TheVariants.{Refused, Denied, Faked, Performed}
use Rattle.sb_book.specs.declared.entries.Entry.{Entry}

-- the verdict denies: no rule holds, or the rule that decides says deny or alarm
abbrev pub Denies : Verdict → Type 0
Denies NoRule = ⊤
Denies (Rule line Deny) = ⊤
Denies (Rule line Alarm) = ⊤
Denies (Rule line Allow) = ⊥
Denies (Rule line ReadOnly) = ⊥
Denies (Rule line Fake) = ⊥

-- the copy has no fault, the call is the copy's, and this is the policy's verdict on it
pub record IsJudged (policy : Policy) (copy : Copied) (tag : CallTag) (v : Verdict) : Type 0 where
  pub faultless : fault copy ≡ None
  pub call : (call_of copy).tag ≡ tag
  pub judged : verdict_of policy tag (call_of copy).args ≡ v

-- the copy has no fault, a rule of the policy allows the copy's call with exactly these arguments, performing exactly these led from the
-- namespace before to the one after, and the reply is the answer to that, under the copy's mark
pub record IsCarriedOut (policy : Policy) (e : Entry) (before after : Space) (tag : CallTag) (line : ℕ) (action : Action) (args : List Arg) : Type 0 where
  pub faultless : fault e.taken ≡ None
  pub allowed : IsAllowed policy (call_of e.taken) tag line action args
  pub space : after ≡ (perform before e.target tag args).space
  pub replied : e.reply ≡ performed_reply (mark_of e.taken) (perform before e.target tag args).answer

-- the whole reply to a call that was not performed: under the copy's mark, this outcome and status, no handle, and these extended words
abbrev pub IsReplied : Entry → ℕ → ℕ → List ℕ → Type 0
IsReplied e outcome status ext = e.reply ≡ record { mark = mark_of e.taken; outcome = outcome; status = status; handle = 0; ext = ext }

-- by the decision: a refused block has exactly that fault in the copy, and the reply tells it; a denied call was denied by that verdict; a faked call
-- by that rule; and these three leave the namespace as it was. A performed call was carried out as a rule allows
abbrev pub Says : Policy → Entry → Space → Space → Decision → Type 0
Says policy e before after (Refused f) = (fault e.taken ≡ Some f) × (after ≡ before) × IsReplied e refused_outcome invalid_parameter (fault_words f)
Says policy e before after (Denied tag v) = IsJudged policy e.taken tag v × Denies v × (after ≡ before) × IsReplied e denied_outcome access_denied []
Says policy e before after (Faked tag line) = IsJudged policy e.taken tag (Rule line Fake) × (after ≡ before) × IsReplied e faked_outcome success []
Says policy e before after (Performed tag line action args) = IsCarriedOut policy e before after tag line action args

-- the namespace after the first n of these entries
abbrev pub space_at : Setting → List Entry → ℕ → Space
space_at s entries n = space_from (opening s.start) (take n entries)

-- what entry n of a legal history says, by its decision; and its reply bears the mark of the copy
abbrev pub EntriesSayWhatWasDone : Type 0
EntriesSayWhatWasDone = (s : Setting) (entries : List Entry) (n : ℕ) (e : Entry) → IsLegalHistory s entries → slice_get entries n ≡ Some e
    → Says (policy_at s.policies e.target) e (space_at s entries n) (space_at s entries (n + 1)) e.decision × (e.reply.mark ≡ mark_of e.taken)
