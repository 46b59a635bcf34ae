-- How two policies answer a call.
use Rattle.std.specs.Prelude.{◌≡◌, ◌&&◌, ◌||◌, ◌==◌, Bool, true, false, not, List}
use Rattle.sb_call.specs.Arguments.{fits}
use Rattle.sb_call.specs.declared.arguments.Arg.{Arg}
use Rattle.sb_call.specs.declared.tags.CallTag.{CallTag}
use Rattle.sb_cover.specs.CallAccesses.{writes}
use Rattle.sb_book.specs.Decisions.{read_only_args}
use Rattle.sb_rule.specs.Actions.{action_number}
use Rattle.sb_rule.specs.Verdicts.{verdict_of}
use Rattle.sb_rule.specs.declared.actions.Action.{Action}
use Rattle.sb_rule.specs.declared.actions.Action.TheVariants.{Allow, Deny, Alarm, Fake, ReadOnly}
use Rattle.sb_rule.specs.declared.policies.Policy.{Policy}
use Rattle.sb_rule.specs.declared.verdicts.Verdict.{Verdict}
use Rattle.sb_rule.specs.declared.verdicts.Verdict.TheVariants as verdict
use Rattle.sb_rule.specs.WellMade.{is_well_made}
use Rattle.sb_compare.specs.declared.changes.Change.{Change}

-- the answer of a policy to a call: it is performed with the arguments granted, faked, denied, or denied with an alarm
pub data Answer : Type 0 where
  Performed : List Arg → Answer
  Faked : Answer
  Denied : Answer
  Alarmed : Answer

-- what an action does with a call
abbrev pub answer_by : Action → List Arg → Answer
answer_by Allow args = Performed args
answer_by ReadOnly args = Performed (read_only_args args)
answer_by Fake args = Faked
answer_by Deny args = Denied
answer_by Alarm args = Alarmed

-- what a verdict does with a call; without a rule it is denied
abbrev pub answer_to : Verdict → List Arg → Answer
answer_to (verdict.Rule line action) args = answer_by action args
answer_to verdict.NoRule args = Denied

-- the change of a call: its verdicts under both policies, and whether it does more than read
abbrev pub change_of : CallTag → Policy → Policy → List Arg → Change
change_of tag old new args = record { old = verdict_of old tag args; new = verdict_of new tag args; writes = writes tag args }

-- both verdicts of a change answer the call alike
abbrev pub AnswersAlike : Change → List Arg → Type 0
AnswersAlike change args = answer_to change.old args ≡ answer_to change.new args

-- an action that performs a call
abbrev pub grants : Action → Bool
grants Allow = true
grants ReadOnly = true
grants Deny = false
grants Alarm = false
grants Fake = false

-- two actions answer alike if they are the same, or both perform a call that does no more than read
abbrev pub are_alike : Bool → Action → Action → Bool
are_alike writes old new = (action_number old == action_number new) || (not writes && (grants old && grants new))

-- what a verdict does; without a rule a call is denied
abbrev pub action_of : Verdict → Action
action_of (verdict.Rule line action) = action
action_of verdict.NoRule = Deny

-- both verdicts of a change answer all its calls alike
abbrev pub is_answered_alike : Change → Bool
is_answered_alike change = are_alike change.writes (action_of change.old) (action_of change.new)

-- the change of a call tells whether both policies answer it alike
abbrev pub ChangesDecideAnswers : Type 0
ChangesDecideAnswers = (tag : CallTag) (old new : Policy) (args : List Arg) → is_well_made old ≡ true → is_well_made new ≡ true → fits tag args ≡ true
    → (is_answered_alike (change_of tag old new args) ≡ true → AnswersAlike (change_of tag old new args) args)
    × (AnswersAlike (change_of tag old new args) args → is_answered_alike (change_of tag old new args) ≡ true)

-- a verdict that performs a call
abbrev pub performs : Verdict → Bool
performs verdict = grants (action_of verdict)

-- a verdict that cuts the access
abbrev pub cuts : Verdict → Bool
cuts verdict = action_number (action_of verdict) == action_number ReadOnly

-- one verdict performs more than another: it performs and that does not, or that cuts the access and it does not
abbrev pub performs_more : Verdict → Verdict → Bool
performs_more old new = performs new && (not (performs old) || (cuts old && not (cuts new)))
