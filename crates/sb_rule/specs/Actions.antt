-- What rules do.
use Rattle.std.specs.Prelude.{ℕ, List, codes}
use Rattle.sb_rule.specs.declared.actions.Action.{Action}
use Rattle.sb_rule.specs.declared.actions.Action.TheVariants.{Allow, Deny, Alarm, Fake, ReadOnly}

-- the number of an action
abbrev pub action_number : Action → ℕ
action_number Allow = 0
action_number Deny = 1
action_number Alarm = 2
action_number Fake = 3
action_number ReadOnly = 4

-- the word of an action
abbrev pub action_word : Action → List ℕ
action_word Allow = codes "allow"
action_word Deny = codes "deny"
action_word Alarm = codes "alarm"
action_word Fake = codes "fake"
action_word ReadOnly = codes "readonly"
