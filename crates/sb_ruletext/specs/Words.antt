-- The words of policy texts: actions and parameters by their names.
use Rattle.std.specs.Prelude.{ℕ, ◌+◌, ◌==◌, List, [], ◌∷◌, Option, None, Some, option_map, if◌then◌else◌}
use Rattle.sb_call.specs.CallWords.{is_word, named}
use Rattle.sb_call.specs.declared.tags.CallTag.{CallTag}
use Rattle.sb_rule.specs.Actions.{action_word}
use Rattle.sb_call.specs.Parameters.{parameter_words}
use Rattle.sb_rule.specs.declared.actions.Action.{Action}
use Rattle.sb_rule.specs.declared.actions.Action.TheVariants.{Allow, Deny, Alarm, Fake, ReadOnly}

-- the place of a word in a list of words, counted from 0
abbrev pub place_of : List (List ℕ) → List ℕ → Option ℕ
place_of [] word = None
place_of (name ∷ names) word = if is_word name word then Some 0 else option_map (λ n. n + 1) (place_of names word)

-- the actions of a version of policy texts: `readonly` is one from version 2 on
abbrev pub actions_of : ℕ → List Action
actions_of version = if version == 2 then Allow ∷ Deny ∷ Alarm ∷ Fake ∷ ReadOnly ∷ [] else Allow ∷ Deny ∷ Alarm ∷ Fake ∷ []

-- the action of a word, in a version of policy texts
abbrev pub action_of : ℕ → List ℕ → Option Action
action_of version word = named action_word (actions_of version) word

-- the number of a call's parameter, from 0, by its name
abbrev pub parameter_of : CallTag → List ℕ → Option ℕ
parameter_of tag word = place_of (parameter_words tag) word
