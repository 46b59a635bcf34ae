-- The policy of generated scripts, by its text.
use Rattle.std.specs.Prelude.{◌≡◌, ℕ, List, [], ◌∷◌, Ok, codes}
use Rattle.std.specs.List.{flat_map}
use Rattle.sb_rule.specs.declared.policies.Policy.{Policy}
use Rattle.sb_ruletext.specs.PolicyTexts.{reading}
use Rattle.sb_text.specs.LineLaws.{ended}

-- the lines of the text
abbrev pub policy_lines : List (List ℕ)
policy_lines =
    codes "sandbox-policy 1"
    ∷ codes "policy made"
    ∷ codes "grant files_any \"\\make\\*\""
    ∷ codes "deny event.create when name like \"*7\""
    ∷ codes "allow event.create"
    ∷ codes "fake event.open"
    ∷ codes "allow key.open when access in 0..1"
    ∷ codes "allow ping"
    ∷ []

-- the text: the lines, each with LF at its end
abbrev pub policy_text : List ℕ
policy_text = flat_map ended policy_lines

-- these policies are those of the text
abbrev pub AreMade : List Policy → Type 0
AreMade policies = reading policy_text ≡ Ok policies
