-- Which changes calls of a tag can have.
use Rattle.std.specs.Prelude.{true, false, List, [], ◌∷◌, ◌++◌, map}
use Rattle.std.specs.List.{filter, flat_map}
use Rattle.sb_call.specs.declared.tags.CallTag.{CallTag}
use Rattle.sb_rule.specs.Verdicts.{is_for, verdict_by_rule}
use Rattle.sb_rule.specs.declared.policies.Policy.{Policy}
use Rattle.sb_rule.specs.declared.policies.Rule.{Rule}
use Rattle.sb_rule.specs.declared.verdicts.Verdict.{Verdict}
use Rattle.sb_rule.specs.declared.verdicts.Verdict.TheVariants as verdict
use Rattle.sb_compare.specs.declared.changes.Change.{Change}

-- the verdicts that calls of a tag can have: those of the rules for it, in order, and then no rule
abbrev pub verdicts : CallTag → List Rule → List Verdict
verdicts tag rules = map verdict_by_rule (filter (is_for tag) rules) ++ verdict.NoRule ∷ []

-- two verdicts, first of calls that do no more than read and then of the others
abbrev pub both_of : Verdict → Verdict → List Change
both_of old new = (record { old = old; new = new; writes = false }) ∷ (record { old = old; new = new; writes = true }) ∷ []

-- one old verdict with each new one
abbrev pub changes_from : List Verdict → Verdict → List Change
changes_from news old = flat_map (both_of old) news

-- each old verdict with each new one, in the order of the old one and then of the new one
abbrev pub candidates : CallTag → Policy → Policy → List Change
candidates tag old new = flat_map (changes_from (verdicts tag new.rules)) (verdicts tag old.rules)
