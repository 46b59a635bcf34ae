-- Questions whose strings and patterns name nothing that a script cannot have.
use Rattle.std.specs.Prelude.{Bool, false}
use Rattle.std.specs.List.{list_all}
use Rattle.sb_cover.specs.AskedConds.{cells_of_test}
use Rattle.sb_cover.specs.Shown.{are_plain}
use Rattle.sb_cover.specs.declared.asked_conds.AskedCond.{AskedCond}
use Rattle.sb_cover.specs.declared.questions.Question.{Question}
use Rattle.sb_rule.specs.declared.conditions.Cond.{Cond}
use Rattle.sb_rule.specs.declared.policies.Rule.{Rule}

-- a script can have the literals of a condition
abbrev pub is_plain_cond : Cond → Bool
is_plain_cond cond = are_plain false (cells_of_test cond.test)

abbrev pub is_plain_asked : AskedCond → Bool
is_plain_asked asked = is_plain_cond asked.cond

-- and those of all conditions of a rule
abbrev pub is_plain_rule : Rule → Bool
is_plain_rule rule = list_all is_plain_cond rule.conds

-- and those of all rules of a question
abbrev pub is_plain_question : Question → Bool
is_plain_question question = list_all is_plain_rule question.rules
