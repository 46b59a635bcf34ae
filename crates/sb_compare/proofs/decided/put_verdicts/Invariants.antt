use Rattle.std.specs.List.{list_all}
use Rattle.std.proofs.Common.{◌≡◌, ◌∷◌, [], true, drop}
use Rattle.sb_cover.specs.Choices.{is_shown_arg}
use Rattle.sb_rule.specs.declared.policies.Policy.{Policy}
use Rattle.sb_compare.specs.ShownCalls.{AreShortest}
use Rattle.sb_compare.proofs.Walks.{AreDecidedSoFar}
use Rattle.sb_compare.proofs.decided.put_verdicts.Given as goal

abbrev pub invariant-loop-verdict : goal.invariant-loop-verdict
invariant-loop-verdict l = (policy : Policy) → AreShortest l.tag (policy ∷ []) l.calls.classes.keys l.calls.calls.items → list_all (list_all is_shown_arg) l.calls.calls.items ≡ true
    → AreDecidedSoFar l.tag policy l.verdicts (drop l.verdict-index l.verdicts) l.fn.list l.list
