use Rattle.std.proofs.Common.{◌≡◌, ◌∷◌, [], true, drop}
use Rattle.std.specs.List.{list_all}
use Rattle.sb_cover.specs.Choices.{is_shown_arg}
use Rattle.sb_rule.specs.WellMade.{is_well_made}
use Rattle.sb_rule.specs.declared.policies.Policy.{Policy}
use Rattle.sb_compare.specs.ShownCalls.{AreShortest}
use Rattle.sb_compare.proofs.Walks.{ArePutSoFar}
use Rattle.sb_compare.proofs.shown_changes.put_changes.Given as goal

abbrev pub invariant-loop-change : goal.invariant-loop-change
invariant-loop-change l = (old new : Policy) → new.name ≡ l.name → is_well_made old ≡ true → is_well_made new ≡ true
    → AreShortest l.tag (old ∷ new ∷ []) l.calls.classes.keys l.calls.calls.items → list_all (list_all is_shown_arg) l.calls.calls.items ≡ true
    → ArePutSoFar l.tag old new l.changes (drop l.change-index l.changes) l.fn.shown l.shown
