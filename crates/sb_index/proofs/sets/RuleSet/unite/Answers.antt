use Rattle.std.proofs.Common.{rules, ◌∙◌, ◌||◌, ap}
use Rattle.sb_index.specs.Sets.{has}
use Rattle.sb_index.proofs.SetLemmas.{united}
use Rattle.sb_index.proofs.sets.RuleSet.unite.Goals as goal

pub returns : goal.returns
returns c k =
    united c.self.inside.words c.other.inside.words k (search rules) (search rules)
    ∙ ap (λ w. has w k || has c.other.inside.words k) c.self.view_is ∙ ap (λ w. has c.args.self.now k || has w k) c.other.view_is
