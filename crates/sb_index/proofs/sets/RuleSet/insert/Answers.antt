use Rattle.std.proofs.Common.{◌∙◌, ◌||◌, ap, eqb, arith}
use Rattle.sb_index.specs.Sets.{has}
use Rattle.sb_index.proofs.SetLemmas.{inserted}
use Rattle.sb_index.proofs.sets.RuleSet.insert.Goals as goal

pub returns : goal.returns
returns c k =
    inserted c.self.inside.words c.args.number k (omega (arith, c.requires)) ∙ ap (λ w. has w k || eqb k c.args.number) c.self.view_is
