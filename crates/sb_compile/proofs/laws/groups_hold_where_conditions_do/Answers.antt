use Rattle.sb_compile.proofs.Conditions.{cond_means}
use Rattle.sb_compile.proofs.Runs.{pattern_holds}
use Rattle.sb_compile.proofs.laws.groups_hold_where_conditions_do.Goals as goal

pub returns-clause-pattern : goal.returns-clause-pattern
returns-clause-pattern c = pattern_holds

pub returns-clause-condition : goal.returns-clause-condition
returns-clause-condition c = λ tag cond args w f. cond_means c.fitting_args.ensures.kinds tag args cond f w
