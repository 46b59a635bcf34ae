use Rattle.std.proofs.Common.{subst, sym}
use Rattle.sb_core.proofs.Names.{AreInRule, IsOwnSoFar}
use Rattle.sb_core.proofs.rules.worlds_of_scripts_keep_rule.Goals as goal

pub returns-clause-rule : goal.returns-clause-rule
returns-clause-rule c =
    λ script w o. subst (λ v. AreInRule script v) (sym o.reached) (c.rule_holds.ensures.steps o.policies script o.actors o.ready o.there)

pub returns-clause-replies : goal.returns-clause-replies
returns-clause-replies c =
    λ script w o t k l.
    subst (λ v. IsOwnSoFar script v t k) (sym o.reached) (c.replies_are_own.ensures.steps o.policies script o.actors o.ready o.there t k l)
