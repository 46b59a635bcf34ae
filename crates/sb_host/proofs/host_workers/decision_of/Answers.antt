use Rattle.sb_rule.specs.Verdicts.{policy_at}
use Rattle.sb_host.proofs.Fitting.{if_decided}
use Rattle.sb_host.proofs.host_workers.decision_of.Goals as goal

pub returns-clause-fits : goal.returns-clause-fits
returns-clause-fits c =
    if_decided c.faultless_copies_fit.ensures (policy_at c.args.set.now.policies c.args.policy) c.args.copy.now c.decide.result c.decide.ensures.exact
