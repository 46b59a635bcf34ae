use Rattle.sb_index.proofs.TableLemmas.{rule_passes}
use Rattle.sb_index.specs.declared.questions.Question.TheVariants.{Without}
use Rattle.sb_index.proofs.buckets.needed_by.Goals as goal

pub loop-rule-preserved : goal.loop-rule-preserved
loop-rule-preserved c bucket within none =
    let more = c.with_rule-bits.ensures bucket none in
    rule_passes c.args.rules.now c.args.tag (Without c.args.param bucket) c.loop-rule.rule-index c.rule-item.result c.loop-rule-test.true c.rule-item.is
    (c.loop-rule.invariant bucket within more.0) more.1
