use Rattle.sb_index.specs.Questions.{may_pass}
use Rattle.sb_index.specs.declared.questions.Question.TheVariants.{Without}
use Rattle.sb_index.proofs.BucketLemmas.{rule_needed}
use Rattle.sb_index.proofs.buckets.with_rule.Goals as goal

pub returns-then-is_for : goal.returns-then-is_for
returns-then-is_for c bucket none =
    let more = rule_needed c.args.bits c.rule_bits.result bucket (may_pass (Without c.args.param bucket) c.args.rule.now) (c.rule_bits.ensures bucket) none in
    (more.0, λ mine. more.1)
