use Rattle.std.proofs.Common.{[], arith}
use Rattle.std.specs.Prelude.{slice_index_or}
use Rattle.sb_index.specs.Sets.{has}
use Rattle.sb_index.specs.declared.questions.Question.TheVariants.{Without}
use Rattle.sb_index.proofs.TableLemmas.{next_put, rule_put, none_put}
use Rattle.sb_index.proofs.buckets.sets_of.Goals as goal

pub loop-rule-preserved : goal.loop-rule-preserved
loop-rule-preserved c =
    let rules = c.args.rules.now in
    let tag = c.args.tag in
    let i = c.loop-rule.rule-index in
    let rule = c.rule-item.result in
    let old = c.loop-rule.invariant in
    let put = c.put_next-at in
    let before = c.loop-rule.sets.items in
    let after = put.new.sets.items in
    let next = next_put rules tag i rule c.loop-rule.at put.result c.loop-rule-test.true c.rule-item.is old.0 old.1 put.ensures.next in (
      next.0,
      next.1,
      put.ensures.many,
      λ bucket h. rule_put rules tag (Without c.args.param bucket) i rule c.loop-rule.at (has (slice_index_or before bucket []))
          (has (slice_index_or after bucket [])) c.loop-rule-test.true c.rule-item.is old.0 (old.3 bucket h)
          (old.4 bucket c.loop-rule.at h (omega arith)) (λ k. put.ensures.put bucket k h),
      λ bucket k h le. none_put tag rule c.loop-rule.at put.result k (Without c.args.param bucket) (has (slice_index_or before bucket []))
          (has (slice_index_or after bucket [])) put.ensures.next le (old.4 bucket k h) (put.ensures.put bucket k h),
    )
