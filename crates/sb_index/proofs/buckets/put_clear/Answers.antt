use Rattle.sb_index.proofs.BucketLemmas.{none_before, one_more}
use Rattle.sb_index.proofs.buckets.put_clear.Goals as goal

pub loop-bucket-init : goal.loop-bucket-init
loop-bucket-init c = (c.requires.many, λ s k. none_before c.args.sets.now.items c.args.bits c.args.rule s k)

pub loop-bucket-preserved : goal.loop-bucket-preserved
loop-bucket-preserved c = (
  c.put_if_clear.ensures.many,
  λ s k. one_more c.args.sets.now.items c.loop-bucket.sets.items c.put_if_clear.new.sets.items c.args.bits c.args.rule c.loop-bucket.bucket s k
      (c.loop-bucket.invariant.1 s k) (c.put_if_clear.ensures.put s k),
)
