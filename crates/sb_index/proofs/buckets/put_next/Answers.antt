use Rattle.std.proofs.Common.{rules, ◌≡◌, ◌&&◌, [], true, false, eqb}
use Rattle.std.specs.Prelude.{slice_index_or}
use Rattle.sb_rule.specs.Verdicts.{is_for}
use Rattle.sb_index.specs.Questions.{may_pass}
use Rattle.sb_index.specs.Sets.{has}
use Rattle.sb_index.specs.declared.questions.Question.TheVariants.{Without}
use Rattle.sb_index.proofs.BucketLemmas.{none_bucketed, rule_bucketed}
use Rattle.sb_index.proofs.buckets.put_next.Goals as goal

pub returns-then-not-is_for-clause-put : goal.returns-then-not-is_for-clause-put
returns-then-not-is_for-clause-put c s k h =
    let rule = c.args.rule.now in
    let other : is_for c.args.tag rule ≡ false = search rules in
    none_bucketed (has (slice_index_or c.args.sets.now.items s []) k) (is_for c.args.tag rule)
    (eqb k c.args.at && may_pass (Without c.args.param s) rule) other

pub returns-clause-put : goal.returns-clause-put
returns-clause-put c s k h =
    let rule = c.args.rule.now in
    let mine : is_for c.args.tag rule ≡ true = search rules in
    rule_bucketed (has (slice_index_or c.args.sets.now.items s []) k) (has (slice_index_or c.put_clear.new.sets.items s []) k) (eqb k c.args.at)
    (may_pass (Without c.args.param s) rule) (is_for c.args.tag rule) c.rule_bits.result s mine (c.put_clear.ensures.put s k) h (c.rule_bits.ensures s)
