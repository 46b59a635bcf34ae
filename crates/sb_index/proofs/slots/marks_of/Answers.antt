use Rattle.std.proofs.lemmas.List.{take_all}
use Rattle.sb_index.specs.Bounds.{first_of, last_of}
use Rattle.sb_index.specs.Marks.{is_marked}
use Rattle.sb_index.specs.declared.questions.Question.TheVariants.{Within}
use Rattle.sb_index.proofs.MarkLemmas.{fresh_unmarked}
use Rattle.sb_index.proofs.TableLemmas.{next_put, rule_put}
use Rattle.sb_index.proofs.slots.marks_of.Goals as goal

pub loop-rule-preserved : goal.loop-rule-preserved
loop-rule-preserved c =
    let rules = c.args.rules.now in
    let tag = c.args.tag in
    let bounds = c.args.bounds.now in
    let i = c.loop-rule.rule-index in
    let rule = c.rule-item.result in
    let old = c.loop-rule.invariant in
    let put = c.put_next-at in
    let at = c.loop-rule.at in
    let next = next_put rules tag i rule at put.result c.loop-rule-test.true c.rule-item.is old.2 old.3 put.ensures.next in (
      put.ensures.sized,
      put.ensures.fresh,
      next.0,
      next.1,
      λ slot h. rule_put rules tag (Within c.args.feature (first_of bounds slot) (last_of bounds slot)) i rule at (is_marked c.loop-rule.marks slot)
          (is_marked put.new.marks slot) c.loop-rule-test.true c.rule-item.is old.2 (old.4 slot h)
          (fresh_unmarked c.loop-rule.marks at slot old.1) (λ k. put.ensures.marked slot k h),
    )

pub returns-clause-marked : goal.returns-clause-marked
returns-clause-marked c = rw (take_all c.loop-rule.rule-index c.args.rules.now c.loop-rule-test.false) at c.loop-rule.invariant.4
