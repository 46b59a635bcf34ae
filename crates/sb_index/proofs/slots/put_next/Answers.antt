use Rattle.std.proofs.Common.{rules, ◌≡◌, ◌&&◌, true, false, eqb}
use Rattle.sb_rule.specs.Verdicts.{is_for}
use Rattle.sb_index.specs.Bounds.{first_of, last_of}
use Rattle.sb_index.specs.Marks.{is_marked}
use Rattle.sb_index.specs.Questions.{may_pass}
use Rattle.sb_index.specs.declared.questions.Question.TheVariants.{Within}
use Rattle.sb_index.proofs.BucketLemmas.{none_bucketed}
use Rattle.sb_index.proofs.SlotLemmas.{mine_marked}
use Rattle.sb_index.proofs.slots.put_next.Goals as goal

pub returns-then-not-is_for-clause-marked : goal.returns-then-not-is_for-clause-marked
returns-then-not-is_for-clause-marked c slot k h =
    let bounds = c.args.bounds.now in
    let rule = c.args.rule.now in
    let other : is_for c.args.tag rule ≡ false = search rules in
    none_bucketed (is_marked c.args.marks.now slot k) (is_for c.args.tag rule)
    (eqb k c.args.at && may_pass (Within c.args.feature (first_of bounds slot) (last_of bounds slot)) rule) other

pub returns-clause-marked : goal.returns-clause-marked
returns-clause-marked c slot k h =
    let bounds = c.args.bounds.now in
    let rule = c.args.rule.now in
    let mine : is_for c.args.tag rule ≡ true = search rules in
    mine_marked (is_marked c.put_rule.new.marks slot k) (is_marked c.args.marks.now slot k) (is_for c.args.tag rule)
    (eqb k c.args.at && may_pass (Within c.args.feature (first_of bounds slot) (last_of bounds slot)) rule) mine (c.put_rule.ensures.marked slot k h)
