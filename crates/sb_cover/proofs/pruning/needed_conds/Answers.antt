use Rattle.std.proofs.Common.{subst}
use Rattle.sb_cover.specs.Pruning.{marks_by, DecideAlike}
use Rattle.sb_cover.proofs.NeedLemmas.{agree_before, alike_one}
use Rattle.sb_cover.proofs.pruning.needed_conds.Goals as goal

pub loop-question-preserved : goal.loop-question-preserved
loop-question-preserved c = λ f g sure agree rest.
    c.loop-question.invariant f g sure (agree_before c.loop-question.needed.items c.note_rules.new.needed.items f g c.in_ok-note_rules.ensures.stay agree)
    (alike_one f g c.args.questions.now c.loop-question.question-index c.question-item.result c.loop-question-test.true c.question-item.is
    (subst (λ l. DecideAlike c.question-item.result.depth l (marks_by f l) (marks_by g l)) c.deref.ensures (c.in_ok-note_rules.ensures.alike f g sure agree)) rest)
