use Rattle.sb_explain.specs.Why.{judge_lines}
use Rattle.sb_explain.proofs.Capping.{listed_text}
use Rattle.sb_explain.proofs.judging.judge_text.Goals as goal

pub returns : goal.returns
returns c = listed_text (judge_lines c.args.policy.now c.args.tag c.args.args.now) _ _ _ c.new-listing.ensures c.in_ok-put_judged.ensures c.in_ok-text.ensures
