use Rattle.sb_explain.specs.Why.{why_lines}
use Rattle.sb_explain.proofs.Capping.{listed_text}
use Rattle.sb_explain.proofs.why.why_text.Goals as goal

pub returns : goal.returns
returns c =
    listed_text
    (why_lines c.args.explained.ready.now.policies c.args.explained.ready.now.script c.args.explained.lines.now c.args.entries.now c.args.asked)
    _ _ _ c.new-listing.ensures c.in_ok-put_why.ensures c.in_ok-text.ensures
