use Rattle.std.proofs.Common.{◌≡◌, ◌∷◌, ◌+◌, drop, get_or, subst}
use Rattle.std.proofs.Math.ListN.{drop_of_length-le}
use Rattle.std.proofs.lemmas.List.{at_drop_more}
use Rattle.sb_rule.specs.declared.actions.Action.TheVariants.{Allow}
use Rattle.sb_rule.specs.declared.verdicts.Verdict.TheVariants.{Rule}
use Rattle.sb_compare.proofs.Walks.{AreDecidedSoFar}
use Rattle.sb_compare.proofs.DecidedLemmas.{verdicts_all, verdicts_more}
use Rattle.sb_compare.proofs.decided.put_verdicts.Goals as goal

pub loop-verdict-preserved : goal.loop-verdict-preserved
loop-verdict-preserved c = λ policy are written.
    let verdicts = c.args.verdicts.now in
    let at = c.loop-verdict.verdict-index in
    let one = get_or verdicts at (Rule 0 Allow) in
    let more : drop at verdicts ≡ one ∷ drop (at + 1) verdicts = at_drop_more (λ l. l) verdicts at (Rule 0 Allow) c.loop-verdict-test.true in
    verdicts_more c.args.tag policy verdicts (drop (at + 1) verdicts) one c.args.list.now c.loop-verdict.list c.put_verdict.new.list (c.in_ok-put_verdict.ensures policy are written)
    (subst (λ rest. AreDecidedSoFar c.args.tag policy verdicts rest c.args.list.now c.loop-verdict.list) more (c.loop-verdict.invariant policy are written))

pub returns : goal.returns
returns c = λ policy are written.
    verdicts_all c.args.tag policy c.args.verdicts.now (drop c.loop-verdict.verdict-index c.args.verdicts.now) c.args.list.now c.loop-verdict.list
    (drop_of_length-le c.args.verdicts.now c.loop-verdict-test.false) (c.loop-verdict.invariant policy are written)
