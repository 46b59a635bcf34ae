use Rattle.sb_cover.proofs.OpeningLemmas.{more_more, opened_one, unread_put}
use Rattle.sb_cover.specs.PlainQuestions.{is_plain_rule}
use Rattle.sb_cover.proofs.PlainLemmas.{element_passes}
use Rattle.sb_cover.proofs.opening.rules_for.Goals as goal

pub loop-place-preserved : goal.loop-place-preserved
loop-place-preserved c =
    let old = c.loop-place.conds.items in
    let new = c.put_rule.new.conds.items in
    let put = c.in_ok-done.ensures.put c.if-not-done.false in
    record {
      more = more_more c.args.conds.now.items old new c.loop-place.invariant.more c.in_ok-done.ensures.more;
      rules = opened_one old new c.args.tag c.args.rules.now c.args.is_cut c.loop-place.place c.index-rules-place.result c.loop-place.opened c.put_rule.new.opened c.loop-place-test.true c.index-rules-place.is
          c.in_ok-done.ensures.more put c.loop-place.invariant.rules;
      unread = unread_put new c.args.tag c.args.is_cut c.index-rules-place.result c.loop-place.place c.loop-place.opened c.put_rule.new.opened put c.loop-place.invariant.unread;
      plain = λ all before.
          c.in_ok-done.ensures.plain (element_passes is_plain_rule c.args.rules.now c.loop-place.place c.index-rules-place.result c.loop-place-test.true c.index-rules-place.is all)
          (c.loop-place.invariant.plain all before);
    }
