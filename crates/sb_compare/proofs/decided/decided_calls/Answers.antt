use Rattle.std.proofs.Common.{◌≡◌, ◌∷◌, ◌+◌, drop, get_or, subst}
use Rattle.std.proofs.Math.ListN.{drop_of_length-le}
use Rattle.std.proofs.lemmas.List.{at_drop_more}
use Rattle.sb_call.specs.declared.tags.CallTag.TheVariants.{Ping}
use Rattle.sb_compare.specs.Decided.{AreAllDecided}
use Rattle.sb_compare.proofs.Walks.{AreAllDecidedSoFar}
use Rattle.sb_compare.proofs.DecidedLemmas.{decided_all, decided_more}
use Rattle.sb_compare.proofs.decided.decided_calls.Goals as goal

pub loop-tag-preserved : goal.loop-tag-preserved
loop-tag-preserved c =
    let tags = c.every_tag-tag-items.result.now in
    let at = c.loop-tag.tag-index in
    let tag = get_or tags at Ping in
    let more : drop at tags ≡ tag ∷ drop (at + 1) tags = at_drop_more (λ l. l) tags at Ping c.loop-tag-test.true in
    decided_more c.args.policy.now tags (drop (at + 1) tags) tag c.loop-tag.list c.put_tag.new.list c.in_ok-put_tag.ensures.all
    (subst (λ rest. AreAllDecidedSoFar c.args.policy.now tags rest c.loop-tag.list) more c.loop-tag.invariant)

pub returns-clause-all : goal.returns-clause-all
returns-clause-all c =
    let tags = c.every_tag-tag-items.result.now in
    subst (λ all. AreAllDecided c.args.policy.now all c.loop-tag.list) c.every_tag-tag-items.ensures
    (decided_all c.args.policy.now tags (drop c.loop-tag.tag-index tags) c.loop-tag.list (drop_of_length-le tags c.loop-tag-test.false) c.loop-tag.invariant)
