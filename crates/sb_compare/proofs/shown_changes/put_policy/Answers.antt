use Rattle.std.proofs.Common.{◌≡◌, ◌∷◌, ◌++◌, ◌+◌, List, drop, get_or, subst}
use Rattle.std.proofs.Math.ListN.{drop_of_length-le}
use Rattle.std.proofs.lemmas.List.{at_drop_more}
use Rattle.sb_call.specs.declared.tags.CallTag.TheVariants.{Ping}
use Rattle.sb_compare.specs.ShownChanges.{AreAllChanges}
use Rattle.sb_compare.specs.declared.changes.ShownChange.{ShownChange}
use Rattle.sb_compare.proofs.Walks.{AreAllSoFar}
use Rattle.sb_compare.proofs.ShownChangeLemmas.{tag_more, tags_all}
use Rattle.sb_compare.proofs.shown_changes.put_policy.Goals as goal

pub loop-tag-preserved : goal.loop-tag-preserved
loop-tag-preserved c =
    let tags = c.every_tag-tag-items.result.now in
    let at = c.loop-tag.tag-index in
    let tag = get_or tags at Ping in
    let more : drop at tags ≡ tag ∷ drop (at + 1) tags = at_drop_more (λ l. l) tags at Ping c.loop-tag-test.true in
    tag_more c.args.old.now c.args.new.now tags (drop (at + 1) tags) tag c.args.shown.now c.loop-tag.shown c.put_tag.new.shown c.in_ok-put_tag.ensures.all
    (subst (λ rest. AreAllSoFar c.args.old.now c.args.new.now tags rest c.args.shown.now c.loop-tag.shown) more c.loop-tag.invariant)

pub returns-clause-all : goal.returns-clause-all
returns-clause-all c =
    let tags = c.every_tag-tag-items.result.now in
    subst (λ all. (here : List ShownChange) × (c.loop-tag.shown ≡ c.args.shown.now ++ here) × AreAllChanges c.args.old.now c.args.new.now all here) c.every_tag-tag-items.ensures
    (tags_all c.args.old.now c.args.new.now tags (drop c.loop-tag.tag-index tags) c.args.shown.now c.loop-tag.shown (drop_of_length-le tags c.loop-tag-test.false) c.loop-tag.invariant)
