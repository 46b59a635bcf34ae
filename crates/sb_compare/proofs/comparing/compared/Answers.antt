use Rattle.std.proofs.Common.{◌≡◌, ◌∙◌, ◌∷◌, ◌++◌, ◌+◌, ap, drop, subst, sym}
use Rattle.std.proofs.Math.ListN.{drop_of_length-le}
use Rattle.std.proofs.lemmas.List.{at_drop_more}
use Rattle.sb_compare.specs.Comparing.{AreCompared}
use Rattle.sb_compare.proofs.Walks.{AreComparedSoFar}
use Rattle.sb_compare.proofs.ComparedLemmas.{compared_all, compared_more, made_at}
use Rattle.sb_compare.proofs.comparing.compared.Goals as goal

pub loop-new-init : goal.loop-new-init
loop-new-init c = λ later h. subst (λ l. AreCompared c.args.olds.now c.args.news.now (l ++ later)) (sym c.empty-shown.ensures) h

pub put_new-requires-clause-new : goal.put_new-requires-clause-new
put_new-requires-clause-new c = made_at c.args.news.now c.loop-new.new-index c.new-item.result c.loop-new-test.true c.new-item.is c.requires.news

pub loop-new-preserved : goal.loop-new-preserved
loop-new-preserved c =
    let news = c.args.news.now in
    let i = c.loop-new.new-index in
    let new = c.new-item.result in
    let more : drop i news ≡ new ∷ drop (i + 1) news = at_drop_more (λ l. l) news i new c.loop-new-test.true ∙ ap (λ x. x ∷ drop (i + 1) news) (sym c.new-item.is) in
    compared_more c.args.olds.now news (drop (i + 1) news) new c.loop-new.shown c.put_new.new.shown c.in_ok-put_new.ensures.all
    (subst (λ rest. AreComparedSoFar c.args.olds.now news rest c.loop-new.shown) more c.loop-new.invariant)

pub returns-clause-all : goal.returns-clause-all
returns-clause-all c =
    compared_all c.args.olds.now c.args.news.now (drop c.loop-new.new-index c.args.news.now) c.loop-new.shown (drop_of_length-le c.args.news.now c.loop-new-test.false) c.loop-new.invariant
