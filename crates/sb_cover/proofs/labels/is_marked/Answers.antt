use Rattle.std.specs.List.{list_all}
use Rattle.std.proofs.Common.{◌≡◌, ◌∙◌, inl, inr, false, true, ap, sym}
use Rattle.sb_cover.specs.Pruning.{is_true}
use Rattle.sb_cover.proofs.LabelLemmas.{true_mark}
use Rattle.sb_cover.proofs.labels.is_marked.Goals as goal

pub returns-then-not-all_set : goal.returns-then-not-all_set
returns-then-not-all_set c = λ a b more rest.
    let fails : list_all (is_true c.args.truths.now) c.args.rule.now.here ≡ false =
    ap (list_all (is_true c.args.truths.now)) (sym c.deref-3.ensures) ∙ sym c.all_set.ensures ∙ c.if-not-all_set.true in inr (inl (fails, rest))

pub returns : goal.returns
returns c = λ a b more rest.
    let holds : list_all (is_true c.args.truths.now) c.args.rule.now.here ≡ true =
    ap (list_all (is_true c.args.truths.now)) (sym c.deref-3.ensures) ∙ sym c.all_set.ensures ∙ c.if-not-all_set.false in
    let same : c.in_ok-later.later ≡ c.args.rule.now.later = c.in_ok-later.ensures ∙ c.deref-4.ensures in
    true_mark c.args.depth c.args.decided.now.items c.push.new.self.items c.in_ok-later.later (list_all (is_true c.args.truths.now) c.args.rule.now.here) a b c.args.rule.now more holds
    c.in_ok-push.ensures.items same rest
