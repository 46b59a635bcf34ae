use Rattle.std.specs.List.{list_all, list_any}
use Rattle.std.proofs.Common.{◌≡◌, ◌∙◌, false, true, ap, eqb, get_or, sym}
use Rattle.sb_cover.specs.Pruning.{is_needed}
use Rattle.sb_cover.proofs.NeedLemmas.{failing_rule, needed_rule, sure_rule}
use Rattle.sb_cover.proofs.pruning.note_rule.Goals as goal

pub returns-in-Some-clause-pruned : goal.returns-in-Some-clause-pruned
returns-in-Some-clause-pruned c = λ f g a b more sure agree rest.
    let n = c.in-Some.cond in
    let among : list_any (λ k. eqb k n) c.args.rule.now.here ≡ true = ap (list_any (λ k. eqb k n)) (sym c.deref-3.ensures) ∙ c.in-Some.ensures.among in
    failing_rule c.args.depth c.args.decided.now.items c.args.signs.now.fails.items c.args.signs.now.holds.items c.need.new.needed.items f g a b c.args.rule.now more n among
    c.in-Some.ensures.fails c.need.ensures.here sure agree rest

pub returns-then-not-all_set-clause-pruned : goal.returns-then-not-all_set-clause-pruned
returns-then-not-all_set-clause-pruned c = λ f g a b more sure agree rest.
    let all : list_all (is_needed c.need_all.new.needed.items) c.args.rule.now.here ≡ true =
    ap (list_all (is_needed c.need_all.new.needed.items)) (sym c.deref-4.ensures) ∙ c.need_all.ensures.here in
    needed_rule c.args.depth c.args.decided.now.items c.need_all.new.needed.items f g a b c.args.rule.now more all agree rest

pub returns-clause-pruned : goal.returns-clause-pruned
returns-clause-pruned c = λ f g a b more sure agree rest.
    let all : list_all (is_needed c.need_all.new.needed.items) c.args.rule.now.here ≡ true =
    ap (list_all (is_needed c.need_all.new.needed.items)) (sym c.deref-4.ensures) ∙ c.need_all.ensures.here in
    let hold : list_all (λ n. get_or c.args.signs.now.holds.items n false) c.args.rule.now.here ≡ true =
    (λ i. list_all (λ n. get_or (sym c.deref-5.ensures.value i) n false) (sym c.deref-6.ensures i)) ∙ sym c.all_set.ensures ∙ c.if-not-all_set.false in
    let same : c.in_ok-later.later ≡ c.args.rule.now.later = c.in_ok-later.ensures ∙ c.deref-7.ensures in
    sure_rule c.args.depth c.args.decided.now.items c.push.new.self.items c.in_ok-later.later c.args.signs.now.fails.items c.args.signs.now.holds.items c.need_all.new.needed.items f g a b
    c.args.rule.now more all hold c.in_ok-push.ensures.items same sure agree rest
