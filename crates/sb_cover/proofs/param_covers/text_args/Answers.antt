use Rattle.std.specs.List.{list_all}
use Rattle.std.specs.Prelude.{IfSome}
use Rattle.std.proofs.Common.{◌≡◌, ◌∙◌, true, ap, subst}
use Rattle.sb_cover.specs.Choices.{is_shown_arg, AreTexts}
use Rattle.sb_cover.specs.Shown.{is_shown}
use Rattle.sb_cover.proofs.ParamLemmas.{shown_texts}
use Rattle.sb_cover.proofs.param_covers.text_args.Goals as goal

pub returns-clause-all : goal.returns-clause-all
returns-clause-all c =
    let picked = c.in-Some.picked in
    let texts : AreTexts c.args.table.now.conds.items c.args.first c.args.questions.now picked.values.items picked.labels.keys =
    subst (λ o. IfSome o (λ p. AreTexts c.args.table.now.conds.items c.args.first c.args.questions.now p.values.items p.labels.keys)) c.in-Some.is c.in_ok-picked.ensures.all in
    (picked.values.items, c.in_ok-values.ensures, texts)

pub returns-clause-shown : goal.returns-clause-shown
returns-clause-shown c = λ plain.
    let picked = c.in-Some.picked in
    let shown : c.args.table.now.is_plain ≡ true → list_all is_shown picked.values.items ≡ true =
    subst (λ o. IfSome o (λ p. c.args.table.now.is_plain ≡ true → list_all is_shown p.values.items ≡ true)) c.in-Some.is c.in_ok-picked.ensures.shown in
    ap (list_all is_shown_arg) c.in_ok-values.ensures ∙ shown_texts picked.values.items (shown plain)
