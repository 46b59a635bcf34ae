use Rattle.std.specs.List.{list_all}
use Rattle.std.specs.Prelude.{IfSome}
use Rattle.std.proofs.Common.{◌≡◌, ◌∙◌, ap, map, subst}
use Rattle.sb_call.specs.declared.arguments.Arg.TheVariants as arg
use Rattle.sb_cover.specs.Choices.{is_shown_arg, AreNumberChoices}
use Rattle.sb_cover.proofs.ParamLemmas.{shown_numbers}
use Rattle.sb_cover.proofs.param_covers.number_args.Goals as goal

pub returns-clause-all : goal.returns-clause-all
returns-clause-all c =
    let picked = c.in-Some.picked in
    let numbers : AreNumberChoices c.args.table.now.conds.items c.args.width c.args.questions.now picked.values.items picked.labels.keys =
    subst (λ o. IfSome o (λ p. AreNumberChoices c.args.table.now.conds.items c.args.width c.args.questions.now p.values.items p.labels.keys)) c.in-Some.is c.in_ok-picked.ensures.all in
    (picked.values.items, c.in_ok-values.ensures ∙ ap (map arg.Num) c.deref.ensures.value, numbers)

pub returns-clause-shown : goal.returns-clause-shown
returns-clause-shown c = ap (list_all is_shown_arg) c.in_ok-values.ensures ∙ shown_numbers c.deref.result.now
