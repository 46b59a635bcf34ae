use Rattle.std.proofs.Common.{subst, sym}
use Rattle.sb_cover.specs.Choices.{AreChoices, AreNumberArgs, AreTextArgs}
use Rattle.sb_cover.proofs.ParamLemmas.{handles_of_kind, if_some, names_of_kind, nums_of_kind, texts_of_kind}
use Rattle.sb_cover.proofs.param_covers.choices_for.Goals as goal

pub returns-in_ok-choices-in-Text-clause-all : goal.returns-in_ok-choices-in-Text-clause-all
returns-in_ok-choices-in-Text-clause-all c =
    let conds = c.args.table.now.conds.items in
    let questions = c.args.questions.now in
    if_some c.in_ok-choices-in-Text.choices (λ choices. AreTextArgs conds 5 questions choices.values.items choices.labels.keys)
    (λ choices. AreChoices conds c.args.kind questions choices.values.items choices.labels.keys)
    (λ choices are. subst (λ kind. AreChoices conds kind questions choices.values.items choices.labels.keys) (sym c.in-Text.is)
    (texts_of_kind conds questions choices.values.items choices.labels.keys are))
    c.in_ok-choices-in-Text.ensures.all

pub returns-in_ok-choices-in-Name-clause-all : goal.returns-in_ok-choices-in-Name-clause-all
returns-in_ok-choices-in-Name-clause-all c =
    let conds = c.args.table.now.conds.items in
    let questions = c.args.questions.now in
    if_some c.in_ok-choices-in-Name.choices (λ choices. AreTextArgs conds 1 questions choices.values.items choices.labels.keys)
    (λ choices. AreChoices conds c.args.kind questions choices.values.items choices.labels.keys)
    (λ choices are. subst (λ kind. AreChoices conds kind questions choices.values.items choices.labels.keys) (sym c.in-Name.is)
    (names_of_kind c.names_are_accepted.ensures conds questions choices.values.items choices.labels.keys are))
    c.in_ok-choices-in-Name.ensures.all

pub returns-in_ok-choices-in-Num-clause-all : goal.returns-in_ok-choices-in-Num-clause-all
returns-in_ok-choices-in-Num-clause-all c =
    let conds = c.args.table.now.conds.items in
    let questions = c.args.questions.now in
    if_some c.in_ok-choices-in-Num.choices (λ choices. AreNumberArgs conds 32 questions choices.values.items choices.labels.keys)
    (λ choices. AreChoices conds c.args.kind questions choices.values.items choices.labels.keys)
    (λ choices are. subst (λ kind. AreChoices conds kind questions choices.values.items choices.labels.keys) (sym c.in-Num.is)
    (nums_of_kind conds questions choices.values.items choices.labels.keys are))
    c.in_ok-choices-in-Num.ensures.all

pub returns-in_ok-choices-in-Handle-clause-all : goal.returns-in_ok-choices-in-Handle-clause-all
returns-in_ok-choices-in-Handle-clause-all c =
    let conds = c.args.table.now.conds.items in
    let questions = c.args.questions.now in
    if_some c.in_ok-choices-in-Handle.choices (λ choices. AreNumberArgs conds 64 questions choices.values.items choices.labels.keys)
    (λ choices. AreChoices conds c.args.kind questions choices.values.items choices.labels.keys)
    (λ choices are. subst (λ kind. AreChoices conds kind questions choices.values.items choices.labels.keys) (sym c.in-Handle.is)
    (handles_of_kind conds questions choices.values.items choices.labels.keys are))
    c.in_ok-choices-in-Handle.ensures.all
