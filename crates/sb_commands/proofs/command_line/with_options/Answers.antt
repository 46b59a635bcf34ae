use Rattle.std.proofs.Common.{rules, ◌≡◌, ◌∙◌, ◌∷◌, [], IfOk, List, ap, arith, codes, length, map, refl, subst, sym}
use Rattle.clap.specs.Words.{App, with_rule}
use Rattle.sb_commands.specs.CommandLine.{option_argument, with_options}
use Rattle.sb_commands.specs.Forms.{choice_of}
use Rattle.sb_commands.specs.declared.forms.FormOption.{FormOption}
use Rattle.sb_commands.proofs.command_line.with_options.Goals as goal

empty : (options : List FormOption) → length options ≡ 0 → options ≡ []
empty [] e = refl
empty (option ∷ options) e = absurd (omega (arith, e))

-- two options
pub returns-in-Some-split_first : goal.returns-in-Some-split_first
returns-in-Some-split_first c =
    let first = c.in-Some.first.now in
    let others = c.in-Some.others.now in
    let second = c.in-Some-split_first.second.now in
    let rest = c.in-Some-split_first.field-0-1.now in
    let r = c.with_option-in-Some-split_first.result in
    let front : c.args.options.now ≡ first ∷ others = search rules in
    let next : others ≡ second ∷ rest = search rules in
    let P : App → Type 0 = λ app. IfOk r (λ l. l ≡ with_rule app (option_argument (codes "second-option") (choice_of second))) in
    let made : P (with_rule c.args.line (option_argument (codes "first-option") (choice_of first))) = subst P c.in_ok-line.ensures c.with_option-in-Some-split_first.ensures in
    let Q : List FormOption → Type 0 = λ options. IfOk r (λ l. l ≡ with_options (map choice_of options) c.args.line) in
    subst Q (sym (front ∙ ap (λ (options : List FormOption). first ∷ options) next)) made

-- one
pub returns-in-None : goal.returns-in-None
returns-in-None c =
    let first = c.in-Some.first.now in
    let others = c.in-Some.others.now in
    let front : c.args.options.now ≡ first ∷ others = search rules in
    let none : others ≡ [] = empty others c.in-None.ensures.cases in
    let Q : List FormOption → Type 0 = λ options. c.in_ok-line.line ≡ with_options (map choice_of options) c.args.line in
    subst Q (sym (front ∙ ap (λ (options : List FormOption). first ∷ options) none)) c.in_ok-line.ensures
