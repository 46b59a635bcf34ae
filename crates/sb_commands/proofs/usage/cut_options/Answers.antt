use Rattle.std.proofs.Common.{◌≡◌, sym, subst, map, Ok}
use Rattle.sb_commands.specs.Forms.{choice_of}
use Rattle.sb_commands.specs.Usage.{Cut, IsCut, texts}
use Rattle.sb_commands.proofs.OptionSteps.{cut_again, two_cut}
use Rattle.sb_commands.proofs.usage.cut_options.Goals as goal

pub returns-in_ok-given-in_default : goal.returns-in_ok-given-in_default
returns-in_ok-given-in_default c = λ g same.
    let choices = map choice_of c.args.options.now in
    let r = c.cut_option-in_default-2.result in
    subst (λ (cut : Cut). IsCut cut r) (sym (two_cut c.args.options.now c.in_default.len_at_least g c.args.total (texts c.args.words.now)))
    (cut_again choices g c.args.total (texts c.args.words.now) c.in_ok-given-in_default.given c.in_ok-given-in_default.left r (c.in_ok-given-in_default.ensures g same)
    c.cut_option-in_default-2.ensures)
