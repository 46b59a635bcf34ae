use Rattle.std.proofs.Common.{◌∙◌, sym, subst}
use Rattle.clap.specs.Words.{app_of}
use Rattle.sb_commands.specs.Commands.{HasValues}
use Rattle.sb_commands.specs.Forms.{form_of}
use Rattle.sb_commands.specs.Usage.{texts}
use Rattle.sb_commands.proofs.TakenWords.{words_are_read}
use Rattle.sb_commands.proofs.commands.read_values.Goals as goal

-- the values are found
pub returns-in-Ok : goal.returns-in-Ok
returns-in-Ok c =
    subst (HasValues (form_of c.args.form) (texts c.args.words.now)) (sym c.found_values.ensures)
    (words_are_read (app_of c.into_command.result) (form_of c.args.form) (texts c.args.words.now) c.in-Ok.values (c.into_command.ensures ∙ c.in_ok-line.ensures) c.requires c.in-Ok.ensures.matches)
