use Rattle.std.proofs.Common.{rules, ◌≡◌, ◌∙◌, ap, sym}
use Rattle.sb_commands.specs.Commands.{Command, command_in, files_of}
use Rattle.sb_commands.specs.Forms.{form_of}
use Rattle.sb_commands.specs.Usage.{texts}
use Rattle.sb_commands.specs.Values.{values_of}
use Rattle.sb_commands.proofs.TakenWords.{files_are}
use Rattle.sb_commands.proofs.commands.CommandWords.files.Goals as goal

pub returns : goal.returns
returns c =
    let form = form_of c.self.inside.form in
    let words = texts c.self.inside.words.now in
    let is : command_in form words ≡ c.args.self.now = search rules in
    let values : values_of c.args.values ≡ c.args.self.now.values = search rules in
    c.of.ensures
    ∙ (files_are form words (values_of c.args.values) c.self.invariant (values ∙ sym (ap (λ (x : Command). x.values) is)) ∙ ap files_of is)
