use Rattle.std.proofs.Common.{rules, ◌≡◌, subst}
use Rattle.sb_commands.specs.Commands.{HasNumbers, command_in}
use Rattle.sb_commands.specs.Forms.{form_of}
use Rattle.sb_commands.specs.Usage.{texts}
use Rattle.sb_commands.proofs.TakenWords.{numbers_are}
use Rattle.sb_commands.proofs.commands.CommandWords.values.Goals as goal

pub returns-clause-numbers : goal.returns-clause-numbers
returns-clause-numbers c =
    let form = form_of c.self.inside.form in
    let words = texts c.self.inside.words.now in
    let is : command_in form words ≡ c.args.self.now = search rules in
    subst HasNumbers is (numbers_are form words c.self.invariant)
