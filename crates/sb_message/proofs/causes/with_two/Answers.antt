use Rattle.std.proofs.Common.{rules, ◌≡◌, ◌++◌, string_bytes}
use Rattle.sb_message.specs.Causes.{two_text}
use Rattle.sb_message.proofs.Numbered.{two_numbers}
use Rattle.sb_message.proofs.causes.with_two.Goals as goal

pub returns : goal.returns
returns c =
    let before = c.args.before.now in
    let between = c.args.between.now in
    let after = c.args.after.now in
    let text : string_bytes c.push_str.new.self ≡ two_text before c.args.first between c.args.second ++ after = search rules in
    two_numbers before between after c.args.first c.args.second (string_bytes c.push_str.new.self) c.requires.before c.requires.between c.requires.after text
