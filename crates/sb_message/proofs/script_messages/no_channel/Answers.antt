use Rattle.std.proofs.Common.{rules, ◌≡◌, ◌++◌, refl, codes, decimal, string_bytes}
use Rattle.sb_message.specs.Causes.{two_text}
use Rattle.sb_message.proofs.Numbered.{three_numbers}
use Rattle.sb_message.proofs.script_messages.no_channel.Goals as goal

pub returns : goal.returns
returns c =
    let before = codes "no such channel " in
    let between = codes ": target " in
    let after = codes " has " in
    let words = string_bytes c.put_decimal_text.new.out in
    let text : words ≡ two_text before c.args.channel between c.args.target ++ after ++ decimal c.args.channels = search rules in
    three_numbers before between after c.args.channel c.args.target c.args.channels words refl refl refl text
