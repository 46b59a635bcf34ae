use Rattle.std.specs.Fmt.{decimal}
use Rattle.std.specs.List.{count_by}
use Rattle.std.proofs.Common.{rules, ◌≡◌, ◌++◌, codes}
use Rattle.sb_compare.specs.CompareTexts.{is_less, is_more, total_head}
use Rattle.sb_compare.proofs.AppendLemmas.{total_parts}
use Rattle.sb_compare.proofs.compare_texts.put_total.Goals as goal

pub returns : goal.returns
returns c =
    let text = c.args.text.now.items in
    let head = total_head c.args.policies c.args.shown.now in
    let more = decimal (count_by is_more c.args.shown.now) in
    let less = decimal (count_by is_less c.args.shown.now) in
    let one = c.put_total_head.new.text.items in
    let two = c.put_named.new.out.items in
    let three = c.put_named-2.new.out.items in
    let first : one ≡ text ++ head = search rules in
    let second : two ≡ one ++ (codes " more " ++ more) = search rules in
    let third : three ≡ two ++ (codes " less " ++ less) = search rules in
    let last : c.push.new.self.items ≡ three ++ codes "\n" = search rules in
    total_parts text head (codes " more ") more (codes " less ") less (codes "\n") one two three c.push.new.self.items first second third last
