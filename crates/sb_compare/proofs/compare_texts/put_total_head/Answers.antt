use Rattle.std.specs.Fmt.{decimal}
use Rattle.std.proofs.Common.{rules, ◌≡◌, ◌++◌, codes, length}
use Rattle.sb_compare.proofs.AppendLemmas.{two_named}
use Rattle.sb_compare.proofs.compare_texts.put_total_head.Goals as goal

pub returns : goal.returns
returns c =
    let text = c.args.text.now.items in
    let policies = decimal c.args.policies in
    let changed = decimal (length c.args.shown.now) in
    let first : c.put_named.new.out.items ≡ text ++ (codes "compare policies " ++ policies) = c.in_ok-put_named.ensures in
    let second : c.put_named-2.new.out.items ≡ c.put_named.new.out.items ++ (codes " changed " ++ changed) = search rules in
    two_named text (codes "compare policies ") policies (codes " changed ") changed c.put_named.new.out.items c.put_named-2.new.out.items first second
