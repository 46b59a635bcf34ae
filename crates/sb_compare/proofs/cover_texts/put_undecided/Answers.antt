use Rattle.std.specs.Fmt.{decimal}
use Rattle.std.proofs.Common.{rules, ◌≡◌, ◌++◌, codes}
use Rattle.sb_compare.proofs.AppendLemmas.{named_end}
use Rattle.sb_compare.proofs.cover_texts.put_undecided.Goals as goal

pub returns : goal.returns
returns c =
    let text = c.args.text.now.items in
    let line = decimal c.args.line in
    let first : c.put_named.new.out.items ≡ text ++ (codes "# rule " ++ line) = search rules in
    let last : c.extend_from_slice.new.self.items ≡ c.put_named.new.out.items ++ codes " decides no call\n" = c.in_ok-extend_from_slice.ensures.items in
    named_end text (codes "# rule ") line (codes " decides no call\n") c.put_named.new.out.items c.extend_from_slice.new.self.items first last
