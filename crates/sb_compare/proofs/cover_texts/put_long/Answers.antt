use Rattle.std.proofs.Common.{rules, ◌≡◌, ◌++◌, codes}
use Rattle.sb_compare.specs.CoverTexts.{rule_words}
use Rattle.sb_compare.proofs.AppendLemmas.{three_parts}
use Rattle.sb_compare.proofs.cover_texts.put_long.Goals as goal

pub returns : goal.returns
returns c =
    let text = c.args.text.now.items in
    let words = rule_words c.args.verdict in
    let one = c.extend_from_slice.new.self.items in
    let two = c.put_rule_words.new.text.items in
    let three = c.extend_from_slice-2.new.self.items in
    let first : one ≡ text ++ codes "# " = search rules in
    let second : two ≡ one ++ words = search rules in
    let last : three ≡ two ++ codes " decides only calls that are longer than a block\n" = c.in_ok-extend_from_slice-2.ensures.items in
    three_parts text (codes "# ") words (codes " decides only calls that are longer than a block\n") one two three first second last
