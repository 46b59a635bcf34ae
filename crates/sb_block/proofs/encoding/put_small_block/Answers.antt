use Rattle.std.proofs.Common.{◌≡◌, ◌++◌, ◌*◌, ◌^◌, length}
use Rattle.sb_call.specs.Tags.{shape_of}
use Rattle.sb_block.specs.Blocks.{end_offset, descriptors_of}
use Rattle.sb_block.specs.Layout.{first_offset}
use Rattle.sb_block.proofs.BlockLemmas.{assembled}
use Rattle.sb_block.proofs.encoding.put_small_block.Goals as goal

pub returns-clause-value : goal.returns-clause-value
returns-clause-value c =
    let first : c.first_offset-first.result ≡ first_offset (length c.args.args.now) = c.first_offset-first.ensures in
    let item : c.end_item.result ≡ end_offset c.args.args.now * 2 ^ 16 = rw (c.contents_len.ensures.value, first) at c.end_item.ensures in
    let infos : c.put_descriptors.new.words
    ≡ c.put_opening.new.words ++ descriptors_of (first_offset (length c.args.args.now)) (shape_of c.args.tag) c.args.args.now
    = rw (c.shape.ensures, first) at c.put_descriptors.ensures in
    assembled _ _ _ _ _ _ _ _ c.put_opening.ensures infos (rw item at c.push.ensures) c.put_contents.ensures
