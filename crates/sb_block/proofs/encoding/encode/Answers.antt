use Rattle.std.proofs.Common.{◌≡◌, ◌≤◌, ◌<◌, length}
use Rattle.sb_block.specs.Blocks.{block, contents_of}
use Rattle.sb_block.proofs.BlockLemmas.{block_len, too_long, enough_room}
use Rattle.sb_block.proofs.WholeBlocks.{Fitting, block_back, fits_encoded, too_big_not_encoded}
use Rattle.sb_block.proofs.encoding.encode.Goals as goal

pub returns-then-not-is_small : goal.returns-then-not-is_small
returns-then-not-is_small c =
    let long : 64 < length (block c.args.tag c.args.args.now c.args.mark) =
    too_long (length c.args.args.now) (length (contents_of c.args.args.now)) _ c.is_small.result
    (block_len c.args.tag c.args.args.now c.args.mark c.requires) c.if-not-is_small.true c.is_small.ensures in
    record { value = long; encodes = too_big_not_encoded c.args.tag c.args.args.now c.args.mark long; back = tt }

pub returns : goal.returns
returns c =
    let same : c.put_small_block.new.words ≡ block c.args.tag c.args.args.now c.args.mark = c.put_small_block.ensures.value in
    let len : length (block c.args.tag c.args.args.now c.args.mark) ≤ 64 =
    enough_room (length c.args.args.now) (length (contents_of c.args.args.now)) _ c.is_small.result
    (block_len c.args.tag c.args.args.now c.args.mark c.requires) c.if-not-is_small.false c.is_small.ensures in
    let fitting : Fitting c.args.tag c.args.args.now c.args.mark = record { fitting = c.requires; room = len } in
    record {
      value = (same, rw same len);
      encodes = fits_encoded c.args.tag c.args.args.now c.args.mark fitting;
      back = rw same (block_back c.args.tag c.args.args.now c.args.mark fitting c.put_small_block.ensures.units);
    }
