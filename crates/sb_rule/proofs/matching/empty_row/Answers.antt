use Rattle.std.proofs.Common.{◌<◌, [], length, replicate, false, true, refl, arith}
use Rattle.std.proofs.lemmas.List.{length-replicate}
use Rattle.sb_rule.proofs.Rows.{row_end}
use Rattle.sb_rule.proofs.matching.empty_row.Goals as goal

pub loop-at-init : goal.loop-at-init
loop-at-init c =
    let within : length c.args.cells.now < length (replicate 257 false) = omega (arith, length-replicate 257 false) in
    record { within = omega arith; made = row_end c.args.cells.now [] (replicate 257 false) true within refl }
