use Rattle.std.proofs.Common.{rules, ◌≡◌, ◌<◌, ◌+◌, ◌^◌, true, refl, length}
use Rattle.std.specs.Prelude.{is_some}
use Rattle.std.specs.BTreeMap.{is_at}
use Rattle.std.specs.Map.{lookup}
use Rattle.sb_base.specs.Orders.{by_pair}
use Rattle.sb_names.proofs.FreeNumbers.{next_fits, next_reached}
use Rattle.sb_names.proofs.maps.free_number.Goals as goal

pub overflow_add-number : goal.overflow_add-number
overflow_add-number g c =
    let es = c.args.index.now.entries in
    let small : length es < 2 ^ 63 = search rules in
    let fits : c.loop-number.number + 1 < 2 ^ 64 = next_fits c.args.hash (length es) c.loop-number.number es c.loop-number.invariant refl small in
    search rules

pub loop-number-preserved : goal.loop-number-preserved
loop-number-preserved g c =
    let es = c.args.index.now.entries in
    let there : is_some (lookup (is_at (by_pair (c.args.hash, c.loop-number.number))) es) ≡ true = search rules in
    next_reached c.args.hash (length es) c.loop-number.number es c.loop-number.invariant there
