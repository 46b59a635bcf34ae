use Rattle.std.proofs.Common.{refl, rules, ◌<◌}
use Rattle.sb_pool.proofs.Counted.{opens}
use Rattle.sb_pool.proofs.semaphore.Semaphore.new.Goals as goal

pub of_words-requires : goal.of_words-requires
of_words-requires c =
    let some : 0 < c.from.result = search rules in
    opens c.args.works c.from.result _ refl refl c.ranges.works.fits some
