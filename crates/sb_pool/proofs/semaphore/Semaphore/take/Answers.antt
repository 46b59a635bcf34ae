use Rattle.std.proofs.Common.{◌≡◌, ◌<◌, ◌∙◌, rules}
use Rattle.sb_pool.proofs.Counted.{may_take}
use Rattle.sb_pool.proofs.semaphore.Semaphore.take.Goals as goal

pub compare_exchange-requires : goal.compare_exchange-requires
compare_exchange-requires c =
    let inside : 16 < c.args.self.now.table.shared.table_id.words = search rules in
    (c.requires.own.0, inside, may_take _ _ _ _ c.args.place.now.me c.requires.seat c.args.count c.requires.some)
