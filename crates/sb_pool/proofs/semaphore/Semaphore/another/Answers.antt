use Rattle.std.proofs.Common.{◌≡◌, ◌<◌, rules}
use Rattle.sb_pool.proofs.Counted.{may_split}
use Rattle.sb_pool.proofs.semaphore.Semaphore.another.Goals as goal

pub split_seat-requires : goal.split_seat-requires
split_seat-requires c =
    let inside : 0 < c.args.self.now.table.shared.table_id.words = search rules in
    (c.requires.own.0, inside, may_split _ _ _ c.args.place.now.me.0 c.requires.seats)
