use Rattle.std.proofs.Common.{◌≡◌, ◌<◌, rules}
use Rattle.sb_pool.proofs.Counted.{may_join}
use Rattle.sb_pool.proofs.semaphore.Semaphore.join.Goals as goal

pub join_seat-requires : goal.join_seat-requires
join_seat-requires c =
    let inside : 0 < c.args.self.now.table.shared.table_id.words = search rules in
    (c.requires.own.0.0, c.requires.own.1.0, c.requires.own.1.1, inside, may_join _ _ _ c.args.place.now.me.0 _ c.args.other.me.0 c.requires.seats.0)
