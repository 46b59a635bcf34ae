use Rattle.std.proofs.Common.{◌≡◌, ◌<◌, ◌∙◌, rules}
use Rattle.sb_pool.proofs.Counted.{may_look}
use Rattle.sb_pool.proofs.semaphore.Semaphore.look.Goals as goal

pub load-requires : goal.load-requires
load-requires c =
    let inside : 16 < c.args.self.now.table.shared.table_id.words = search rules in
    (c.requires.own.0, inside, may_look _ _ _ _ c.args.place.now.me c.requires.seat)
