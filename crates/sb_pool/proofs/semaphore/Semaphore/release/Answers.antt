use Rattle.std.proofs.Common.{◌≡◌, ◌<◌, ◌∙◌, rules}
use Rattle.sb_pool.proofs.Counted.{may_add}
use Rattle.sb_pool.proofs.semaphore.Semaphore.release.Goals as goal

pub fetch_add-requires : goal.fetch_add-requires
fetch_add-requires c =
    let inside : 16 < c.args.self.now.table.shared.table_id.words = search rules in
    (c.requires.own.0, inside, may_add _ _ _ _ c.args.place.now.me c.requires.seat c.requires.out)
