use Rattle.std.proofs.Common.{rules, ◌≡◌, Some, length, map, sym, ap, subst, ◌∙◌}
use Rattle.std.proofs.lemmas.List.{length-map}
use Rattle.sb_pool.specs.Pools.{PoolValue, seen, AreFresh, ArePlaced}
use Rattle.sb_pool.proofs.Gathering.{divided_seats}
use Rattle.sb_pool.proofs.Placing.{placed_counted, placed_fresh}
use Rattle.sb_pool.proofs.pool.Pool.new.Goals as goal

pub returns-clause-seats : goal.returns-clause-seats
returns-clause-seats g c =
    let homes = map g.W.Numbered.home c.args.works.items in
    let queue = c.in-Ok.begun.queue in
    let shared = c.in-Ok.begun.semaphore.table.shared in
    let pool : PoolValue = record { table = queue.table.shared.table_id; size = queue.cap; semaphore = shared.table_id; seats = shared.key.seats } in
    let seats = c.divided-seats.result.items in
    let works = length (seen c.found_all.new.self).homes in
    let count : c.len.result ≡ length c.args.works.items = search rules in
    let size : length (map g.W.Numbered.home c.args.works.items) ≡ c.in-Ok.begun.queue.cap =
    length-map c.args.works.items g.W.Numbered.home ∙ sym count ∙ sym c.in-Ok.ensures.works.0 in
    let many = sym c.in-Ok.ensures.key.1 in
    divided_seats pool (seen c.found_all.new.self) homes (Some 1) seats c.found_all.ensures.view size c.divided-seats.ensures.divided
    (placed_counted pool works seats (subst (λ n. ArePlaced pool.semaphore works n seats) many c.divided-seats.ensures.placed) (c.divided-seats.ensures.len ∙ many))

pub returns-clause-fresh : goal.returns-clause-fresh
returns-clause-fresh g c =
    let queue = c.in-Ok.begun.queue in
    let shared = c.in-Ok.begun.semaphore.table.shared in
    let pool : PoolValue = record { table = queue.table.shared.table_id; size = queue.cap; semaphore = shared.table_id; seats = c.args.seats } in
    let long : length (seen c.found_all.new.self).homes ≡ length c.args.works.items = ap (λ v. length v.homes) c.found_all.ensures.view ∙ length-map c.args.works.items g.W.Numbered.home in
    subst (λ n. AreFresh n c.divided-seats.result.items) long
    (placed_fresh pool _ c.divided-seats.result.items c.divided-seats.ensures.placed c.divided-seats.ensures.len)
