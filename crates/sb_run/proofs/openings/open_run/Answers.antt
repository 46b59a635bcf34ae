use Rattle.std.proofs.Common.{◌≡◌, ◌∙◌, ◌<◌, ap, subst, sym, true, length, map, List, All}
use Rattle.std.proofs.lemmas.List.{length-map}
use Rattle.std.proofs.lemmas.List.FromFn.{length-range_with_len}
use Rattle.sb_actor.specs.WorkerTable.{is_looking}
use Rattle.sb_pool.specs.Pools.{AreNumbered}
use Rattle.sb_shared.specs.Opening.{target_places}
use Rattle.sb_shared.specs.Seats.{WorkerSeatValue, fresh_worker}
use Rattle.sb_run.specs.Works.{number_of}
use Rattle.sb_run.proofs.Opened.{fresh_look, fresh_numbered, opened}
use Rattle.sb_run.proofs.openings.open_run.Goals as goal

pub works_of-requires : goal.works_of-requires
works_of-requires g c =
    let p = c.in_ok-parts.parts in
    subst (λ (l : List WorkerSeatValue). All (λ (s : WorkerSeatValue). is_looking s.state.stage ≡ true) l) (sym c.in_ok-parts.ensures.workers)
    (fresh_look p.world.table p.world.key (target_places c.args.start.script.targets))

pub open_pool-requires-clause-works : goal.open_pool-requires-clause-works
open_pool-requires-clause-works g c =
    let p = c.in_ok-parts.parts in
    let targets = c.args.start.script.targets in
    let made : c.in_ok-works.works.items ≡ map (fresh_worker p.world.table p.world.key) (target_places targets) = c.in_ok-works.ensures ∙ c.in_ok-parts.ensures.workers in
    subst (λ n. 0 < n) (sym (ap length made ∙ length-map (target_places targets) (fresh_worker p.world.table p.world.key) ∙ length-range_with_len 0 (length targets))) c.requires.some

pub open_pool-requires-clause-numbered : goal.open_pool-requires-clause-numbered
open_pool-requires-clause-numbered g c =
    let p = c.in_ok-parts.parts in
    let made : c.in_ok-works.works.items ≡ map (fresh_worker p.world.table p.world.key) (target_places c.args.start.script.targets) = c.in_ok-works.ensures ∙ c.in_ok-parts.ensures.workers in
    subst (AreNumbered number_of) (sym made) (fresh_numbered p.world.table p.world.key (length c.args.start.script.targets))

pub returns : goal.returns
returns g c =
    let p = c.in_ok-parts.parts in
    let e = c.in_ok-parts.ensures in
    let o = c.in_ok-pool in
    opened c.args.start.policies c.args.start.script p.world p.keeper p.threads.items c.in_ok-works.works.items o.pool o.servers.items o.last
    e.policies e.script e.keeper e.threads (c.in_ok-works.ensures ∙ e.workers) (subst (λ n. 0 < n) (sym o.ensures.count) c.server_count.ensures.some) o.ensures.seats
