use contract.Lifetimes.{Lfts}
use denote.Param.Send.{IsSync, param_sync, sendable}
use Rattle.std.proofs.Common.{rules, ◌≡◌, ◌<◌, ℕ, drop, length, subst, slice_index_or}
use Rattle.std.proofs.Crossing.{crosses}
use Rattle.sb_shared.specs.Seats.{IsSameWorker, WorkerSeatValue}
use Rattle.sb_tables.specs.Players.{AreHere}
use Rattle.sb_tables.proofs.Crossing.{crew_crosses}
use Rattle.sb_tables.proofs.Playing.{whole, workers_same}
use Rattle.sb_tables.specs.contracts.crews.attend_all.{J-row}
use Rattle.sb_tables.proofs.crews.attend_all.Given.{Over}
use Rattle.sb_tables.proofs.crews.attend_all.Lts.{arg-1-2}
use Rattle.sb_tables.proofs.crews.attend_all.Goals as goal

pub for_each_mut-requires-send-T : goal.for_each_mut-requires-send-T
for_each_mut-requires-send-T g c κs within = search (crew_crosses, sendable, crosses) depth 40

-- threads may share the closure, stated apart from the premises at hand
closure_sync : (g : Over) (κs : Lfts 10) → IsSync (J-row g.row.R g.row.J) → IsSync (arg-1-2 g.row.R g.row.J g.R.laws g.J.laws g.R.Threads-dict g.J.Judge-dict κs)
closure_sync g κs judge = search (crew_crosses, sendable, crosses) depth 60 fits 20000

pub for_each_mut-requires-sync-F : goal.for_each_mut-requires-sync-F
for_each_mut-requires-sync-F g c κs within =
    param_sync 2 (arg-1-2 g.row.R g.row.J g.R.laws g.J.laws g.R.Threads-dict g.J.Judge-dict κs) (closure_sync g κs c.type_bounds.sync-J)

pub returns : goal.returns
returns g c =
    let world = c.args.world.now in
    let old = c.as_mut_slice.result.now in
    let new = c.for_each_mut.new.s in
    let many : length new ≡ length old = search rules in
    let count : length new ≡ c.args.workers.len = search rules in
    let before : AreHere world old = search rules in
    let same : (i : ℕ) (d : WorkerSeatValue) → i < length old → IsSameWorker (slice_index_or old i d) (slice_index_or new i d) =
    λ i d l.
    let at = (c.for_each_mut.ensures i d l).1 in
    subst (λ x. IsSameWorker x (slice_index_or new i d)) at.argument_is (subst (λ y. IsSameWorker at.argument.now y) at.left at.call) in
    subst (λ l. AreHere world l) (whole c.args.workers.len new (drop (length new) c.args.workers.items) count) (workers_same world old new before many same)
