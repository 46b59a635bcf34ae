use denote.Param.Send.{sendable}
use Rattle.std.proofs.Common.{rules, ◌≡◌, ◌<◌, ℕ, drop, length, subst, slice_index_or}
use Rattle.std.proofs.Crossing.{crosses}
use Rattle.sb_shared.specs.Closing.{AreThreads}
use Rattle.sb_shared.specs.Seats.{IsSameThread, ThreadSeatValue}
use Rattle.sb_tables.proofs.Crossing.{crew_crosses}
use Rattle.sb_tables.proofs.Playing.{threads_same, whole}
use Rattle.sb_tables.proofs.crews.finish_all.Goals as goal

pub for_each_mut-requires-send-T : goal.for_each_mut-requires-send-T
for_each_mut-requires-send-T g c κs within = search (crew_crosses, sendable, crosses) depth 40

pub for_each_mut-requires-sync-F : goal.for_each_mut-requires-sync-F
for_each_mut-requires-sync-F g c κs within = search (crew_crosses, sendable, crosses) depth 40

pub returns-clause-seats : goal.returns-clause-seats
returns-clause-seats g c =
    let world = c.args.world.now in
    let old = c.as_mut_slice.result.now in
    let new = c.for_each_mut.new.s in
    let many : length new ≡ length old = search rules in
    let count : length new ≡ c.args.seats.len = search rules in
    let before : AreThreads world old = search rules in
    let same : (i : ℕ) (d : ThreadSeatValue) → i < length old → IsSameThread (slice_index_or old i d) (slice_index_or new i d) =
    λ i d l.
    let at = (c.for_each_mut.ensures i d l).1 in
    subst (λ x. IsSameThread x (slice_index_or new i d)) at.argument_is (subst (λ y. IsSameThread at.argument.now y) at.left at.call) in
    subst (λ l. AreThreads world l) (whole c.args.seats.len new (drop (length new) c.args.seats.items) count) (threads_same world old new before many same)
