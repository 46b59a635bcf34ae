use Rattle.std.proofs.Common.{◌≡◌, ◌∙◌, ◌<◌, ◌+◌, ◌-◌, ◌++◌, [], suc, ap, length, map, rules, arith}
use Rattle.std.specs.List.{range_with_len}
use Rattle.sb_statements.specs.declared.schedules.Actor.TheVariants.{Worker}
use Rattle.sb_shared.specs.Closing.{later_parts}
use Rattle.sb_shared.specs.Making.{keeper_of}
use Rattle.sb_shared.specs.Opening.{thread_of, thread_places}
use Rattle.sb_shared.specs.Seats.{KeeperValue, fresh_worker}
use Rattle.sb_shared.proofs.Ranges.{range_more}
use Rattle.sb_shared.proofs.openings.worker_seats.Goals as goal

pub worker_seat-requires-clause-first : goal.worker_seat-requires-clause-first
worker_seat-requires-clause-first c =
    let targets = c.args.script.now.targets in
    let t = c.loop-target.target in
    let n = length targets in
    let here : t < n = search rules in
    let next : n - t ≡ suc (n - (t + 1)) = omega (arith, here) in (
      map Worker (range_with_len (t + 1) (n - (t + 1))) ++ map thread_of (thread_places targets),
      c.loop-target.invariant.0 ∙ ap (λ m. keeper_of c.args.words.now.table_id c.args.words.now.key (map Worker (range_with_len t m) ++ map thread_of (thread_places targets))) next,
    )

pub loop-target-preserved : goal.loop-target-preserved
loop-target-preserved c =
    let words = c.args.words.now in
    let targets = c.args.script.now.targets in
    let t = c.loop-target.target in
    let n = length targets in
    let here : t < n = search rules in
    let next : n - t ≡ suc (n - (t + 1)) = omega (arith, here) in
    let first = c.loop-target.invariant.0 ∙ ap (λ m. keeper_of words.table_id words.key (map Worker (range_with_len t m) ++ map thread_of (thread_places targets))) next in (
      c.worker_seat.ensures.keeper ∙ ap (λ (k : KeeperValue). record k { parts = later_parts k.parts; taken = [] }) first,
      range_more (fresh_worker words.table_id words.key) t c.loop-target.seats.items c.push.new.self.items c.in_ok-worker_seat.field-0 c.loop-target.invariant.1 c.in_ok-worker_seat.ensures.seat c.in_ok-push.ensures.items,
    )
