use Rattle.std.proofs.Common.{◌<◌, length, rules}
use Rattle.sb_shared.specs.Opening.{thread_places}
use Rattle.sb_shared.proofs.Ranges.{places_more}
use Rattle.sb_shared.proofs.listings.thread_places.Goals as goal

pub loop-target-preserved : goal.loop-target-preserved
loop-target-preserved c =
    let targets = c.args.script.now.targets in
    let t = c.loop-target.target in
    let here : t < length targets = search rules in
    places_more targets t c.thread_count.result c.loop-target.places.items c.push_places.new.places.items (thread_places targets) here c.thread_count.ensures.count
    c.in_ok-push_places.ensures c.loop-target.invariant
