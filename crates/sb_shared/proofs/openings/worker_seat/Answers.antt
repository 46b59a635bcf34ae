use Rattle.std.proofs.Common.{◌≡◌, ◌∙◌, [], ap, subst, sym, map}
use Rattle.sb_actor.specs.WorkerStages.{Look}
use Rattle.sb_statements.specs.declared.schedules.Actor.TheVariants.{Worker}
use Rattle.sb_core.specs.Worlds.{first_worker}
use Rattle.sb_shared.specs.Keeping.{IsBody}
use Rattle.sb_shared.specs.Origins.{start_of}
use Rattle.sb_shared.specs.Parts.{part_of}
use Rattle.sb_shared.specs.Seats.{KeeperValue}
use Rattle.sb_shared.specs.declared.workers.WorkerBody.{WorkerBody}
use Rattle.sb_shared.proofs.Fresh.{fresh_body, seat_of, seat_with}
use Rattle.sb_shared.proofs.openings.worker_seat.Goals as goal

pub split-seat-requires-clause-first : goal.split-seat-requires-clause-first
split-seat-requires-clause-first c =
    let start = start_of c.args.words.now.key in
    let first = c.requires.first in
    (part_of start (Worker c.args.target), map (part_of start) first.0, ap (λ k. k.parts) first.1)

pub invariant_of-result : goal.invariant_of-result
invariant_of-result c =
    let key = c.args.words.now.key in
    let script = c.args.script.now in
    let t = c.args.target in
    let me = c.split-seat.result.me in
    let is : me ≡ seat_of key (Worker t) = c.split-seat.ensures.seat.1 ∙ ap (λ (s : KeeperValue). (seat_with s, [])) c.requires.first.1 in
    let state : c.new.result ≡ first_worker script.targets t = c.new.ensures ∙ ap (λ n. record { target = t; channels = n; channel = 0; stage = Look }) c.channel_count.ensures.count in
    subst (λ (b : WorkerBody). IsBody b.seat.me b.state b.book b.decision) (sym c.in_ok-new.ensures.ok)
    (fresh_body key script c.requires.opened t c.requires.there me c.new.result is state)
