use Rattle.std.proofs.Common.{rules, ◌≡◌, ◌<◌, length, slice_index_or}
use Rattle.sb_tables.proofs.Playing.{thread_set, worker_set}
use Rattle.sb_tables.proofs.players.play.Goals as goal

pub returns-in_ok-serve-in-Worker : goal.returns-in_ok-serve-in-Worker
returns-in_ok-serve-in-Worker g c =
    let seats = c.args.players.now.workers.items in
    let old = c.index_mut.result.now in
    let low : c.in-Worker.target < length seats = search rules in
    let read : old ≡ slice_index_or seats c.in-Worker.target old = search rules in
    record {
      workers = worker_set c.args.world.now seats c.in-Worker.target old c.serve.new.seat c.requires.players.workers low read c.serve.ensures;
      threads = c.requires.players.threads;
    }

pub returns-else-at-len-2 : goal.returns-else-at-len-2
returns-else-at-len-2 g c =
    let seats = c.args.players.now.threads.items in
    let old = c.index_mut-in-Thread.result.now in
    let low : c.place_of-at.result < length seats = search rules in
    let read : old ≡ slice_index_or seats c.place_of-at.result old = search rules in
    record {
      workers = c.requires.players.workers;
      threads = thread_set c.args.world.now seats c.place_of-at.result old c.walk.new.seat c.requires.players.threads low read c.walk.ensures;
    }
