use Rattle.sb_tables.proofs.stops.told_stops.Goals as goal

pub put_threads-requires : goal.put_threads-requires
put_threads-requires c = λ k d l. (c.in_ok-world.ensures.players.threads.each k d l).table
