use Rattle.std.proofs.Common.{◌≡◌}
use Rattle.std.proofs.lemmas.List.Elements.{All-pop}
use Rattle.sb_shared.specs.Seats.{WorkerSeatValue}
use Rattle.sb_tables.proofs.openings.last_worker.Goals as goal

pub returns-clause-last : goal.returns-clause-last
returns-clause-last c =
    (All-pop (λ (s : WorkerSeatValue). s.table ≡ c.args.world.now.table) c.args.seats.now.items c.pop.new.self.items c.pop.result c.pop.ensures.items (λ k d l. (c.requires.each k d l).table)).1

pub returns-clause-others : goal.returns-clause-others
returns-clause-others c =
    (All-pop (λ (s : WorkerSeatValue). s.table ≡ c.args.world.now.table) c.args.seats.now.items c.pop.new.self.items c.pop.result c.pop.ensures.items (λ k d l. (c.requires.each k d l).table)).0
