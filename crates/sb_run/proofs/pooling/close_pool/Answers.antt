use Rattle.std.proofs.Common.{◌∙◌, ap, subst, sym}
use Rattle.sb_pool.specs.Pools.{seen}
use Rattle.sb_pool.specs.Views.{IsLast}
use Rattle.sb_pool.specs.declared.protocol.PoolView.{PoolView}
use Rattle.sb_shared.specs.Seats.{WorkerSeatValue}
use Rattle.sb_run.proofs.Pooled.{homes_with, is_last, last_own, none_out, others_idle, others_own}
use Rattle.sb_run.proofs.pooling.close_pool.Goals as goal

pub take_seats-requires-clause-own : goal.take_seats-requires-clause-own
take_seats-requires-clause-own g c = last_own c.args.pool (seen c.args.last).homes c.args.others.items c.args.last c.requires.seats c.requires.some

pub take_seats-requires-clause-others : goal.take_seats-requires-clause-others
take_seats-requires-clause-others g c = others_own c.args.pool (seen c.args.last).homes c.args.others.items c.args.last c.requires.seats c.requires.some

pub take_seats-requires-clause-idle : goal.take_seats-requires-clause-idle
take_seats-requires-clause-idle g c = others_idle c.args.pool (seen c.args.last).homes c.args.others.items c.args.last c.requires.seats c.requires.some

pub close-requires-clause-last : goal.close-requires-clause-last
close-requires-clause-last g c = subst IsLast (sym c.take_seats.ensures.view) (is_last c.args.pool (seen c.args.last).homes c.args.others.items c.args.last c.requires.seats c.requires.some)

pub close-requires-clause-none : goal.close-requires-clause-none
close-requires-clause-none g c = ap (λ (v : PoolView WorkerSeatValue). v.out) c.take_seats.ensures.view ∙ none_out c.args.pool (seen c.args.last).homes c.args.others.items c.args.last c.requires.seats c.requires.some

pub returns-clause-homes : goal.returns-clause-homes
returns-clause-homes g c = c.close.ensures.homes ∙ ap (λ (v : PoolView WorkerSeatValue). v.homes) c.take_seats.ensures.view ∙ homes_with (seen c.args.last) c.args.others.items
