use Rattle.sb_pool.proofs.seats.PoolSeat.hand_back.Goals as goal
use Rattle.sb_pool.proofs.Seating.{back_own}
use Rattle.std.proofs.Common.{rules, ◌≡◌, ◌<◌, sym, subst, Some}
use Rattle.std.specs.Prelude.{slice_get}
use Rattle.sb_pool.specs.Counting.{IsPlaceOf}
use Rattle.sb_pool.specs.declared.seats.PoolSeat.{PoolSeat}
use Rattle.sb_pool.specs.Events.{IsPut}
use Rattle.sb_pool.specs.Pools.{history_of, seen}
use Rattle.sb_pool.specs.Views.{times, with_back}

pub put_back-requires-clause-out : goal.put_back-requires-clause-out
put_back-requires-clause-out g c = subst (λ n. 0 < times n (seen c.args.self.now).out) (sym c.requires.number) c.requires.out

pub put_back-requires-clause-home : goal.put_back-requires-clause-home
put_back-requires-clause-home g c =
    subst (λ n. slice_get (seen c.args.self.now).homes n ≡ Some (g.W.Numbered.home c.args.work)) (sym c.requires.number) c.requires.home

pub returns-clause-own : goal.returns-clause-own
returns-clause-own g c =
    let pool = c.args.pool.now in
    let seat : PoolSeat g.row.W.Denot g.row.W-Home.Denot = record { pass = c.put_back.new.self.pass; rooms = c.put_back.new.self.rooms; place = c.release.new.place } in
    let back : seen seat ≡ with_back (seen c.args.self.now) c.args.number = search rules in
    let place : IsPlaceOf pool.semaphore seat.place = search rules in
    let put : IsPut (history_of c.args.self.now) (history_of seat) = search rules in
    let table : seat.pass.table_id ≡ pool.table = search rules in
    back_own pool c.args.self.now seat c.requires.own.5 place c.args.number c.requires.own c.requires.out table c.put_back.ensures.own.1 c.put_back.ensures.others.0 put back
