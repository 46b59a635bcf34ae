use Rattle.std.proofs.Common.{◌≡◌, ◌∙◌, ◌++◌, ◌∷◌, [], Some, ap, sym, refl, length, map}
use Rattle.std.proofs.lemmas.List.{length-map, map-append}
use Rattle.std.specs.Vec.Iter.{into_iter_items}
use Rattle.sb_pool.specs.Views.{fresh_view, with_home}
use Rattle.sb_pool.proofs.Filling.{passed_at, passed_below, passed_one, passed_all}
use Rattle.sb_pool.proofs.seats.PoolSeat.found_all.Goals as goal

pub loop-work-init : goal.loop-work-init
loop-work-init g c = (c.requires.own, c.requires.first, refl, sym c.into_iter-work-iterator.ensures.into_iter_gives.0, refl)

pub found-requires-clause-number : goal.found-requires-clause-number
found-requires-clause-number g c =
    rw (c.loop-work.invariant.1, length-map)
    (c.requires.numbered (length c.loop-work.yielded) c.in-Some.work (passed_at c.args.works.items c.loop-work.yielded (into_iter_items c.loop-work.work-iterator) (into_iter_items c.next.new.self) c.in-Some.work c.loop-work.invariant.3 c.in-Some.ensures.steps.0))

pub found-requires-clause-room : goal.found-requires-clause-room
found-requires-clause-room g c =
    rw (c.loop-work.invariant.1, length-map) (passed_below c.args.works.items c.loop-work.yielded (into_iter_items c.loop-work.work-iterator) (into_iter_items c.next.new.self) c.in-Some.work _ c.loop-work.invariant.3 c.in-Some.ensures.steps.0 c.requires.room)

pub loop-work-preserved : goal.loop-work-preserved
loop-work-preserved g c = (
  c.found.ensures.own,
  c.found.ensures.view ∙ ap (λ v. with_home v (g.W.Numbered.home c.in-Some.work)) c.loop-work.invariant.1
      ∙ ap (λ homes. fresh_view 0 homes (Some 1)) (sym (map-append g.W.Numbered.home c.loop-work.yielded (c.in-Some.work ∷ []))),
  c.found.ensures.others.0 ∙ c.loop-work.invariant.2,
  passed_one c.args.works.items c.loop-work.yielded (into_iter_items c.loop-work.work-iterator) (into_iter_items c.next.new.self) c.in-Some.work c.loop-work.invariant.3 c.in-Some.ensures.steps.0,
  c.found.ensures.others.1 ∙ c.loop-work.invariant.4,
)

pub returns-clause-view : goal.returns-clause-view
returns-clause-view g c =
    c.loop-work.invariant.1
    ∙ ap (λ works. fresh_view 0 (map g.W.Numbered.home works) (Some 1)) (sym (passed_all c.args.works.items c.loop-work.yielded (into_iter_items c.loop-work.work-iterator) c.loop-work.invariant.3 (sym c.loop-work.work-iterator.rest.ok.0 ∙ c.in-None.ensures.steps.0)))
