use Rattle.std.proofs.Common.{◌≡◌, ◌∙◌, ◌++◌, ◌∷◌, [], ap, sym, refl}
use Rattle.std.specs.Vec.Iter.{into_iter_items}
use Rattle.sb_pool.specs.Rooms.{filled}
use Rattle.sb_pool.proofs.Filling.{filled_some, filled_none, filled_below, passed_one, passed_all}
use Rattle.sb_pool.proofs.rooms.in_order.Goals as goal

pub loop-slot-init : goal.loop-slot-init
loop-slot-init g c = (c.requires.empty, refl, sym c.into_iter-slot-iterator.ensures.into_iter_gives.0)

pub push_reserved-requires : goal.push_reserved-requires
push_reserved-requires g c =
    rw (c.loop-slot.ordered.ok.0, c.loop-slot.invariant.0, c.loop-slot.invariant.1)
    (filled_below c.args.slots.items c.loop-slot.yielded (into_iter_items c.loop-slot.slot-iterator) (into_iter_items c.next.new.self) c.in-Some.slot _ c.loop-slot.invariant.2 c.in-Some.ensures.steps.0 c.requires.room)

pub loop-slot-preserved-in-Some-slot : goal.loop-slot-preserved-in-Some-slot
loop-slot-preserved-in-Some-slot g c = (
  c.push_reserved.ensures.items ∙ ap (λ works. works ++ c.in-Some-slot.work ∷ []) c.loop-slot.invariant.0 ∙ sym (filled_some c.loop-slot.yielded c.in-Some-slot.work)
      ∙ ap (λ slot. filled (c.loop-slot.yielded ++ slot ∷ [])) (sym c.in-Some-slot.is),
  c.push_reserved.ensures.capacity ∙ c.loop-slot.invariant.1,
  passed_one c.args.slots.items c.loop-slot.yielded (into_iter_items c.loop-slot.slot-iterator) (into_iter_items c.next.new.self) c.in-Some.slot c.loop-slot.invariant.2 c.in-Some.ensures.steps.0,
)

pub loop-slot-preserved : goal.loop-slot-preserved
loop-slot-preserved g c = (
  c.loop-slot.invariant.0 ∙ sym (filled_none c.loop-slot.yielded) ∙ ap (λ slot. filled (c.loop-slot.yielded ++ slot ∷ [])) (sym c.in-None-slot.is),
  c.loop-slot.invariant.1,
  passed_one c.args.slots.items c.loop-slot.yielded (into_iter_items c.loop-slot.slot-iterator) (into_iter_items c.next.new.self) c.in-Some.slot c.loop-slot.invariant.2 c.in-Some.ensures.steps.0,
)

pub returns : goal.returns
returns g c =
    c.loop-slot.invariant.0
    ∙ ap filled (sym (passed_all c.args.slots.items c.loop-slot.yielded (into_iter_items c.loop-slot.slot-iterator) c.loop-slot.invariant.2 (sym c.loop-slot.slot-iterator.rest.ok.0 ∙ c.in-None.ensures.steps.0)))
