use Rattle.std.proofs.Common.{◌∙◌, sym, length, length-set, Some}
use Rattle.sb_arena.proofs.Readers.{tied_added}
use Rattle.sb_arena.proofs.Freeing.{reuse_in, reuse_kept, reuse_number, fresh_number, fresh_kept, fresh_whole, fresh_long, none_left, room_kept, still_room}
use Rattle.sb_arena.proofs.Rooting.{added_rooted}
use Rattle.sb_arena.proofs.arena.Arena.add.Goals as goal

pub index_mut-requires : goal.index_mut-requires
index_mut-requires g c =
    let got = reuse_in c.self.inside.links.items c.self.inside.values.items c.self.inside.free.items c.args.self.now c.self.view_is (c.self.invariant.0, c.self.invariant.1) c.self.invariant.3 c.pop.new.self.items c.in-Some.number c.in-Some.ensures.items in
    rw c.self.inside.values.ok.0 got

pub invariant_of-self : goal.invariant_of-self
invariant_of-self g c =
    let kept = reuse_kept c.self.inside.links.items c.self.inside.values.items c.self.inside.free.items c.args.self.now c.self.view_is (c.self.invariant.0, c.self.invariant.1) c.self.invariant.3 c.pop.new.self.items c.in-Some.number c.in-Some.ensures.items c.args.value in (
      c.self.invariant.0 ∙ sym (length-set c.self.inside.values.items c.in-Some.number (Some c.args.value)),
      c.self.invariant.1,
      rw (length-set c.self.inside.values.items c.in-Some.number (Some c.args.value), c.pop.ensures.capacity) c.self.invariant.2,
      kept,
      c.self.invariant.4,
    )

pub invariant_of-self-in_default : goal.invariant_of-self-in_default
invariant_of-self-in_default g c =
    let none = none_left c.self.inside.free.items c.pop.new.self.items c.in-None.ensures.items (sym c.self.inside.free.ok.0 ∙ c.in-None.ensures.cases.0) in
    let cap = still_room (length c.self.inside.values.items) (rw c.pop.ensures.capacity c.self.invariant.2) c.make_room.ensures.kept in
    rw (c.make_room.ensures.links, c.make_room.ensures.values, c.make_room.ensures.free ∙ none.1 ∙ sym none.0) (c.self.invariant.0, c.self.invariant.1, cap, c.self.invariant.3, c.self.invariant.4)

pub returns-in_default-clause-err : goal.returns-in_default-clause-err
returns-in_default-clause-err g c =
    let none = none_left c.self.inside.free.items c.pop.new.self.items c.in-None.ensures.items (sym c.self.inside.free.ok.0 ∙ c.in-None.ensures.cases.0) in
    rw (c.make_room.ensures.links, c.make_room.ensures.values, c.make_room.ensures.free ∙ none.1 ∙ sym none.0) c.self.view_is

pub returns-in_default-clause-room : goal.returns-in_default-clause-room
returns-in_default-clause-room g c =
    let none = none_left c.self.inside.free.items c.pop.new.self.items c.in-None.ensures.items (sym c.self.inside.free.ok.0 ∙ c.in-None.ensures.cases.0) in
    rw (← c.self.view_is) none.0

pub push_reserved-requires : goal.push_reserved-requires
push_reserved-requires g c = rw c.make_room.new.links.ok.0 c.in-Ok.ensures.link

pub push_reserved-requires-in-None : goal.push_reserved-requires-in-None
push_reserved-requires-in-None g c = rw c.make_room.new.values.ok.0 c.in-Ok.ensures.value

pub invariant_of-self-in-None : goal.invariant_of-self-in-None
invariant_of-self-in-None g c =
    let none = none_left c.self.inside.free.items c.pop.new.self.items c.in-None.ensures.items (sym c.self.inside.free.ok.0 ∙ c.in-None.ensures.cases.0) in
    let links_are = rw (c.make_room.ensures.links, c.fresh.ensures) at c.push_reserved.ensures.items in
    let values_are = rw c.make_room.ensures.values at c.push_reserved-in-None.ensures.items in
    let cap = room_kept c.self.inside.values.items (Some c.args.value) _ (rw c.make_room.ensures.values at c.in-Ok.ensures.number) in
    rw (c.make_room.ensures.free ∙ none.1, links_are, values_are)
    (fresh_long c.self.inside.links.items c.self.inside.values.items c.self.inside.free.items c.args.self.now c.self.view_is (c.self.invariant.0, c.self.invariant.1) c.self.invariant.3 none.0 c.args.value, tied_added c.self.inside.links.items c.self.invariant.1, cap, fresh_kept c.self.inside.links.items c.self.inside.values.items c.self.inside.free.items c.args.self.now c.self.view_is (c.self.invariant.0, c.self.invariant.1) c.self.invariant.3 none.0 c.args.value, added_rooted c.self.inside.links.items c.self.inside.values.items c.self.inside.free.items c.args.self.now c.self.view_is (c.self.invariant.0, c.self.invariant.1) c.self.invariant.4)

pub returns-in-Some-clause-number : goal.returns-in-Some-clause-number
returns-in-Some-clause-number g c = reuse_number c.self.inside.links.items c.self.inside.values.items c.self.inside.free.items c.args.self.now c.self.view_is (c.self.invariant.0, c.self.invariant.1) c.self.invariant.3 c.pop.new.self.items c.in-Some.number c.in-Some.ensures.items

pub returns-in-Ok-clause-number : goal.returns-in-Ok-clause-number
returns-in-Ok-clause-number g c =
    rw c.as_slice-number.ensures.value (fresh_number c.self.inside.links.items c.self.inside.values.items c.self.inside.free.items c.args.self.now c.self.view_is (c.self.invariant.0, c.self.invariant.1) c.self.invariant.3 (none_left c.self.inside.free.items c.pop.new.self.items c.in-None.ensures.items (sym c.self.inside.free.ok.0 ∙ c.in-None.ensures.cases.0)).0 c.args.value)

pub returns-in-Ok-clause-ok : goal.returns-in-Ok-clause-ok
returns-in-Ok-clause-ok g c =
    let none = none_left c.self.inside.free.items c.pop.new.self.items c.in-None.ensures.items (sym c.self.inside.free.ok.0 ∙ c.in-None.ensures.cases.0) in
    let links_are = rw (c.make_room.ensures.links, c.fresh.ensures) at c.push_reserved.ensures.items in
    let values_are = rw c.make_room.ensures.values at c.push_reserved-in-None.ensures.items in
    rw (c.make_room.ensures.free ∙ none.1, links_are, values_are) (fresh_whole c.self.inside.links.items c.self.inside.values.items c.self.inside.free.items c.args.self.now c.self.view_is (c.self.invariant.0, c.self.invariant.1) c.self.invariant.3 none.0 c.args.value)
