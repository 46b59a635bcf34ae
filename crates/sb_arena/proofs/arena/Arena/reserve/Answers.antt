use Rattle.std.proofs.Common.{rules, ◌≡◌, ◌∙◌, ◌∷◌, ◌++◌, [], ap, sym, length, None}
use Rattle.sb_arena.proofs.Readers.{tied_added}
use Rattle.sb_arena.proofs.Freeing.{empty, room_kept, still_room, vacant_kept, vacant_long, vacant_whole}
use Rattle.sb_arena.proofs.Rooting.{added_rooted}
use Rattle.sb_arena.proofs.arena.Arena.reserve.Goals as goal

pub invariant_of-self : goal.invariant_of-self
invariant_of-self g c =
    let cap = still_room (length c.self.inside.values.items) c.self.invariant.2 c.make_room.ensures.kept in
    rw (c.make_room.ensures.links, c.make_room.ensures.values, c.make_room.ensures.free) (c.self.invariant.0, c.self.invariant.1, cap, c.self.invariant.3, c.self.invariant.4)

pub invariant_of-self-2 : goal.invariant_of-self-2
invariant_of-self-2 g c =
    let none = empty c.self.inside.free.items (search rules) in
    let links_are = rw (c.make_room.ensures.links, c.fresh.ensures) at c.push_reserved.ensures.items in
    let values_are = rw c.make_room.ensures.values at c.push_reserved-2.ensures.items in
    let free_are : c.push_reserved-3.new.self.items ≡ length c.self.inside.links.items ∷ [] =
    c.push_reserved-3.ensures.items ∙ ap (λ xs. xs ++ length c.as_slice-number.result.now ∷ []) (c.make_room.ensures.free ∙ none)
    ∙ ap (λ xs. length xs ∷ []) c.as_slice-number.ensures.value in
    let cap = room_kept c.self.inside.values.items None _ (rw c.make_room.ensures.values at c.in_ok-make_room.ensures.number) in
    rw (links_are, values_are, free_are, c.push_reserved-3.ensures.capacity)
    (vacant_long c.self.inside.links.items c.self.inside.values.items c.self.inside.free.items c.args.self.now c.self.view_is (c.self.invariant.0, c.self.invariant.1) c.self.invariant.3 none, tied_added c.self.inside.links.items c.self.invariant.1, cap, vacant_kept c.self.inside.links.items c.self.inside.values.items c.self.inside.free.items c.args.self.now c.self.view_is (c.self.invariant.0, c.self.invariant.1) c.self.invariant.3 none, added_rooted c.self.inside.links.items c.self.inside.values.items c.self.inside.free.items c.args.self.now c.self.view_is (c.self.invariant.0, c.self.invariant.1) c.self.invariant.4)

pub returns-clause-ok : goal.returns-clause-ok
returns-clause-ok g c =
    let none = empty c.self.inside.free.items (search rules) in
    let links_are = rw (c.make_room.ensures.links, c.fresh.ensures) at c.push_reserved.ensures.items in
    let values_are = rw c.make_room.ensures.values at c.push_reserved-2.ensures.items in
    let free_are : c.push_reserved-3.new.self.items ≡ length c.self.inside.links.items ∷ [] =
    c.push_reserved-3.ensures.items ∙ ap (λ xs. xs ++ length c.as_slice-number.result.now ∷ []) (c.make_room.ensures.free ∙ none)
    ∙ ap (λ xs. length xs ∷ []) c.as_slice-number.ensures.value in
    rw (links_are, values_are, free_are) (vacant_whole c.self.inside.links.items c.self.inside.values.items c.self.inside.free.items c.args.self.now c.self.view_is (c.self.invariant.0, c.self.invariant.1) c.self.invariant.3 none)
