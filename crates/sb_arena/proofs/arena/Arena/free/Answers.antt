use Rattle.std.proofs.Common.{rules, arith, ◌≡◌, ◌∙◌, sym, subst, length, length-set, None, ◌≤◌}
use Rattle.std.specs.Prelude.{vec_len, vec_capacity}
use Rattle.std.proofs.lemmas.Bool.{false≢true}
use Rattle.std.specs.Prelude.{IsSome}
use Rattle.sb_arena.proofs.Readers.{value_read}
use Rattle.sb_arena.proofs.Freeing.{free_room, free_kept}
use Rattle.sb_arena.proofs.arena.Arena.free.Goals as goal

pub push_reserved-requires : goal.push_reserved-requires
push_reserved-requires g c =
    let room = free_room c.self.inside.links.items c.self.inside.values.items c.self.inside.free.items c.args.self.now c.self.view_is (c.self.invariant.0, c.self.invariant.1) c.self.invariant.3 c.args.node.0 c.requires.live c.requires.unlinked c.requires.childless in
    let l : vec_len c.self.inside.free ≡ length c.self.inside.free.items = search rules in
    omega (arith, room, l, c.self.invariant.2)

pub invariant_of-self : goal.invariant_of-self
invariant_of-self g c =
    let kept = free_kept c.self.inside.links.items c.self.inside.values.items c.self.inside.free.items c.args.self.now c.self.view_is (c.self.invariant.0, c.self.invariant.1) c.self.invariant.3 c.args.node.0 c.requires.live c.requires.unlinked c.requires.childless in
    let l : length c.self.inside.values.items ≤ vec_capacity c.push_reserved.new.self = search rules in
    rw (c.take-value.ensures.after, c.push_reserved.ensures.items) (
      c.self.invariant.0 ∙ sym (length-set c.self.inside.values.items c.args.node.0 None),
      c.self.invariant.1,
      rw (length-set c.self.inside.values.items c.args.node.0 None) l,
      kept,
      c.self.invariant.4,
    )

pub unreachable-requires : goal.unreachable-requires
unreachable-requires g c =
    let none = value_read c.self.inside.links.items c.self.inside.values.items c.self.inside.free.items c.args.self.now c.self.view_is (c.self.invariant.0, c.self.invariant.1) c.args.node.0 c.requires.live c.index_mut.result.now c.index_mut.ensures.value ∙ sym c.in-None.ensures.value in
    absurd (false≢true (subst (λ o. IsSome o) none c.requires.live))

pub returns-clause-value : goal.returns-clause-value
returns-clause-value g c =
    value_read c.self.inside.links.items c.self.inside.values.items c.self.inside.free.items c.args.self.now c.self.view_is (c.self.invariant.0, c.self.invariant.1) c.args.node.0 c.requires.live c.index_mut.result.now c.index_mut.ensures.value ∙ sym c.in-Some.ensures.value
