use Rattle.std.proofs.Common.{◌∙◌, sym, subst, length-set, Some}
use Rattle.std.proofs.lemmas.Bool.{false≢true}
use Rattle.std.specs.Prelude.{IsSome}
use Rattle.sb_arena.proofs.Readers.{value_read}
use Rattle.sb_arena.proofs.Freeing.{set_kept}
use Rattle.sb_arena.proofs.arena.Arena.set.Goals as goal

pub invariant_of-self : goal.invariant_of-self
invariant_of-self g c =
    let kept = set_kept c.self.inside.links.items c.self.inside.values.items c.self.inside.free.items c.args.self.now c.self.view_is (c.self.invariant.0, c.self.invariant.1) c.self.invariant.3 c.args.node.0 c.requires c.args.value in
    rw (c.replace.ensures.after) (
      c.self.invariant.0 ∙ sym (length-set c.self.inside.values.items c.args.node.0 (Some c.args.value)),
      c.self.invariant.1,
      rw (length-set c.self.inside.values.items c.args.node.0 (Some c.args.value)) c.self.invariant.2,
      kept,
      c.self.invariant.4,
    )

pub unreachable-requires : goal.unreachable-requires
unreachable-requires g c =
    let none = value_read c.self.inside.links.items c.self.inside.values.items c.self.inside.free.items c.args.self.now c.self.view_is (c.self.invariant.0, c.self.invariant.1) c.args.node.0 c.requires c.index_mut.result.now c.index_mut.ensures.value ∙ sym c.in-None.ensures.value in
    absurd (false≢true (subst (λ o. IsSome o) none c.requires))

pub returns-clause-value : goal.returns-clause-value
returns-clause-value g c =
    value_read c.self.inside.links.items c.self.inside.values.items c.self.inside.free.items c.args.self.now c.self.view_is (c.self.invariant.0, c.self.invariant.1) c.args.node.0 c.requires c.index_mut.result.now c.index_mut.ensures.value ∙ sym c.in-Some.ensures.value
