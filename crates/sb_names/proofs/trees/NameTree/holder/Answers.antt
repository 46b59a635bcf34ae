use Rattle.std.proofs.Common.{rules, ◌∙◌, ap, subst}
use Rattle.std.specs.BTreeMap.{get}
use Rattle.std.specs.BTreeMap.Range.{entries_between}
use Rattle.std.specs.declared.ops.Bound.TheVariants.{Included}
use Rattle.sb_names.specs.Nodes.{IsIndexed}
use Rattle.sb_names.specs.Objects.{HasObjects}
use Rattle.sb_base.specs.Orders.{by_pair}
use Rattle.sb_names.proofs.ObjectLemmas.{no_holder}
use Rattle.sb_names.proofs.trees.NameTree.holder.Goals as goal

pub returns-clause-absent : goal.returns-clause-absent
returns-clause-absent c =
    let between = c.range-node-items.ensures.between (search rules)
    ∙ (λ k. entries_between by_pair (Included (c.new.ensures.start k)) (Included (c.new.ensures.end k)) c.self.inside.objects.entries) in
    no_holder c.args.self.now.nodes c.self.inside.objects c.args.number c.loop-node.node-iterator c.range-node-items.result
    (subst (λ f. HasObjects (get by_pair c.self.inside.objects) f) (ap (λ t. t.nodes) c.self.view_is) c.self.invariant.2)
    (subst (λ f. IsIndexed (get by_pair c.self.inside.index) f) (ap (λ t. t.nodes) c.self.view_is) c.self.invariant.1).1
    between (c.loop-node.invariant ∙ search rules) c.in-None.ensures.steps.0
