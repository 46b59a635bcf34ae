use Rattle.std.proofs.Common.{rules, ◌∙◌, ap, subst}
use Rattle.std.specs.BTreeMap.{get}
use Rattle.std.specs.BTreeMap.Range.{entries_between}
use Rattle.std.specs.declared.ops.Bound.TheVariants.{Included}
use Rattle.sb_names.specs.Keys.{key_of}
use Rattle.sb_names.specs.Nodes.{IsIndexed, number_of}
use Rattle.sb_base.specs.Orders.{by_pair}
use Rattle.sb_names.proofs.IndexLemmas.{no_child}
use Rattle.sb_names.proofs.trees.NameTree.child.Goals as goal

pub returns-clause-absent : goal.returns-clause-absent
returns-clause-absent c =
    let between = c.range-number-items.ensures.between (search rules)
    ∙ (λ k. entries_between by_pair (Included (c.new.ensures.start k)) (Included (c.new.ensures.end k)) c.self.inside.index.entries) in
    no_child c.args.self.now.nodes c.self.inside.index (number_of c.args.directory) (key_of c.args.part.now) c.hash_of-hash.result
    c.loop-number.number-iterator c.range-number-items.result
    (subst (λ f. IsIndexed (get by_pair c.self.inside.index) f) (ap (λ t. t.nodes) c.self.view_is) c.self.invariant.1) c.hash_of-hash.ensures
    between (c.loop-number.invariant ∙ search rules) c.in-None.ensures.steps.0
