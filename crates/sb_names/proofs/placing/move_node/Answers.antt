use Rattle.std.proofs.Common.{◌≡◌, ◌∙◌, ap, sym, subst, length}
use Rattle.std.specs.Prelude.{Some, None}
use Rattle.sb_arena.specs.Forests.{IsLive, parent_of as node_parent, with_value, without_parent}
use Rattle.sb_names.specs.Nodes.{IsApart, IsChanged, IsThere, hung, number_of}
use Rattle.sb_names.proofs.Hanging.{hung_changes}
use Rattle.sb_names.proofs.Steps.{reset_apart, reset_changes, reset_live, reset_there, unlinked_root}
use Rattle.sb_names.proofs.placing.move_node.Goals as goal

pub hang-requires-clause-node : goal.hang-requires-clause-node
hang-requires-clause-node c =
    let f = c.args.nodes.now in
    let a = c.args.node.0 in
    subst (λ g. IsLive g a) (sym (c.set.ensures.set ∙ ap (λ g. with_value g a c.args.value) c.unlink.ensures))
    (reset_live c.links_change_one_parent.ensures.unlinked f c.establish_forest.ensures.live c.establish_forest.ensures.even a c.requires.live
    c.calls_change_one_value.ensures.set c.args.value)

pub hang-requires-clause-root : goal.hang-requires-clause-root
hang-requires-clause-root c =
    let f = c.args.nodes.now in
    let a = c.args.node.0 in
    subst (λ g. node_parent g a ≡ None) (sym (c.set.ensures.set ∙ ap (λ g. with_value g a c.args.value) c.unlink.ensures))
    (unlinked_root c.links_change_one_parent.ensures.unlinked f c.establish_forest.ensures.live c.establish_forest.ensures.even a c.requires.live)

pub hang-requires-clause-there : goal.hang-requires-clause-there
hang-requires-clause-there c =
    let f = c.args.nodes.now in
    let a = c.args.node.0 in
    let d = number_of c.args.directory in
    subst (λ g. IsThere g d) (sym (c.set.ensures.set ∙ ap (λ g. with_value g a c.args.value) c.unlink.ensures))
    (reset_there c.links_change_one_parent.ensures.unlinked f c.establish_forest.ensures.live c.establish_forest.ensures.even a c.requires.live
    c.calls_change_one_value.ensures.set c.args.value d c.requires.there)

pub hang-requires-clause-apart : goal.hang-requires-clause-apart
hang-requires-clause-apart c =
    let f = c.args.nodes.now in
    let a = c.args.node.0 in
    let d = number_of c.args.directory in
    subst (λ g. IsApart g a d) (sym (c.set.ensures.set ∙ ap (λ g. with_value g a c.args.value) c.unlink.ensures))
    (reset_apart c.links_change_one_parent.ensures.unlinked f c.establish_forest.ensures.live c.establish_forest.ensures.even a c.requires.live
    d c.requires.apart c.args.value)

pub returns : goal.returns
returns c =
    let f = c.args.nodes.now in
    let a = c.args.node.0 in
    let w = c.args.value in
    let d = number_of c.args.directory in
    let unlinks = c.links_change_one_parent.ensures.unlinked in
    let sets = c.calls_change_one_value.ensures.set in
    let live = c.establish_forest.ensures.live in
    let even = c.establish_forest.ensures.even in
    let reset = c.set.ensures.set ∙ ap (λ g. with_value g a w) c.unlink.ensures in
    subst (λ g. IsChanged f g a (Some w) d) (sym (c.hang.ensures ∙ ap (λ g. hung g a d) reset))
    (hung_changes c.links_change_one_parent.ensures.linked f (with_value (without_parent f a) a w) a (Some w) d
    (reset_changes unlinks f live even a c.requires.live sets w)
    (subst (λ g. length g.rows ≡ length g.values) reset c.establish_forest-2.ensures.even)
    (reset_live unlinks f live even a c.requires.live sets w) (reset_there unlinks f live even a c.requires.live sets w d c.requires.there))
