use Rattle.std.proofs.Common.{◌≡◌, ◌∙◌, sym, subst, length}
use Rattle.std.specs.Prelude.{Some}
use Rattle.sb_arena.specs.Forests.{node_number, with_node}
use Rattle.sb_names.specs.Nodes.{IsApart, IsChanged, IsThere, hung, number_of}
use Rattle.sb_names.proofs.Changes.{added_changes}
use Rattle.sb_names.proofs.Hanging.{added_apart, added_live, added_there, hung_changes}
use Rattle.sb_names.proofs.placing.place_node.Goals as goal

pub hang-requires-clause-there : goal.hang-requires-clause-there
hang-requires-clause-there c =
    subst (λ f. IsThere f (number_of c.args.directory)) (sym c.in-Ok.ensures.ok)
    (added_there c.links_change_one_parent.ensures.added c.calls_change_one_value.ensures.added c.calls_change_one_value.ensures.free c.args.nodes.now c.args.node
    c.establish_forest.ensures.sound c.establish_forest.ensures.even c.establish_forest.ensures.live (number_of c.args.directory) c.requires.there)

pub hang-requires-clause-apart : goal.hang-requires-clause-apart
hang-requires-clause-apart c =
    subst (λ f. IsApart f c.in-Ok.number.0 (number_of c.args.directory)) (sym c.in-Ok.ensures.ok)
    (subst (λ n. IsApart (with_node c.args.nodes.now c.args.node) n (number_of c.args.directory)) (sym c.in-Ok.ensures.number)
    (added_apart c.links_change_one_parent.ensures.added c.calls_change_one_value.ensures.added c.calls_change_one_value.ensures.free c.args.nodes.now c.args.node
    c.establish_forest.ensures.sound c.establish_forest.ensures.even c.establish_forest.ensures.live (number_of c.args.directory) c.requires.there))

pub returns : goal.returns
returns c =
    let leaves = c.links_change_one_parent.ensures.added in
    let links = c.links_change_one_parent.ensures.linked in
    let sets = c.calls_change_one_value.ensures.added in
    let frees = c.calls_change_one_value.ensures.free in
    let f = c.args.nodes.now in
    let d = number_of c.args.directory in
    let sound = c.establish_forest.ensures.sound in
    let even = c.establish_forest.ensures.even in
    let live = c.establish_forest.ensures.live in
    let hangs = hung_changes links f (with_node f c.args.node) (node_number f) (Some c.args.node) d (added_changes leaves sets frees links f c.args.node sound even) in
    let added = added_live leaves sets frees f c.args.node sound even live in
    let there = added_there leaves sets frees f c.args.node sound even live d c.requires.there in
    subst (λ g. IsChanged f g (node_number f) (Some c.args.node) d)
    (sym (c.hang.ensures ∙ (λ i. hung (c.in-Ok.ensures.ok i) (c.in-Ok.ensures.number i) d)))
    (hangs (subst (λ g. length g.rows ≡ length g.values) c.in-Ok.ensures.ok c.establish_forest-2.ensures.even) added there)
