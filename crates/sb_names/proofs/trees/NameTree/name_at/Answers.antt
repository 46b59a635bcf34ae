use Rattle.std.proofs.Common.{rules, ◌≡◌, ◌∙◌, ◌++◌, ap, sym, subst, reverse}
use Rattle.std.specs.Prelude.{None, Some}
use Rattle.sb_arena.specs.Forests.{parent_of as node_parent, value_at}
use Rattle.sb_names.specs.Nodes.{IsThere, name_of, number_of}
use Rattle.sb_names.proofs.ObjectLemmas.{above_there, at_root, climbed}
use Rattle.sb_names.proofs.trees.NameTree.name_at.Goals as goal

pub loop-here-preserved : goal.loop-here-preserved
loop-here-preserved c =
    let f = c.args.self.now.nodes in
    let at = c.in-Some.at.0 in
    let whole = name_of f (Some c.args.node.0) in
    let here : number_of c.loop-here.here ≡ Some at = search rules in
    let value = subst (λ f. value_at f at ≡ Some c.value.result.now) (ap (λ t. t.nodes) c.self.view_is) c.value.ensures in
    let up : number_of c.parent-here.result ≡ node_parent f at = c.parent-here.ensures ∙ ap (λ t. node_parent t.nodes at) c.self.view_is in
    let so_far = subst (λ d. whole ≡ name_of f d ++ reverse c.loop-here.units.items) here c.loop-here.invariant.1 in (
      subst (λ d. IsThere f d) (sym up) (above_there f c.establish_names.ensures.live at),
      subst (λ d. whole ≡ name_of f d ++ reverse c.push_backwards.new.units.items) (sym up)
          (climbed f c.establish_names.ensures.shallow at c.value.result.now c.loop-here.units.items c.push_backwards.new.units.items whole value so_far (search rules)),
    )

pub returns : goal.returns
returns c =
    let f = c.args.self.now.nodes in
    let whole = name_of f (Some c.args.node.0) in
    let here : number_of c.loop-here.here ≡ None = search rules in
    c.new.ensures ∙ c.reverse.ensures.items
    ∙ sym (at_root f c.establish_names.ensures.shallow c.loop-here.units.items whole
    (subst (λ d. whole ≡ name_of f d ++ reverse c.loop-here.units.items) here c.loop-here.invariant.1))
