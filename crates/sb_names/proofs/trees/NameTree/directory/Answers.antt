use Rattle.std.proofs.Common.{rules, ◌≡◌, ◌++◌, ◌∷◌, ap, sym, refl}
use Rattle.sb_names.specs.Keys.{key_of}
use Rattle.sb_names.specs.Nodes.{number_of}
use Rattle.sb_names.proofs.NodeLemmas.{name_root, walked_on}
use Rattle.sb_names.proofs.trees.NameTree.directory.Goals as goal

pub loop-later-init : goal.loop-later-init
loop-later-init c =
    (ap (λ us. us ++ key_of c.args.path.now) (sym (name_root c.args.self.now.nodes)), name_root c.args.self.now.nodes, c.requires)

pub loop-later-preserved : goal.loop-later-preserved
loop-later-preserved c =
    let first : c.loop-later.rest.now ≡ c.in-Some.field-0-0.now ∷ c.in-Some.later.now = search rules in (
      walked_on c.args.self.now.nodes c.establish_names.ensures.names c.establish_names.ensures.shallow c.establish_names.ensures.live
          c.args.path.now c.loop-later.rest.now c.in-Some.later.now c.first_component.result.0.now c.first_component.result.1.now c.in-Some.field-0-0.now
          (number_of c.loop-later.here) c.in-Some-child.node.0 c.loop-later.invariant.0 first c.loop-later.invariant.2
          c.first_component.ensures.whole c.in-Some-child.ensures.found,
      (c.in-Some-child.ensures.found.0, refl),
      c.first_component.ensures.path,
    )
