use Rattle.std.proofs.Common.{◌≡◌, ◌∙◌, ◌++◌, ◌∷◌, ap, sym, subst}
use Rattle.std.specs.Prelude.{Some}
use Rattle.sb_arena.specs.Forests.{value_at}
use Rattle.sb_names.specs.Keys.{key_of}
use Rattle.sb_names.specs.Nodes.{IsAt, number_of}
use Rattle.sb_names.proofs.SeekLemmas.{at_child, child_object, no_directory, no_parent, none_sought, parent_is_there, parent_sought}
use Rattle.sb_names.proofs.trees.NameTree.seek.Goals as goal

pub returns-in_default-clause-sought : goal.returns-in_default-clause-sought
returns-in_default-clause-sought c =
    no_directory c.args.self.now.nodes c.establish_names.ensures.names c.establish_names.ensures.shallow c.establish_names.ensures.live c.args.name.now
    c.last_component.result.0.now c.last_component.result.1.now c.last_component.ensures.directory c.in_default.ensures.absent c.in_default.ensures.root

pub returns-in_default-clause-parent : goal.returns-in_default-clause-parent
returns-in_default-clause-parent c =
    no_parent c.args.self.now.nodes c.establish_names.ensures.names c.establish_names.ensures.shallow c.establish_names.ensures.live c.args.name.now
    c.last_component.result.0.now c.last_component.result.1.now c.last_component.ensures.directory c.in_default.ensures.absent c.in_default.ensures.root

pub returns-in-Some-child-clause-sought : goal.returns-in-Some-child-clause-sought
returns-in-Some-child-clause-sought c =
    let known = c.establish_names.ensures in
    let f = c.args.self.now.nodes in
    let name = c.args.name.now in
    let path = c.last_component.result.0.now in
    let part = c.last_component.result.1.now in
    let is_path = c.last_component.ensures.directory in
    let whole = c.last_component.ensures.whole ∙ ap (λ path. path ++ 92 ∷ part) (sym is_path) in
    let d = number_of c.in-Some.directory in
    let at = c.in-Some.ensures.found in
    let value = subst (λ f. value_at f c.in-Some-child.node.0 ≡ Some c.value.result.now) (ap (λ t. t.nodes) c.self.view_is) c.value.ensures in (
      at_child f known.names known.shallow known.live name path part is_path whole d at c.in-Some-child.node.0 c.in-Some-child.ensures.found,
      parent_sought f known.names known.shallow known.live name path part is_path whole d at ∙ ap (λ o. Some o) (sym c.object_of-parent.ensures),
      child_object f known.names known.shallow known.live name path part is_path whole d at c.in-Some-child.node.0 c.value.result.now c.in-Some-child.ensures.found value,
    )

pub returns-in-Some-child-clause-parent : goal.returns-in-Some-child-clause-parent
returns-in-Some-child-clause-parent c =
    let known = c.establish_names.ensures in
    let whole = c.last_component.ensures.whole ∙ ap (λ path. path ++ 92 ∷ c.last_component.result.1.now) (sym c.last_component.ensures.directory) in
    parent_is_there c.args.self.now.nodes known.names known.shallow known.live c.args.name.now c.last_component.result.0.now c.last_component.result.1.now
    c.last_component.ensures.directory whole (number_of c.in-Some.directory) c.in-Some.ensures.found

pub returns-in-None-clause-sought : goal.returns-in-None-clause-sought
returns-in-None-clause-sought c =
    let known = c.establish_names.ensures in
    let f = c.args.self.now.nodes in
    let name = c.args.name.now in
    let path = c.last_component.result.0.now in
    let part = c.last_component.result.1.now in
    let is_path = c.last_component.ensures.directory in
    let whole = c.last_component.ensures.whole ∙ ap (λ path. path ++ 92 ∷ part) (sym is_path) in
    let d = number_of c.in-Some.directory in
    let at = c.in-Some.ensures.found in (
      subst (λ us. IsAt f d (key_of us)) is_path at,
      parent_sought f known.names known.shallow known.live name path part is_path whole d at ∙ ap (λ o. Some o) (sym c.object_of-parent.ensures),
      none_sought f known.names known.shallow known.live name path part is_path whole d at c.last_component.ensures.part c.in-None.ensures.absent,
    )

pub returns-in-None-clause-parent : goal.returns-in-None-clause-parent
returns-in-None-clause-parent c =
    let known = c.establish_names.ensures in
    let whole = c.last_component.ensures.whole ∙ ap (λ path. path ++ 92 ∷ c.last_component.result.1.now) (sym c.last_component.ensures.directory) in
    parent_is_there c.args.self.now.nodes known.names known.shallow known.live c.args.name.now c.last_component.result.0.now c.last_component.result.1.now
    c.last_component.ensures.directory whole (number_of c.in-Some.directory) c.in-Some.ensures.found
