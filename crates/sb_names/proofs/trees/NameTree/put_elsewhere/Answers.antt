use Rattle.std.proofs.Common.{◌≡◌, ◌∙◌, ◌++◌, ◌∷◌, ap, sym, subst, refl, map}
use Rattle.std.specs.Prelude.{Some}
use Rattle.std.specs.BTreeMap.{get}
use Rattle.sb_arena.specs.Forests.{HasLiveLinks, IsLive, IsShallow}
use Rattle.sb_names.specs.Keys.{key_of}
use Rattle.sb_names.specs.Nodes.{HasNoChild, IsApart, KeepsRows, MovesEntry, hash_at, name_of, number_of, rows_of}
use Rattle.sb_base.specs.Orders.{by_pair}
use Rattle.sb_names.specs.Renames.{collected, renamed_key}
use Rattle.sb_names.proofs.Moving.{hash_after, move_index, move_keeps, move_rows, same_index}
use Rattle.sb_names.proofs.ObjectLemmas.{changed_objects, own_object}
use Rattle.sb_names.proofs.PutLemmas.{put_names}
use Rattle.sb_names.proofs.trees.NameTree.put_elsewhere.Goals as goal

pub invariant_of-self : goal.invariant_of-self
invariant_of-self c =
    (c.self.invariant.0, same_index c.self.inside.nodes c.self.inside.index c.reindex.new.index c.in_err-reindex.ensures.err c.self.invariant.1, c.self.invariant.2)

pub invariant_of-self-2 : goal.invariant_of-self-2
invariant_of-self-2 c =
    let f = c.self.inside.nodes in
    let a = c.args.node.0 in
    let d = number_of c.args.directory in
    let absent = subst (λ g. HasNoChild g d (key_of c.args.part.now)) (sym (ap (λ t. t.nodes) c.self.view_is)) c.requires.absent in
    let live = subst (λ g. IsLive g a) (sym (ap (λ t. t.nodes) c.self.view_is)) c.requires.live in (
      put_names f c.move_node.new.nodes a _ d c.args.part.now c.move_node.ensures c.in_ok-from_units.ensures c.self.invariant.0 c.requires.part absent,
      move_index f c.move_node.new.nodes a _ d c.args.part.now c.move_node.ensures c.in_ok-from_units.ensures live c.self.inside.index
          c.reindex.new.index c.hash_at-old_hash.result c.hash_of-hash.result c.self.invariant.1 c.hash_of-hash.ensures c.in_ok-reindex.ensures.moved,
      changed_objects f c.move_node.new.nodes a _ d c.move_node.ensures (get by_pair c.self.inside.objects) c.self.invariant.2
          (own_object f (get by_pair c.self.inside.objects) a c.value.result.now.object c.value.result.now c.self.invariant.2 c.value.ensures refl),
    )

pub returns-clause-rows : goal.returns-clause-rows
returns-clause-rows c =
    let f = c.self.inside.nodes in
    let f' = c.move_node.new.nodes in
    let a = c.args.node.0 in
    let d = number_of c.args.directory in
    let part = c.args.part.now in
    let absent = subst (λ g. HasNoChild g d (key_of part)) (sym (ap (λ t. t.nodes) c.self.view_is)) c.requires.absent in
    let live = subst (λ g. IsLive g a) (sym (ap (λ t. t.nodes) c.self.view_is)) c.requires.live in
    let apart = subst (λ g. IsApart g a d) (sym (ap (λ t. t.nodes) c.self.view_is)) c.requires.apart in
    let shallow = subst (λ g. IsShallow g.rows) (sym (ap (λ t. t.nodes) c.self.view_is)) c.establish_names.ensures.shallow in
    let links = subst (λ g. HasLiveLinks g) (sym (ap (λ t. t.nodes) c.self.view_is)) c.establish_names.ensures.live in
    let names' = put_names f f' a _ d part c.move_node.ensures c.in_ok-from_units.ensures c.self.invariant.0 c.requires.part absent in
    subst (λ g. rows_of f' ≡ collected (map (λ row. (renamed_key (name_of g (Some a)) (name_of g d ++ 92 ∷ key_of part) row.0, row.1)) (rows_of g))) (ap (λ t. t.nodes) c.self.view_is)
    (move_rows f f' a _ d part c.move_node.ensures c.in_ok-from_units.ensures live c.self.invariant.0 names' shallow c.establish_forest.ensures.shallow links
    c.establish_forest.ensures.live apart c.value.result.now c.value.ensures refl)

pub returns-clause-kept : goal.returns-clause-kept
returns-clause-kept c =
    let f = c.self.inside.nodes in
    let f' = c.move_node.new.nodes in
    let a = c.args.node.0 in
    let d = number_of c.args.directory in
    let part = c.args.part.now in
    let absent = subst (λ g. HasNoChild g d (key_of part)) (sym (ap (λ t. t.nodes) c.self.view_is)) c.requires.absent in
    let live = subst (λ g. IsLive g a) (sym (ap (λ t. t.nodes) c.self.view_is)) c.requires.live in
    let apart = subst (λ g. IsApart g a d) (sym (ap (λ t. t.nodes) c.self.view_is)) c.requires.apart in
    let shallow = subst (λ g. IsShallow g.rows) (sym (ap (λ t. t.nodes) c.self.view_is)) c.establish_names.ensures.shallow in
    let links = subst (λ g. HasLiveLinks g) (sym (ap (λ t. t.nodes) c.self.view_is)) c.establish_names.ensures.live in
    let names' = put_names f f' a _ d part c.move_node.ensures c.in_ok-from_units.ensures c.self.invariant.0 c.requires.part absent in
    subst (λ g. KeepsRows g f' (name_of g (Some a)) (name_of g d ++ 92 ∷ key_of part)) (ap (λ t. t.nodes) c.self.view_is)
    (move_keeps f f' a _ d part c.move_node.ensures c.in_ok-from_units.ensures live c.self.invariant.0 names' shallow c.establish_forest.ensures.shallow links
    c.establish_forest.ensures.live apart)

pub returns-clause-entry : goal.returns-clause-entry
returns-clause-entry c =
    let f = c.self.inside.nodes in
    let f' = c.move_node.new.nodes in
    let a = c.args.node.0 in
    let d = number_of c.args.directory in
    let live = subst (λ g. IsLive g a) (sym (ap (λ t. t.nodes) c.self.view_is)) c.requires.live in
    let is_new : c.hash_of-hash.result ≡ hash_at f' a =
    c.hash_of-hash.ensures ∙ sym (hash_after f f' a _ d c.args.part.now c.move_node.ensures c.in_ok-from_units.ensures live) in
    subst (λ t. MovesEntry t.index c.reindex.new.index.entries a (hash_at t.nodes a) (hash_at f' a)) c.self.view_is
    (subst (λ h. MovesEntry c.self.inside.index.entries c.reindex.new.index.entries a h (hash_at f' a)) c.hash_at-old_hash.ensures
    (subst (MovesEntry c.self.inside.index.entries c.reindex.new.index.entries a c.hash_at-old_hash.result) is_new c.in_ok-reindex.ensures.moved))
