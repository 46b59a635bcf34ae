use Rattle.std.proofs.Common.{◌≡◌, sym, refl, subst, length, ◌++◌, ◌∷◌}
use Rattle.std.specs.BTreeMap.{get, insert_entry}
use Rattle.std.specs.Cmp.Lexicographic.{slice_cmp}
use Rattle.std.specs.Ordering.{nat_cmp}
use Rattle.sb_arena.specs.Forests.{HasLiveLinks, IsShallow, IsSound, node_number}
use Rattle.sb_names.specs.Keys.{key_of}
use Rattle.sb_names.specs.Nodes.{name_of, number_of, rows_of}
use Rattle.sb_base.specs.Orders.{by_pair}
use Rattle.sb_names.specs.Rooms.{HasRoomFor, IsFreeFor}
use Rattle.sb_names.proofs.ObjectLemmas.{changed_objects}
use Rattle.sb_names.proofs.PutLemmas.{put_names, put_rows}
use Rattle.sb_names.proofs.RoomLemmas.{added_index, no_child_named}
use Rattle.sb_names.proofs.trees.NameTree.add_reserved.Goals as goal

pub invariant_of-self : goal.invariant_of-self
invariant_of-self c =
    let f = c.self.inside.nodes in
    let d = number_of c.args.new.directory in
    let part = c.args.new.part in
    let room = subst (λ t. HasRoomFor t c.args.new) (sym c.self.view_is) c.requires.room in
    let free = subst (λ t. IsFreeFor t.nodes c.args.new) (sym c.self.view_is) c.requires.free in
    let shallow = subst (λ t. IsShallow t.nodes.rows) (sym c.self.view_is) c.establish_names.ensures.shallow in
    let live = subst (λ t. HasLiveLinks t.nodes) (sym c.self.view_is) c.establish_names.ensures.live in (
      put_names f c.place_node.new.nodes (node_number f) _ d part c.place_node.ensures refl c.self.invariant.0 room.part
          (no_child_named f c.self.invariant.0 shallow live d (key_of part) free),
      added_index f c.place_node.new.nodes _ d c.place_node.ensures (get by_pair c.self.inside.index) c.self.invariant.1 room.entry c.establish_forest.ensures.even
          c.establish_forest.ensures.small,
      changed_objects f c.place_node.new.nodes (node_number f) _ d c.place_node.ensures (get by_pair c.self.inside.objects) c.self.invariant.2 room.holder,
    )

pub returns-clause-rows : goal.returns-clause-rows
returns-clause-rows c =
    let f = c.self.inside.nodes in
    let d = number_of c.args.new.directory in
    let part = c.args.new.part in
    let room = subst (λ t. HasRoomFor t c.args.new) (sym c.self.view_is) c.requires.room in
    let free = subst (λ t. IsFreeFor t.nodes c.args.new) (sym c.self.view_is) c.requires.free in
    let shallow = subst (λ t. IsShallow t.nodes.rows) (sym c.self.view_is) c.establish_names.ensures.shallow in
    let live = subst (λ t. HasLiveLinks t.nodes) (sym c.self.view_is) c.establish_names.ensures.live in
    let sound = subst (λ t. IsSound t.nodes) (sym c.self.view_is) c.establish_names.ensures.sound in
    let even = subst (λ t. length t.nodes.rows ≡ length t.nodes.values) (sym c.self.view_is) c.establish_names.ensures.even in
    let names' = put_names f c.place_node.new.nodes (node_number f) _ d part c.place_node.ensures refl c.self.invariant.0 room.part
    (no_child_named f c.self.invariant.0 shallow live d (key_of part) free) in
    subst (λ t. rows_of c.place_node.new.nodes ≡ insert_entry (slice_cmp nat_cmp) (rows_of t.nodes) (name_of t.nodes d ++ 92 ∷ key_of part) c.args.new.object)
    c.self.view_is
    (put_rows f c.place_node.new.nodes (node_number f) _ d part c.place_node.ensures refl c.self.invariant.0 names' shallow c.establish_forest.ensures.shallow live
    c.establish_forest.ensures.live (c.calls_change_one_value.ensures.free f sound even).0 c.args.new.object refl room.there)
